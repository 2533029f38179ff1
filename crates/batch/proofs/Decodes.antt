-- A list of words is read as what was written: each number whole, each function as its call. Assumes nothing.
use Prim.Native.Nat.{ℕ, suc, ◌+◌, ◌*◌, ◌/◌, ◌≤◌, ◌<◌, min}
use native.Mathlib.Omega.{arith}
use mathlib.Core.Path.{◌≡◌, refl, sym, ap, ◌∙◌}
use mathlib.Core.Bool.{Bool, true, false, cond}
use mathlib.Core.List.{List, [], ◌∷◌, ◌++◌, map, append_assoc, append-nil}
use mathlib.Core.Logic.{◌⊎◌, inl, inr}
use mathlib.Core.Option.{Option, none, some}
use lib.Dec.{ltb}
use borrow.Author.Tests.{le-leb, lt-leb, ltb-true, ltb-false}
use lib.IntN.{ℤ, pos, negsuc}
use lib.ListN.{length, get_or, length-append, length-map}
use lib.Seq.{get_or-append-add}
use mir.Syntax.{w32}
use mir.Val.{SFits, to_z}
use mir.Facts.{to_z-of_z, Fits-of_z}
use Rattle.model.specs.State.{Vector}
use Rattle.model.specs.Lists.{All, words}
use Rattle.model.specs.Acts.{own, refer, set_vector}
use Rattle.model.specs.declared.sem.SemaphoreCall.TheVariants.{Signal as signal, Acquire as acquire}
use Rattle.model.specs.declared.dtq.QueueCall.TheVariants.{Send as send, Receive as receive, ForcedSend as forced_send}
use Rattle.model.specs.declared.Patience.TheVariants.{Polling, Forever}
use Rattle.model.specs.declared.svc.ExtendedCall.TheVariants.{Enter, Leave}
use Rattle.model.specs.Calls.{Op, Call, call, on_semaphore, on_queue, on_level}
use Rattle.batch.specs.declared.numbers.Numbers.{Numbers}
use Rattle.batch.specs.Encoding.{numbers_at, meanings, item_of, item_at, items_in, calls_in, groups, answerable}
use Rattle.batch.specs.Written.{numbers_by, numbers_of, words_of, Unsigned, Signed, Fits}
use Rattle.batch.specs.Runs.{calls_made}
use Rattle.batch.proofs.Performs.{beyond}

-- ---- eight words of 32 bits
signed_fits : (z : ℤ) → Signed z → SFits w32 z
signed_fits (pos n) h = record { sfits = h }
signed_fits (negsuc n) h = record { sfits = h }

pub words_eight : (q : Numbers) → length (words_of q) ≡ 8
words_eight q = refl

pub words_unsigned : (q : Numbers) → Fits q → All Unsigned (words_of q)
words_unsigned q f =
    let t = (Fits-of_z (signed_fits q.caller f.caller)).fits in
    let n = (Fits-of_z (signed_fits q.object f.object)).fits in
    (f.function, (t, (n, (f.word, (f.normal1, (f.normal2, (f.management, (f.reference, tt))))))))

-- ---- what is written is read, at any place of a slice
module _ (before behind : List ℕ) (k : ℕ) (e : length before ≡ k * 8) where
  word_at : (ws : List ℕ) (j : ℕ) → get_or (before ++ ws) (k * 8 + j) 0 ≡ get_or ws j 0
  word_at ws j = ap (λ (i : ℕ). get_or (before ++ ws) (i + j) 0) (sym e) ∙ get_or-append-add before ws j 0

  pub reads : (q : Numbers) → Fits q → item_at (before ++ (words_of q ++ behind)) k ≡ item_of q
  reads q f =
      let ws = words_of q ++ behind in
      let all = before ++ ws in
      let l : k * 8 + 8 ≤ length all = omega (arith, length-append before ws) in
      let z : k * 8 ≡ k * 8 + 0 = omega arith in
      let p = ap (λ (i : ℕ). get_or all i 0) z ∙ word_at ws 0 in
      let x = ap (to_z w32) (word_at ws 1) ∙ to_z-of_z (signed_fits q.caller f.caller) in
      let y = ap (to_z w32) (word_at ws 2) ∙ to_z-of_z (signed_fits q.object f.object) in
      let r : numbers_at all (k * 8) ≡ q =
      λ i. record { function = p i; caller = x i; object = y i; word = word_at ws 3 i; vector = record { normal1 = word_at ws 4 i; normal2 = word_at ws 5 i; management = word_at ws 6 i; reference = word_at ws 7 i } } in
      ap (λ (d : Bool). cond d (item_of (numbers_at all (k * 8))) none) (le-leb (k * 8 + 8) (length all) l) ∙ ap item_of r

-- ---- every call has a function, whatever stands where it has no object, no word and no vector; what has none of their functions is no call
means_by : (n : ℤ) (w : ℕ) (v : Vector) (t : ℤ) (o : Op) → item_of (numbers_by n w v t o) ≡ some (call t o)
means_by n w v t (on_semaphore i (own signal)) = refl
means_by n w v t (on_semaphore i (own (acquire Polling))) = refl
means_by n w v t (on_semaphore i (own (acquire Forever))) = refl
means_by n w v t (on_semaphore i refer) = refl
means_by n w v t (on_semaphore i (set_vector x)) = refl
means_by n w v t (on_queue i (own (send Polling x))) = refl
means_by n w v t (on_queue i (own (send Forever x))) = refl
means_by n w v t (on_queue i (own (receive Polling))) = refl
means_by n w v t (on_queue i (own (receive Forever))) = refl
means_by n w v t (on_queue i refer) = refl
means_by n w v t (on_queue i (set_vector x)) = refl
means_by n w v t (on_queue i (own (forced_send x))) = refl
means_by n w v t (on_level Enter) = refl
means_by n w v t (on_level Leave) = refl

pub means : (n : ℤ) (w : ℕ) (v : Vector) (c : Call) → item_of (numbers_of n w v c) ≡ some c
means n w v c = means_by n w v c.caller c.op

pub means_nothing : (q : Numbers) → (q.function ≡ 0) ⊎ (14 < q.function) → item_of q ≡ none
means_nothing q (inl e) = rw e
means_nothing q (inr l) = beyond (meanings q) q.function l

-- so a call's eight words are that call at any place, and fewer than eight are none
pub decodes : (n : ℤ) (w : ℕ) (v : Vector) (c : Call) → Fits (numbers_of n w v c) → (before behind : List ℕ) (k : ℕ) → length before ≡ k * 8
    → item_at (before ++ (words_of (numbers_of n w v c) ++ behind)) k ≡ some c
decodes n w v c f before behind k e = reads before behind k e (numbers_of n w v c) f ∙ means n w v c

pub too_few : (ws : List ℕ) (k : ℕ) → length ws < k * 8 + 8 → item_at ws k ≡ none
too_few ws k l = ap (λ (d : Bool). cond d (item_of (numbers_at ws (k * 8))) none) (lt-leb (k * 8 + 8) (length ws) l)

-- ---- a whole list, the newest first
words_length : (qs : List Numbers) → length (words words_of qs) ≡ length qs * 8
words_length [] = refl
words_length (q ∷ qs) = omega (arith, length-append (words words_of qs) (words_of q), words_length qs)

pub all_read : (qs : List Numbers) → All Fits qs → (behind : List ℕ) → items_in (words words_of qs ++ behind) (length qs) ≡ map item_of qs
all_read [] f behind = refl
all_read (q ∷ qs) f behind =
    let a = append_assoc (words words_of qs) (words_of q) behind in
    let x = ap (λ (l : List ℕ). item_at l (length qs)) a ∙ reads (words words_of qs) behind (length qs) (words_length qs) q f.0 in
    let y = ap (λ (l : List ℕ). items_in l (length qs)) a ∙ all_read qs f.1 (words_of q ++ behind) in
    λ i. x i ∷ y i

-- what is no call is left out
pub left_out : (newer older : List (Option Call)) → calls_in (newer ++ (none ∷ older)) ≡ calls_in (newer ++ older)
left_out [] older = refl
left_out (none ∷ newer) older = left_out newer older
left_out (some c ∷ newer) older = ap (λ (l : List Call). c ∷ l) (left_out newer older)

-- ---- how many items are made: as many as are held, of which a rest of fewer than eight words is one, and have room for their answers
pub whole_groups : (qs : List Numbers) → groups (length (words words_of qs)) ≡ length qs
whole_groups qs = omega (arith, words_length qs)

pub rest_group : (k r : ℕ) → 0 < r → r < 8 → groups (k * 8 + r) ≡ suc k
rest_group k r l h = omega arith

pub smaller : (calls answers : ℕ) → answerable calls answers ≡ min (groups calls) (answers / 11)
smaller calls answers = go (ltb (answers / 11) (groups calls)) refl
  where
    go : (b : Bool) → ltb (answers / 11) (groups calls) ≡ b → cond b (answers / 11) (groups calls) ≡ min (groups calls) (answers / 11)
    go true e = let h = ltb-true (answers / 11) (groups calls) e in omega arith
    go false e = let h = ltb-false (answers / 11) (groups calls) e in omega arith

-- ---- so every list of calls can be made
only_calls : (n : ℤ) (w : ℕ) (v : Vector) (cs : List Call) → calls_in (map item_of (map (numbers_of n w v) cs)) ≡ cs
only_calls n w v [] = refl
only_calls n w v (c ∷ cs) =
    let x = means n w v c in
    let y = only_calls n w v cs in
    ap (λ (i : Option Call). calls_in (i ∷ map item_of (map (numbers_of n w v) cs))) x ∙ ap (λ (l : List Call). c ∷ l) y

pub all_made : (n : ℤ) (w : ℕ) (v : Vector) (cs : List Call) → All Fits (map (numbers_of n w v) cs) → (answers : List ℕ) → length cs * 11 ≤ length answers
    → calls_made (words words_of (map (numbers_of n w v) cs)) answers ≡ cs
all_made n w v cs f answers l =
    let qs = map (numbers_of n w v) cs in
    let ws = words words_of qs in
    let m : answerable (length ws) (length answers) ≡ length qs = omega (arith, smaller (length ws) (length answers), whole_groups qs, length-map cs (numbers_of n w v)) in
    let x = ap (λ (l : List ℕ). items_in l (length qs)) (sym (append-nil ws)) ∙ all_read qs f [] in
    ap (λ (k : ℕ). calls_in (items_in ws k)) m ∙ ap calls_in x ∙ only_calls n w v cs
