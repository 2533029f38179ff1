-- The starred list, made by the program's operations, gives the starred answers, and nothing is left out of what is made. Assumes nothing.
use Prim.Native.Nat.{ℕ, suc}
use native.Mathlib.Omega.{arith}
use mathlib.Core.Path.{◌≡◌, refl, ap, ◌∙◌}
use mathlib.Core.List.{List, [], ◌∷◌, map}
use lib.IntN.{ℤ, pos, neg_ℤ}
use lib.ListN.{length, get_or}
use Rattle.model.specs.State as Model
use Rattle.model.specs.State.{sem_at, queue_at}
use Rattle.model.specs.Answers.{result_of}
use Rattle.model.specs.Table.{Entry, enter, close}
use Rattle.model.specs.Verdict.{verdict}
use Rattle.model.specs.Calls.{Op, call}
use Rattle.model.specs.declared.Outcome.TheVariants as Outcome
use Rattle.kernel.specs.declared.state.State.{State}
use Rattle.kernel.specs.declared.state.Answer.{Answer}
use Rattle.kernel.specs.declared.state.Entered.{Entered}
use Rattle.kernel.specs.View.{view_of}
use Rattle.kernel.specs.Promises.{Begins, Enters, Does}
use Rattle.laws.specs.Runs.{said_by}
use Rattle.laws.specs.Starred.{Item, does, count, buffer, asks, Step, unit, entries, enter_all, bench, run, starred}
use Rattle.laws.specs.Made.{EntersAll, none, one, Shown, shown_of, restarted, answered, counted, buffered, judged, Makes, end, restarts, calls, looks, reads, judges}
use Rattle.laws.proofs.Starred.{starred_runs}

-- ---- the table that the program's operations make is the bench table
all_entered : {s s' : State} {l : List Entry} → EntersAll s l s' → view_of s' ≡ enter_all (view_of s) l
all_entered (none s) = refl
all_entered (one s i r g l s' e) = all_entered e ∙ ap (λ (m : Model.State). enter_all m l) g.seen

is_bench : {s : State} {r₀ r : Entered} → Begins (pos 2) unit r₀ → EntersAll r₀.state entries s → Enters s (close (view_of s)) r → view_of r.state ≡ bench
unfolding bench
is_bench b e g = g.seen ∙ ap (λ (m : Model.State). (close m).state) (all_entered e ∙ ap (λ (m : Model.State). enter_all m entries) b.seen)

-- ---- what is made shows what the rules give
-- as many words, and each the same
same_words : (a b : List ℕ) → length a ≡ length b → ((k : ℕ) → get_or a k 0 ≡ get_or b k 0) → a ≡ b
same_words [] [] n f = refl
same_words [] (y ∷ b) n f = absurd (omega arith)
same_words (x ∷ a) [] n f = absurd (omega arith)
same_words (x ∷ a) (y ∷ b) n f =
    let e = f 0 in
    let k = same_words a b (omega arith) (λ j. f (suc j)) in
    λ i. e i ∷ k i

made : {table s : State} {l : List Item} {rs : List Shown} → view_of table ≡ bench → Makes table s l rs → rs ≡ map shown_of (run (view_of s) l)
unfolding run
made z (end s) = refl
made z (restarts s l rs m) = ap (λ (k : List Shown). restarted ∷ k) (made z m ∙ ap (λ (x : Model.State). map shown_of (run x l)) z)
made z (calls s t op r d l rs m) =
    let a = ap (λ (x : Answer). answered (said_by x).reply) d.same in
    let b = made z m ∙ ap (λ (x : Model.State). map shown_of (run x l)) d.seen in
    λ i. a i ∷ b i
made z (looks s i x e l rs m) =
    let k = made z m in
    λ j. counted (e j).count ∷ k j
made z (reads s q b n f l rs m) =
    let e = same_words b (queue_at (view_of s) q).buffer n f in
    let k = made z m in
    λ j. buffered (e j) ∷ k j
made z (judges s d b x w r e l rs m) =
    let k = made z m in
    λ i. judged (e i) ∷ k i

-- ---- the starred runs, by the program: fresh, the entries, one closing, then the list
pub starred_made : {s : State} {r₀ r : Entered} {rs : List Shown} → Begins (pos 2) unit r₀ → EntersAll r₀.state entries s → Enters s (close (view_of s)) r
    → Makes r.state r.state (map (λ (x : Step). x.item) starred) rs → rs ≡ map (λ (x : Step). shown_of x.result) starred
starred_made b e g m =
    let z = is_bench b e g in
    made z m ∙ ap (λ (x : Model.State). map shown_of (run x (map (λ (y : Step). y.item) starred))) z ∙ ap (map shown_of) starred_runs

-- ---- the same in numbers: of a call its code, its word and the released task
abbrev code : ℤ → ℕ → ℕ → Shown
code z w t = answered (record { outcome = Outcome.Code z; word = w; released = record { task = t; word = 0 } })

abbrev plain : ℤ → Shown
plain z = code z 0 0

abbrev waiting : Shown
waiting = answered (record { outcome = Outcome.Waiting; word = 0; released = record { task = 0; word = 0 } })

pub starred_in_numbers : {s : State} {r₀ r : Entered} {rs : List Shown} → Begins (pos 2) unit r₀ → EntersAll r₀.state entries s → Enters s (close (view_of s)) r
    → Makes r.state r.state (map (λ (x : Step). x.item) starred) rs
    → rs ≡ restarted ∷ plain (pos 0) ∷ plain (neg_ℤ (pos 50)) ∷ waiting ∷ plain (neg_ℤ (pos 27)) ∷ plain (pos 0) ∷ code (pos 0) 0 1 ∷ counted 0 ∷ plain (pos 0) ∷ plain (pos 0) ∷ plain (neg_ℤ (pos 43))
    ∷ restarted ∷ plain (neg_ℤ (pos 27)) ∷ plain (pos 0) ∷ plain (pos 0) ∷ plain (neg_ℤ (pos 50)) ∷ waiting ∷ code (pos 0) 700 1 ∷ buffered (701 ∷ 702 ∷ [])
    ∷ plain (neg_ℤ (pos 50)) ∷ waiting ∷ code (pos 0) 5 2
    ∷ judged (pos 0) ∷ judged (neg_ℤ (pos 41)) ∷ judged (neg_ℤ (pos 26)) ∷ []
starred_in_numbers b e g m = starred_made b e g m

-- ---- nothing is left out: whatever an entry, a call and a verdict answer, and whatever a query tells
pub every_entry : (s : State) (i : Entry) (r : Entered) → Enters s (enter (view_of s) i) r → (l : List Entry) (s' : State) → EntersAll r.state l s' → EntersAll s (i ∷ l) s'
every_entry s i r g l s' e = one s i r g l s' e

module _ (table s : State) (l : List Item) (rs : List Shown) where
  pub every_call : (t : ℕ) (op : Op) (r : Answer) → Does s (call (pos t) op) r → Makes table r.state l rs → Makes table s (does t op ∷ l) (answered (record { outcome = r.outcome; word = r.word; released = r.released }) ∷ rs)
  every_call t op r d m = calls s t op r d l rs m

  pub every_look : (i : ℕ) → Makes table s l rs → Makes table s (count i ∷ l) (counted (sem_at (view_of s) i).count ∷ rs)
  every_look i m = looks s i (sem_at (view_of s) i) refl l rs m

  pub every_read : (q : ℕ) → Makes table s l rs → Makes table s (buffer q ∷ l) (buffered (queue_at (view_of s) q).buffer ∷ rs)
  every_read q m = reads s q (queue_at (view_of s) q).buffer refl (λ k. refl) l rs m

  pub every_verdict : (d b z w : ℕ) → Makes table s l rs → Makes table s (asks d b z w ∷ l) (judged (result_of (verdict (view_of s) (pos d) b z w)) ∷ rs)
  every_verdict d b z w m = judges s d b z w (result_of (verdict (view_of s) (pos d) b z w)) refl l rs m
