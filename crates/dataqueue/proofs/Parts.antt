-- The queues' parts of the words. Assumes nothing.
use Prim.Native.Nat.{ℕ, zero, suc, ◌+◌, ◌-◌, ◌≤◌, ◌<◌}
use native.Mathlib.Omega.{arith}
use mathlib.Core.Path.{◌≡◌, refl, sym, ap, ◌∙◌}
use mathlib.Core.List.{List, [], ◌∷◌, ◌++◌, map, append_assoc, append-nil}
use lib.ListN.{length, get_or, take, drop, set, replicate, length-append, length-replicate, length-drop, replicate-append-replicate}
use lib.Seq.{set-append_left, take-append_seam, drop-append_seam, drop_at}
use Rattle.arrays.specs.Pad.{pad}
use Rattle.arrays.proofs.Pads.{pad_length, pad_snoc, pad_set}
use Rattle.itron.specs.Limits.{max_words}
use Rattle.model.specs.State as Model
use Rattle.model.specs.Lists.{at, All}
use Rattle.model.specs.Queues.{words_used}
use Rattle.model.specs.Conditions.{BufferFits, QueuesFit}
use Rattle.model.proofs.Fits.{buffer_fits}
use Rattle.dataqueue.specs.declared.state.Queue.{Queue}
use Rattle.dataqueue.specs.declared.state.QueueInfo.{QueueInfo}
use Rattle.dataqueue.specs.View.{queue_seen, info_of}
use Rattle.dataqueue.specs.Buffers.{close_up}
use Rattle.dataqueue.specs.Form.{no_record, record_of, laid, spread}
use Rattle.dataqueue.proofs.CloseUp.{close_length, close_append, close_past}

pub laid_length : (f : ℕ) (qs : List Model.Queue) → length (laid f qs) ≡ length qs
laid_length f [] = refl
laid_length f (q ∷ qs) = ap suc (laid_length (f + q.capacity) qs)

pub spread_length : (qs : List Model.Queue) → All BufferFits qs → length (spread qs) ≡ words_used qs
spread_length [] a = refl
spread_length (q ∷ qs) a = length-append (pad q.capacity 0 q.buffer) (spread qs) ∙ (λ i. pad_length 0 q.capacity q.buffer a.0 i + spread_length qs a.1 i)

-- the buffers, read back from the words, whatever stands before and after
parts_back : (pre : List ℕ) (f : ℕ) (qs : List Model.Queue) (post : List ℕ) → length pre ≡ f → All BufferFits qs → map (queue_seen (pre ++ (spread qs ++ post))) (laid f qs) ≡ qs
parts_back pre f [] post e a = refl
parts_back pre f (q ∷ qs) post e a =
    let p : List ℕ = pad q.capacity 0 q.buffer in
    let z : List ℕ = replicate (q.capacity - length q.buffer) 0 in
    let g : pre ++ ((p ++ spread qs) ++ post) ≡ (pre ++ p) ++ (spread qs ++ post) = ap (λ (x : List ℕ). pre ++ x) (append_assoc p (spread qs) post) ∙ sym (append_assoc pre p (spread qs ++ post)) in
    let h : drop f (pre ++ ((p ++ spread qs) ++ post)) ≡ q.buffer ++ (z ++ (spread qs ++ post)) =
    drop_at pre ((p ++ spread qs) ++ post) f e ∙ append_assoc p (spread qs) post ∙ append_assoc q.buffer z (spread qs ++ post) in
    let b : take (length q.buffer) (drop f (pre ++ ((p ++ spread qs) ++ post))) ≡ q.buffer = ap (take (length q.buffer)) h ∙ take-append_seam q.buffer (z ++ (spread qs ++ post)) in
    let l : length (pre ++ p) ≡ f + q.capacity = length-append pre p ∙ (λ i. e i + pad_length 0 q.capacity q.buffer a.0 i) in
    let r : map (queue_seen (pre ++ ((p ++ spread qs) ++ post))) (laid (f + q.capacity) qs) ≡ qs =
    ap (λ (w : List ℕ). map (queue_seen w) (laid (f + q.capacity) qs)) g ∙ parts_back (pre ++ p) (f + q.capacity) qs post l a.1 in
    λ i. record { domain = q.domain; attribute = q.attribute; capacity = q.capacity; buffer = b i; vector = q.vector } ∷ r i

pub queues_back : (n : ℕ) (qs : List Model.Queue) → All BufferFits qs → map (queue_seen (pad n 0 (spread qs))) (laid 0 qs) ≡ qs
queues_back n qs a = parts_back [] 0 qs (replicate (n - length (spread qs)) 0) refl a

-- ---- the record and the part of one queue
abbrev pub start : List Model.Queue → ℕ → ℕ
start [] k = 0
start (q ∷ qs) zero = 0
start (q ∷ qs) (suc k) = q.capacity + start qs k

pub laid_get : (f : ℕ) (qs : List Model.Queue) (k : ℕ) → k < length qs → get_or (laid f qs) k no_record ≡ record_of (get_or qs k Model.no_queue) (f + start qs k)
laid_get f [] k h = absurd (omega arith)
laid_get f (q ∷ qs) zero h = let e : f ≡ f + 0 = omega arith in ap (record_of q) e
laid_get f (q ∷ qs) (suc k) h =
    let e : f + q.capacity + start qs k ≡ f + (q.capacity + start qs k) = omega arith in
    laid_get (f + q.capacity) qs k (omega arith) ∙ ap (record_of (get_or qs k Model.no_queue)) e

pub laid_set : (f : ℕ) (qs : List Model.Queue) (k : ℕ) (x : Model.Queue) → k < length qs → x.capacity ≡ (get_or qs k Model.no_queue).capacity
    → set (laid f qs) k (record_of x (f + start qs k)) ≡ laid f (set qs k x)
laid_set f [] k x h c = absurd (omega arith)
laid_set f (q ∷ qs) zero x h c = let e : f + 0 ≡ f = omega arith in λ i. record_of x (e i) ∷ laid (f + sym c i) qs
laid_set f (q ∷ qs) (suc k) x h c =
    let e : f + (q.capacity + start qs k) ≡ f + q.capacity + start qs k = omega arith in
    (λ i. record_of q f ∷ set (laid (f + q.capacity) qs) k (record_of x (e i)))
    ∙ ap (λ (l : List Queue). record_of q f ∷ l) (laid_set (f + q.capacity) qs k x (omega arith) c)

pub part_fits : (qs : List Model.Queue) (k : ℕ) → k < length qs → start qs k + (get_or qs k Model.no_queue).capacity ≤ words_used qs
part_fits [] k h = absurd (omega arith)
part_fits (q ∷ qs) zero h = omega arith
part_fits (q ∷ qs) (suc k) h = let b = part_fits qs k (omega arith) in omega arith

-- a queue's record tells all but its words, also where there is none
abbrev pub record_info : Queue → QueueInfo
record_info r = record { domain = r.domain; attribute = r.attribute; capacity = r.capacity; count = r.len; vector = r.vector }

pub laid_info : (f : ℕ) (qs : List Model.Queue) (n : ℕ) → record_info (at no_record (laid f qs) n) ≡ info_of (at Model.no_queue qs n)
laid_info f qs zero = refl
laid_info f [] (suc n) = refl
laid_info f (q ∷ qs) (suc zero) = refl
laid_info f (q ∷ qs) (suc (suc n)) = laid_info (f + q.capacity) qs (suc n)

-- ---- a word goes last into a buffer
set_past : (xs ys : List ℕ) (n i : ℕ) (a : ℕ) → length xs ≡ n → set (xs ++ ys) (n + i) a ≡ xs ++ set ys i a
set_past [] ys n i a e = ap (λ (k : ℕ). set ys k a) (omega arith)
set_past (x ∷ xs) ys zero i a e = absurd (omega arith)
set_past (x ∷ xs) ys (suc n) i a e = let g : suc n + i ≡ suc (n + i) = omega arith in ap (λ (k : ℕ). set (x ∷ (xs ++ ys)) k a) g ∙ ap (λ (l : List ℕ). x ∷ l) (set_past xs ys n i a (omega arith))

-- x is q with another buffer
abbrev pub Refilled : Model.Queue → Model.Queue → List ℕ → Type 0
Refilled x q b = (x.capacity ≡ q.capacity) × (x.buffer ≡ b)

spread_push : (qs : List Model.Queue) (k : ℕ) (x : Model.Queue) (w : ℕ) → k < length qs → All BufferFits qs
    → (let q = get_or qs k Model.no_queue in (length q.buffer < q.capacity) × Refilled x q (q.buffer ++ (w ∷ [])))
    → set (spread qs) (start qs k + length (get_or qs k Model.no_queue).buffer) w ≡ spread (set qs k x)
spread_push [] k x w h a p = absurd (omega arith)
spread_push (q ∷ qs) zero x w h a p =
    let r = p.0 in
    let g : 0 + length q.buffer ≡ length q.buffer = omega arith in
    let c = p.1.0 in
    let b = p.1.1 in
    ap (λ (k : ℕ). set (pad q.capacity 0 q.buffer ++ spread qs) k w) g
    ∙ set-append_left (pad q.capacity 0 q.buffer) (spread qs) (length q.buffer) w (let l = pad_length 0 q.capacity q.buffer a.0 in omega arith)
    ∙ ap (λ (z : List ℕ). z ++ spread qs) (pad_snoc 0 q.capacity q.buffer w r)
    ∙ (λ i. pad (sym c i) 0 (sym b i) ++ spread qs)
spread_push (q ∷ qs) (suc k) x w h a p =
    let p₀ = pad q.capacity 0 q.buffer in
    let n = length (get_or qs k Model.no_queue).buffer in
    let g : q.capacity + start qs k + n ≡ q.capacity + (start qs k + n) = omega arith in
    ap (λ (j : ℕ). set (p₀ ++ spread qs) j w) g
    ∙ set_past p₀ (spread qs) q.capacity (start qs k + n) w (pad_length 0 q.capacity q.buffer a.0)
    ∙ ap (λ (z : List ℕ). p₀ ++ z) (spread_push qs k x w (omega arith) a.1 p)

-- ---- the oldest word leaves, and w comes last
-- x is q with a part that has moved up so
abbrev pub MovedUp : Model.Queue → Model.Queue → ℕ → Type 0
MovedUp x q w = (0 < length q.buffer) × (drop 1 q.buffer ++ (w ∷ replicate (q.capacity - length q.buffer) 0) ≡ pad x.capacity 0 x.buffer)

-- a 0 is no word more
pub part_pop : (c : ℕ) (b : List ℕ) → 0 < length b → length b ≤ c → drop 1 b ++ (0 ∷ replicate (c - length b) 0) ≡ pad c 0 (drop 1 b)
part_pop c b h k =
    let n = length-drop 1 b in
    let g : suc (c - length b) ≡ c - length (drop 1 b) = omega arith in
    ap (λ (m : ℕ). drop 1 b ++ replicate m 0) g

pub part_refill : (c : ℕ) (b : List ℕ) (w : ℕ) → 0 < length b → drop 1 b ++ (w ∷ replicate (c - length b) 0) ≡ pad c 0 (drop 1 b ++ (w ∷ []))
part_refill c b w h =
    let n = length-drop 1 b in
    let m = length-append (drop 1 b) (w ∷ []) in
    let g : length b ≡ length (drop 1 b ++ (w ∷ [])) = omega arith in
    sym (append_assoc (drop 1 b) (w ∷ []) (replicate (c - length b) 0)) ∙ ap (λ (j : ℕ). (drop 1 b ++ (w ∷ [])) ++ replicate (c - j) 0) g

spread_close : (qs : List Model.Queue) (k : ℕ) (x : Model.Queue) (w : ℕ) → k < length qs → All BufferFits qs → MovedUp x (get_or qs k Model.no_queue) w
    → close_up (start qs k) (length (get_or qs k Model.no_queue).buffer) w (spread qs) ≡ spread (set qs k x)
unfolding close_up
spread_close [] k x w h a p = absurd (omega arith)
spread_close (q ∷ qs) zero x w h a p =
    let b = q.buffer in
    let z : List ℕ = replicate (q.capacity - length b) 0 in
    let t : take (length b) ((b ++ z) ++ spread qs) ≡ b = ap (take (length b)) (append_assoc b z (spread qs)) ∙ take-append_seam b (z ++ spread qs) in
    let d : drop (length b) ((b ++ z) ++ spread qs) ≡ z ++ spread qs = ap (drop (length b)) (append_assoc b z (spread qs)) ∙ drop-append_seam b (z ++ spread qs) in
    (λ i. drop 1 (t i) ++ (w ∷ d i))
    ∙ sym (append_assoc (drop 1 b) (w ∷ z) (spread qs))
    ∙ ap (λ (l : List ℕ). l ++ spread qs) p.1
spread_close (q ∷ qs) (suc k) x w h a p =
    let p₀ : List ℕ = pad q.capacity 0 q.buffer in
    close_past p₀ (spread qs) q.capacity (start qs k) (length (get_or qs k Model.no_queue).buffer) w (pad_length 0 q.capacity q.buffer a.0)
    ∙ ap (λ (z : List ℕ). p₀ ++ z) (spread_close qs k x w (omega arith) a.1 p)

-- ---- the same, in the array of all words
module _ {qs : List Model.Queue} (f : QueuesFit qs) (k : ℕ) (x : Model.Queue) (h : k < length qs) where
  pub words_push : (w : ℕ) → (let q = get_or qs k Model.no_queue in (length q.buffer < q.capacity) × Refilled x q (q.buffer ++ (w ∷ [])))
      → set (pad max_words 0 (spread qs)) (start qs k + length (get_or qs k Model.no_queue).buffer) w ≡ pad max_words 0 (spread (set qs k x))
  words_push w p =
      let b = part_fits qs k h in
      let l = spread_length qs f.buffers in
      let r = p.0 in
      pad_set 0 max_words (spread qs) (start qs k + length (get_or qs k Model.no_queue).buffer) w (omega arith) ∙ ap (pad max_words 0) (spread_push qs k x w h f.buffers p)

  pub words_close : (w : ℕ) → MovedUp x (get_or qs k Model.no_queue) w
      → close_up (start qs k) (length (get_or qs k Model.no_queue).buffer) w (pad max_words 0 (spread qs)) ≡ pad max_words 0 (spread (set qs k x))
  words_close w p =
      let n = length (get_or qs k Model.no_queue).buffer in
      let b = part_fits qs k h in
      let a = buffer_fits f (suc k) in
      let l = spread_length qs f.buffers in
      let e = spread_close qs k x w h f.buffers p in
      let s : length (spread qs) ≡ length (spread (set qs k x)) = sym (close_length (start qs k) n w (spread qs) p.0 (omega arith)) ∙ ap length e in
      close_append (start qs k) n w (spread qs) (replicate (max_words - length (spread qs)) 0) (omega arith)
      ∙ (λ i. e i ++ replicate (max_words - s i) 0)

pub spread_keep : (qs : List Model.Queue) (k : ℕ) (x : Model.Queue) → (let q = get_or qs k Model.no_queue in Refilled x q q.buffer) → spread (set qs k x) ≡ spread qs
spread_keep [] k x p = refl
spread_keep (q ∷ qs) zero x p = let c = p.0 in let b = p.1 in λ i. pad (c i) 0 (b i) ++ spread qs
spread_keep (q ∷ qs) (suc k) x p = ap (λ (z : List ℕ). pad q.capacity 0 q.buffer ++ z) (spread_keep qs k x p)

-- ---- one queue more, which is empty
pub laid_snoc : (f : ℕ) (qs : List Model.Queue) (q : Model.Queue) → laid f (qs ++ (q ∷ [])) ≡ laid f qs ++ (record_of q (f + words_used qs) ∷ [])
laid_snoc f [] q = let e : f ≡ f + 0 = omega arith in λ i. record_of q (e i) ∷ []
laid_snoc f (x ∷ qs) q =
    let e : f + x.capacity + words_used qs ≡ f + (x.capacity + words_used qs) = omega arith in
    ap (λ (l : List Queue). record_of x f ∷ l) (laid_snoc (f + x.capacity) qs q ∙ (λ i. laid (f + x.capacity) qs ++ (record_of q (e i) ∷ [])))

spread_snoc : (qs : List Model.Queue) (q : Model.Queue) → q.buffer ≡ [] → spread (qs ++ (q ∷ [])) ≡ spread qs ++ replicate q.capacity 0
spread_snoc [] q e = append-nil (pad q.capacity 0 q.buffer) ∙ (λ i. pad q.capacity 0 (e i)) ∙ (let z : q.capacity - 0 ≡ q.capacity = omega arith in ap (λ (n : ℕ). replicate n 0) z)
spread_snoc (x ∷ qs) q e = ap (λ (l : List ℕ). pad x.capacity 0 x.buffer ++ l) (spread_snoc qs q e) ∙ sym (append_assoc (pad x.capacity 0 x.buffer) (spread qs) (replicate q.capacity 0))

-- zeros taken for a part are the zeros that were there
zeros_split : (l : List ℕ) (n c k : ℕ) → n ≡ c + k → l ++ replicate n 0 ≡ (l ++ replicate c 0) ++ replicate k 0
zeros_split l n c k e =
    ap (λ (j : ℕ). l ++ replicate j 0) e
    ∙ ap (λ (z : List ℕ). l ++ z) (sym (replicate-append-replicate c k 0))
    ∙ sym (append_assoc l (replicate c 0) (replicate k 0))

pad_zeros : (n : ℕ) (l : List ℕ) (c : ℕ) → length l + c ≤ n → pad n 0 l ≡ pad n 0 (l ++ replicate c 0)
pad_zeros n l c h =
    let m : length (l ++ replicate c 0) ≡ length l + c = length-append l (replicate c 0) ∙ ap (λ (k : ℕ). length l + k) (length-replicate c 0) in
    zeros_split l (n - length l) c (n - length (l ++ replicate c 0)) (omega arith)

pub words_more : (qs : List Model.Queue) (q : Model.Queue) → All BufferFits qs → q.buffer ≡ [] → words_used qs + q.capacity ≤ max_words
    → pad max_words 0 (spread qs) ≡ pad max_words 0 (spread (qs ++ (q ∷ [])))
words_more qs q a e u =
    let s = spread_length qs a in
    pad_zeros max_words (spread qs) q.capacity (omega arith) ∙ ap (pad max_words 0) (sym (spread_snoc qs q e))

-- the parts end where the last one ends
pub used_last : (qs : List Model.Queue) (k : ℕ) → length qs ≡ suc k → start qs k + (get_or qs k Model.no_queue).capacity ≡ words_used qs
used_last [] k e = absurd (omega arith)
used_last (q ∷ []) zero e = omega arith
used_last (q ∷ (x ∷ qs)) zero e = absurd (omega arith)
used_last (q ∷ []) (suc k) e = absurd (omega arith)
used_last (q ∷ (x ∷ qs)) (suc k) e = let r = used_last (x ∷ qs) k (omega arith) in omega arith
