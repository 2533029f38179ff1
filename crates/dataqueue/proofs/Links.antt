-- Each change of the arrays is the model's change of what is seen. Assumes nothing.
use Prim.Native.Nat.{ℕ, zero, suc, ◌+◌, ◌-◌, ◌≤◌, ◌<◌}
use native.Mathlib.Omega.{arith}
use mathlib.Core.Path.{◌≡◌, refl, sym, ap, ◌∙◌, subst}
use mathlib.Core.List.{List, [], ◌∷◌, ◌++◌, map}
use lib.ListN.{length, get_or, take, drop, set, length-append, length-set, length-drop, get_or-eq_default}
use lib.Seq.{get_or-take, get_or-drop, set-get_or}
use Rattle.access.specs.declared.vector.Vector.{Vector}
use Rattle.arrays.specs.Pad.{pad}
use Rattle.arrays.proofs.Pads.{pad_get, pad_set, pad_take}
use Rattle.itron.specs.Limits.{max_queues, max_words}
use Rattle.model.specs.State as Model
use Rattle.model.specs.Lists.{at, All}
use Rattle.model.specs.Rooms.{set_vector_of}
use Rattle.model.specs.Queues.{room, queue_in, set_buffer, words_used}
use Rattle.model.specs.Conditions.{BufferFits, QueuesFit}
use Rattle.model.proofs.Fits.{buffer_fits}
use Rattle.dataqueue.specs.declared.state.Queue.{Queue}
use Rattle.dataqueue.specs.declared.state.Queues.{Queues}
use Rattle.dataqueue.specs.View.{queue_seen, queues_of}
use Rattle.dataqueue.specs.Form.{no_record, record_of, laid, spread, queues_as}
use Rattle.dataqueue.specs.Held.{Held}
use Rattle.dataqueue.specs.Buffers.{close_up}
use Rattle.dataqueue.proofs.Parts.{start, laid_length, laid_get, laid_set, part_fits, part_pop, part_refill, words_push, words_close, spread_keep}

-- ---- the queues with one record and the words replaced
abbrev pub with_parts : Queues → ℕ → Queue → List ℕ → Queues
with_parts q k x w = record { count = q.count; records = set q.records k x; words = w }

abbrev pub with_words : Queues → List ℕ → Queues
with_words q w = record { count = q.count; records = q.records; words = w }

abbrev pub with_len : Queue → ℕ → Queue
with_len q n = record { domain = q.domain; attribute = q.attribute; first = q.first; len = n; capacity = q.capacity; vector = q.vector }

abbrev with_vector : Queue → Vector → Queue
with_vector q v = record { domain = q.domain; attribute = q.attribute; first = q.first; len = q.len; capacity = q.capacity; vector = v }

abbrev pub record_in : Queues → ℕ → Queue
record_in q k = get_or q.records k no_record

abbrev pushed : Queues → ℕ → ℕ → Queues
pushed q k w = let r = record_in q k in with_parts q k (with_len r (r.len + 1)) (set q.words (r.first + r.len) w)

abbrev popped : Queues → ℕ → Queues
popped q k = let r = record_in q k in with_parts q k (with_len r (r.len - 1)) (close_up r.first r.len 0 q.words)

abbrev refilled : Queues → ℕ → ℕ → Queues
refilled q k w = let r = record_in q k in with_words q (close_up r.first r.len w q.words)

abbrev turned : Queues → ℕ → Vector → Queues
turned q k v = with_parts q k (with_vector (record_in q k) v) q.words

-- a queue with another buffer
abbrev with_buffer : Model.Queue → List ℕ → Model.Queue
with_buffer q b = record { domain = q.domain; attribute = q.attribute; capacity = q.capacity; buffer = b; vector = q.vector }

-- ---- at the form
module _ (qs : List Model.Queue) (k : ℕ) (h : k < length qs) where
  record_form : get_or (pad max_queues no_record (laid 0 qs)) k no_record ≡ record_of (queue_in qs (suc k)) (start qs k)
  record_form =
      let z : 0 + start qs k ≡ start qs k = omega arith in
      pad_get no_record max_queues (laid 0 qs) k ∙ laid_get 0 qs k h ∙ ap (record_of (queue_in qs (suc k))) z

  -- a queue changes, with its part of the words
  queue_form : (x : Model.Queue) → x.capacity ≡ (queue_in qs (suc k)).capacity → (w : List ℕ) → w ≡ pad max_words 0 (spread (set qs k x))
      → with_parts (queues_as qs) k (record_of x (start qs k)) w ≡ queues_as (set qs k x)
  unfolding queues_as
  queue_form x c w e =
      let z : start qs k ≡ 0 + start qs k = omega arith in
      let l = laid_length 0 qs in
      let r : set (pad max_queues no_record (laid 0 qs)) k (record_of x (start qs k)) ≡ pad max_queues no_record (laid 0 (set qs k x)) =
      pad_set no_record max_queues (laid 0 qs) k (record_of x (start qs k)) (omega arith)
      ∙ ap (pad max_queues no_record) (ap (λ (f : ℕ). set (laid 0 qs) k (record_of x f)) z ∙ laid_set 0 qs k x h c) in
      let n = length-set qs k x in
      λ i. record { count = sym n i; records = r i; words = e i }

  push_form : QueuesFit qs → (w : ℕ) → length (queue_in qs (suc k)).buffer < (queue_in qs (suc k)).capacity → pushed (queues_as qs) k w ≡ queues_as (set_buffer qs (suc k) ((queue_in qs (suc k)).buffer ++ (w ∷ [])))
  unfolding queues_as
  push_form f w r =
      let q = queue_in qs (suc k) in
      let s = queues_as qs in
      let b = q.buffer ++ (w ∷ []) in
      let n : length q.buffer + 1 ≡ length b = sym (length-append q.buffer (w ∷ [])) in
      ap (λ (y : Queue). with_parts s k (with_len y (y.len + 1)) (set s.words (y.first + y.len) w)) record_form
      ∙ (λ i. with_parts s k (with_len (record_of q (start qs k)) (n i)) (set s.words (start qs k + length q.buffer) w))
      ∙ queue_form (with_buffer q b) refl (set s.words (start qs k + length q.buffer) w) (words_push f k (with_buffer q b) h w (r, (refl, refl)))

  pop_form : QueuesFit qs → 0 < length (queue_in qs (suc k)).buffer → popped (queues_as qs) k ≡ queues_as (set_buffer qs (suc k) (drop 1 (queue_in qs (suc k)).buffer))
  unfolding queues_as
  pop_form f r =
      let q = queue_in qs (suc k) in
      let s = queues_as qs in
      let b = drop 1 q.buffer in
      let n : length q.buffer - 1 ≡ length b = sym (length-drop 1 q.buffer) in
      ap (λ (y : Queue). with_parts s k (with_len y (y.len - 1)) (close_up y.first y.len 0 s.words)) record_form
      ∙ (λ i. with_parts s k (with_len (record_of q (start qs k)) (n i)) (close_up (start qs k) (length q.buffer) 0 s.words))
      ∙ queue_form (with_buffer q b) refl (close_up (start qs k) (length q.buffer) 0 s.words) (words_close f k (with_buffer q b) h 0 (r, part_pop q.capacity q.buffer r (buffer_fits f (suc k))))

  refill_form : QueuesFit qs → (w : ℕ) → 0 < length (queue_in qs (suc k)).buffer → refilled (queues_as qs) k w ≡ queues_as (set_buffer qs (suc k) (drop 1 (queue_in qs (suc k)).buffer ++ (w ∷ [])))
  unfolding queues_as
  refill_form f w r =
      let q = queue_in qs (suc k) in
      let s = queues_as qs in
      let b = drop 1 q.buffer ++ (w ∷ []) in
      let d = length-drop 1 q.buffer in
      let a = length-append (drop 1 q.buffer) (w ∷ []) in
      let n : length q.buffer ≡ length b = omega arith in
      let c = close_up (start qs k) (length q.buffer) w s.words in
      let o : s.records ≡ set s.records k (record_of (with_buffer q b) (start qs k)) =
      sym (set-get_or s.records k no_record) ∙ ap (set s.records k) (record_form ∙ (λ i. with_len (record_of q (start qs k)) (n i))) in
      ap (λ (y : Queue). with_words s (close_up y.first y.len w s.words)) record_form
      ∙ (λ i. record { count = s.count; records = o i; words = c })
      ∙ queue_form (with_buffer q b) refl c (words_close f k (with_buffer q b) h w (r, part_refill q.capacity q.buffer w r))

  vector_form : (v : Vector) → turned (queues_as qs) k v ≡ queues_as (set_vector_of room qs (suc k) v)
  unfolding queues_as
  vector_form v =
      let s = queues_as qs in
      let q = queue_in qs (suc k) in
      let x : Model.Queue = record { domain = q.domain; attribute = q.attribute; capacity = q.capacity; buffer = q.buffer; vector = v } in
      ap (λ (y : Queue). with_parts s k (with_vector y v) s.words) record_form
      ∙ queue_form x refl s.words (ap (pad max_words 0) (sym (spread_keep qs k x (refl, refl))))

-- ---- on any queues that are held
module _ {q : Queues} (h : Held q) where
  pub count_seen : q.count ≡ length (queues_of q)
  unfolding queues_as
  count_seen = ap (λ (x : Queues). x.count) h.form

  -- the records are those of the queues
  pub records_seen : take q.count q.records ≡ laid 0 (queues_of q)
  unfolding queues_as
  records_seen =
      let l = laid_length 0 (queues_of q) in
      (λ i. take (h.form i).count (h.form i).records)
      ∙ ap (λ (n : ℕ). take n (pad max_queues no_record (laid 0 (queues_of q)))) (sym l)
      ∙ pad_take no_record max_queues (laid 0 (queues_of q))

  -- the record with a number, with its words, is the queue with that number
  pub queue_seen_at : (n : ℕ) → queue_in (queues_of q) n ≡ queue_seen q.words (at no_record (laid 0 (queues_of q)) n)
  unfolding queues_of
  queue_seen_at zero = refl
  queue_seen_at (suc k) = row (take q.count q.records) k ∙ ap (λ (l : List Queue). queue_seen q.words (get_or l k no_record)) records_seen
    where
      row : (l : List Queue) (k : ℕ) → get_or (map (queue_seen q.words) l) k Model.no_queue ≡ queue_seen q.words (get_or l k no_record)
      row [] k = refl
      row (x ∷ l) zero = refl
      row (x ∷ l) (suc k) = row l k

  -- its words lie in the array, also where there is none
  pub part_at : (n : ℕ) → (at no_record (laid 0 (queues_of q)) n).first + (at no_record (laid 0 (queues_of q)) n).len ≤ max_words
  part_at zero = omega arith
  part_at (suc k) = go 0 (queues_of q) k h.fit.buffers (let w = h.fit.words in omega arith)
    where
      go : (f : ℕ) (l : List Model.Queue) (k : ℕ) → All BufferFits l → f + words_used l ≤ max_words → (get_or (laid f l) k no_record).first + (get_or (laid f l) k no_record).len ≤ max_words
      go f [] k a u = omega arith
      go f (x ∷ l) zero a u = omega (arith, a.0, u)
      go f (x ∷ l) (suc k) a u = go (f + x.capacity) l k a.1 (omega (arith, u))

  -- no record where there is no queue
  pub record_none : (n : ℕ) → q.count < n → no_record ≡ at no_record (laid 0 (queues_of q)) n
  record_none zero l = absurd (omega arith)
  record_none (suc i) l = sym (get_or-eq_default (laid 0 (queues_of q)) no_record (omega (arith, l, count_seen, laid_length 0 (queues_of q))))

  record_row : (k : ℕ) → record_in q k ≡ get_or (laid 0 (queues_of q)) k no_record
  unfolding queues_as
  record_row k = ap (λ (x : Queues). record_in x k) h.form ∙ pad_get no_record max_queues (laid 0 (queues_of q)) k

  pub record_at : (n k : ℕ) → 1 ≤ n → k ≡ n - 1 → record_in q k ≡ at no_record (laid 0 (queues_of q)) n
  record_at zero k l e = absurd (omega arith)
  record_at (suc i) k l e = let z : k ≡ i = omega arith in ap (record_in q) z ∙ record_row i

  module _ (k : ℕ) (l : k < length (queues_of q)) where
    pub record_seen : record_in q k ≡ record_of (queue_in (queues_of q) (suc k)) (start (queues_of q) k)
    unfolding queues_as
    record_seen = ap (λ (x : Queues). record_in x k) h.form ∙ record_form (queues_of q) k l

    -- the part lies in the words, and the buffered words in the part
    pub record_part : ((record_in q k).first + (record_in q k).capacity ≤ max_words) × ((record_in q k).len ≤ (record_in q k).capacity)
    record_part =
        let f = ap (λ (r : Queue). r.first + r.capacity) record_seen in
        let n = ap (λ (r : Queue). r.len) record_seen in
        let c = ap (λ (r : Queue). r.capacity) record_seen in
        let p = part_fits (queues_of q) k l in
        let w = h.fit.words in
        let b = buffer_fits h.fit (suc k) in
        (omega arith, omega arith)

    -- a buffer that has room
    pub room_seen : (record_in q k).len < (record_in q k).capacity → length (queue_in (queues_of q) (suc k)).buffer < (queue_in (queues_of q) (suc k)).capacity
    room_seen r = subst (λ (x : Queue). x.len < x.capacity) record_seen r

    -- a buffer that has a word
    pub some_seen : 0 < (record_in q k).len → 0 < length (queue_in (queues_of q) (suc k)).buffer
    some_seen r = subst (λ (x : Queue). 0 < x.len) record_seen r

    -- where a word goes into a buffer that has room
    pub room_low : length (queue_in (queues_of q) (suc k)).buffer < (queue_in (queues_of q) (suc k)).capacity → (record_in q k).first + (record_in q k).len < max_words
    room_low r =
        let n = ap (λ (x : Queue). x.len) record_seen in
        let c = ap (λ (x : Queue). x.capacity) record_seen in
        omega (arith, r, n, c, record_part.0)

    -- where a buffer that has a word stands
    pub buffer_some : 0 < length (queue_in (queues_of q) (suc k)).buffer → 0 < (record_in q k).len
    buffer_some r = let n = ap (λ (x : Queue). x.len) record_seen in omega (arith, r, n)

    pub buffer_low : (record_in q k).first + (record_in q k).len ≤ max_words
    buffer_low = let p = record_part in omega (arith, p.0, p.1)

    pub oldest_seen : 0 < (record_in q k).len → get_or q.words (record_in q k).first 0 ≡ get_or (queue_in (queues_of q) (suc k)).buffer 0 0
    oldest_seen r =
        let f = (record_in q k).first in
        let e : (queue_in (queues_of q) (suc k)).buffer ≡ take (record_in q k).len (drop f q.words) = ap (λ (x : Model.Queue). x.buffer) (queue_seen_at (suc k)) ∙ ap (λ (x : Queue). take x.len (drop x.first q.words)) (sym (record_row k)) in
        let z : f ≡ f + 0 = omega arith in
        ap (λ (i : ℕ). get_or q.words i 0) z ∙ sym (ap (λ (b : List ℕ). get_or b 0 0) e ∙ get_or-take (record_in q k).len (drop f q.words) 0 0 r ∙ get_or-drop f q.words 0 0)

    pub push_link : (w : ℕ) → length (queue_in (queues_of q) (suc k)).buffer < (queue_in (queues_of q) (suc k)).capacity → pushed q k w ≡ queues_as (set_buffer (queues_of q) (suc k) ((queue_in (queues_of q) (suc k)).buffer ++ (w ∷ [])))
    push_link w r = ap (λ (x : Queues). pushed x k w) h.form ∙ push_form (queues_of q) k l h.fit w r

    pub pop_link : 0 < length (queue_in (queues_of q) (suc k)).buffer → popped q k ≡ queues_as (set_buffer (queues_of q) (suc k) (drop 1 (queue_in (queues_of q) (suc k)).buffer))
    pop_link r = ap (λ (x : Queues). popped x k) h.form ∙ pop_form (queues_of q) k l h.fit r

    pub refill_link : (w : ℕ) → 0 < length (queue_in (queues_of q) (suc k)).buffer → refilled q k w ≡ queues_as (set_buffer (queues_of q) (suc k) (drop 1 (queue_in (queues_of q) (suc k)).buffer ++ (w ∷ [])))
    refill_link w r = ap (λ (x : Queues). refilled x k w) h.form ∙ refill_form (queues_of q) k l h.fit w r

    pub vector_link : (v : Vector) → turned q k v ≡ queues_as (set_vector_of room (queues_of q) (suc k) v)
    vector_link v = ap (λ (x : Queues). turned x k v) h.form ∙ vector_form (queues_of q) k l v
