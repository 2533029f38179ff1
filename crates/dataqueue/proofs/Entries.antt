-- The entry of a data queue. Assumes nothing.
use Prim.Native.Nat.{ℕ, ◌+◌, ◌-◌, ◌≤◌, ◌<◌}
use native.Mathlib.Omega.{arith}
use mathlib.Core.Path.{◌≡◌, refl, sym, ap, ◌∙◌}
use mathlib.Core.List.{List, [], ◌∷◌, ◌++◌}
use lib.IntN.{ℤ}
use lib.ListN.{length, get_or, take, set, length-append}
use Rattle.access.specs.declared.vector.Vector.{Vector}
use Rattle.std.specs.Prelude.{Some}
use Rattle.std.specs.List.{slice_get}
use Rattle.std.proofs.lemmas.Option.{slice_get_within, get_or_from_slice_get}
use Rattle.arrays.specs.Pad.{pad}
use Rattle.arrays.proofs.Pads.{pad_snoc}
use Rattle.itron.specs.Limits.{max_queues, max_words}
use Rattle.model.specs.State as Model
use Rattle.model.specs.Queues.{words_used, new_queue}
use Rattle.model.specs.Conditions.{QueuesFit}
use Rattle.dataqueue.specs.declared.state.Queue.{Queue}
use Rattle.dataqueue.specs.declared.state.Queues.{Queues}
use Rattle.dataqueue.specs.View.{queues_of}
use Rattle.dataqueue.specs.Form.{no_record, record_of, laid, queues_as}
use Rattle.dataqueue.specs.Held.{Held}
use Rattle.dataqueue.proofs.Parts.{start, laid_length, laid_get, laid_snoc, words_more, used_last}
use Rattle.dataqueue.proofs.Links.{count_seen, records_seen}

-- ---- one queue more
abbrev added : Queues → Queue → Queues
added q x = record { count = q.count + 1; records = set q.records q.count x; words = q.words }

add_form : (qs : List Model.Queue) (x : Model.Queue) → QueuesFit qs → x.buffer ≡ [] → length qs < max_queues → words_used qs + x.capacity ≤ max_words → added (queues_as qs) (record_of x (words_used qs)) ≡ queues_as (qs ++ (x ∷ []))
unfolding queues_as
add_form qs x f e h u =
    let l = laid_length 0 qs in
    let z : words_used qs ≡ 0 + words_used qs = omega arith in
    let n : length qs + 1 ≡ length (qs ++ (x ∷ [])) = sym (length-append qs (x ∷ [])) in
    let r : set (pad max_queues no_record (laid 0 qs)) (length qs) (record_of x (words_used qs)) ≡ pad max_queues no_record (laid 0 (qs ++ (x ∷ []))) =
    (λ i. set (pad max_queues no_record (laid 0 qs)) (sym l i) (record_of x (z i)))
    ∙ pad_snoc no_record max_queues (laid 0 qs) (record_of x (0 + words_used qs)) (omega arith)
    ∙ ap (pad max_queues no_record) (sym (laid_snoc 0 qs x)) in
    let w = words_more qs x f.buffers e u in
    λ i. record { count = n i; records = r i; words = w i }

module _ {q : Queues} (h : Held q) where
  pub add_link : (d : ℤ) (a c f : ℕ) (v : Vector) → f ≡ words_used (queues_of q) → length (queues_of q) < max_queues → words_used (queues_of q) + c ≤ max_words
      → added q (record_of (new_queue d a c (Some v)) f) ≡ queues_as (queues_of q ++ (new_queue d a c (Some v) ∷ []))
  add_link d a c f v e l u =
      let x = new_queue d a c (Some v) in
      (λ i. added (h.form i) (record_of x (e i))) ∙ add_form (queues_of q) x h.fit refl l u

  pub used_none : q.count ≡ 0 → 0 ≡ words_used (queues_of q)
  used_none z = go (queues_of q) (sym (count_seen h) ∙ z)
    where
      go : (l : List Model.Queue) → length l ≡ 0 → 0 ≡ words_used l
      go [] e = refl
      go (x ∷ l) e = absurd (omega arith)

  module _ {r : Queue} (e : slice_get (take q.count q.records) (length (take q.count q.records) - 1) ≡ Some r) where
    pub used_some : r.first + r.capacity ≡ words_used (queues_of q)
    used_some =
        let qs = queues_of q in
        let l = take q.count q.records in
        let k = length l - 1 in
        let n : length l ≡ length qs = ap (λ (x : List Queue). length x) (records_seen h) ∙ laid_length 0 qs in
        let b = slice_get_within l k r e in
        let s : r ≡ record_of (get_or qs k Model.no_queue) (0 + start qs k) =
        sym (get_or_from_slice_get l k r no_record e) ∙ ap (λ (x : List Queue). get_or x k no_record) (records_seen h) ∙ laid_get 0 qs k (omega (arith, n, b)) in
        omega (arith, ap (λ (x : Queue). x.first + x.capacity) s, used_last qs k (omega (arith, n, b)))

    pub used_low : r.first + r.capacity ≤ max_words
    used_low = omega (arith, used_some, h.fit.words)
