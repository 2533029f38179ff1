-- What a run leaves, in plain facts: one state and one slice, and as many words as entered. Assumes nothing.
use Prim.Native.Nat.{ℕ, ◌+◌, ◌*◌}
use mathlib.Core.Path.{◌≡◌, sym, ap, ◌∙◌}
use mathlib.Core.List.{List, ◌++◌}
use lib.ListN.{length, drop, length-append, length-map}
use Rattle.model.specs.Lists.{gathered}
use Rattle.model.specs.State.{queue_at}
use Rattle.model.specs.Sends.{word_of, entered, leaves}
use Rattle.model.specs.QueueClaims.{by_queue}
use Rattle.model.specs.Demand3.{JustClosed}
use Rattle.kernel.specs.declared.state.State.{State}
use Rattle.kernel.specs.View.{view_of}
use Rattle.kernel.proofs.Back.{faithful}
use Rattle.batch.specs.declared.run.Ran.{Ran}
use Rattle.batch.specs.Encoding.{answer_words, answers_in}
use Rattle.batch.specs.Runs.{items_made, history_made, Runs}

-- the state and the slice follow from the state at the start, the calls and the slice as it was lent
pub alike : {s : State} {calls before behind behind' : List ℕ} {r r' : Ran} → Runs s calls before behind r → Runs s calls before behind' r' → (r.state ≡ r'.state) × (behind ≡ behind')
alike {s} {calls} {before} h k = (
  faithful h.valid k.valid (h.state ∙ sym k.state),
  h.answers ∙ ap (λ (n : ℕ). answers_in (items_made calls before) (history_made (view_of s) calls before) ++ drop (n * answer_words) before) (h.answered ∙ sym k.answered) ∙ sym k.answers,
)

-- from a table just closed, as many words have left a queue and are in its buffer as entered it or passed
pub words_counted : {s : State} {calls before behind : List ℕ} {r : Ran} → Runs s calls before behind r → JustClosed (view_of s) → (q : ℕ)
    → length (gathered (leaves (queue_at (view_of s) q).capacity) (by_queue q (history_made (view_of s) calls before))) + length (queue_at (view_of r.state) q).buffer ≡ length (entered (by_queue q (history_made (view_of s) calls before)))
words_counted {s} {calls} {before} {r = r} h j q =
    let seen = by_queue q (history_made (view_of s) calls before) in
    sym (length-append (gathered (leaves (queue_at (view_of s) q).capacity) seen) (queue_at (view_of r.state) q).buffer) ∙ ap (λ (l : List ℕ). length l) ((h.demand j).queues q).ordered ∙ length-map (entered seen) word_of
