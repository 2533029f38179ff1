-- The form of the data queues is seen as those queues, so that queues that look alike are the same. Assumes nothing.
use Prim.Native.Nat.{ℕ}
use mathlib.Core.Path.{◌≡◌, sym, ap, ◌∙◌, subst}
use mathlib.Core.List.{List, map}
use lib.ListN.{take}
use Rattle.arrays.specs.Pad.{pad}
use Rattle.arrays.proofs.Pads.{pad_take}
use Rattle.itron.specs.Limits.{max_queues, max_words}
use Rattle.model.specs.State as Model
use Rattle.model.specs.Conditions.{QueuesFit}
use Rattle.dataqueue.specs.View.{queue_seen, queues_of}
use Rattle.dataqueue.specs.Form.{no_record, laid, spread, queues_as}
use Rattle.dataqueue.specs.Held.{Held}
use Rattle.dataqueue.proofs.Parts.{laid_length, queues_back}

pub back_queues : (qs : List Model.Queue) → QueuesFit qs → queues_of (queues_as qs) ≡ qs
unfolding queues_of queues_as
back_queues qs f =
    let w = pad max_words 0 (spread qs) in
    ap (λ (n : ℕ). map (queue_seen w) (take n (pad max_queues no_record (laid 0 qs)))) (sym (laid_length 0 qs))
    ∙ ap (map (queue_seen w)) (pad_take no_record max_queues (laid 0 qs))
    ∙ queues_back max_words qs f.buffers

pub held_as : (qs : List Model.Queue) → QueuesFit qs → Held (queues_as qs)
unfolding queues_as
held_as qs f = record {
  form = ap queues_as (sym (back_queues qs f));
  fit = subst (λ (x : List Model.Queue). QueuesFit x) (sym (back_queues qs f)) f;
  few = f.few;
}
