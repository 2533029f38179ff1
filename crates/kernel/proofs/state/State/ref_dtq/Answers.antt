-- `State::ref_dtq` meets its contract. Assumes nothing.
use mathlib.Core.Path.{refl}
use mir.Facts.{to_z-of_z}
use Rattle.model.specs.Acts.{refer}
use Rattle.model.specs.Calls.{on_queue}
use Rattle.kernel.proofs.Calls.{queues, on_part, tells}
use Rattle.kernel.proofs.state.State.ref_dtq.Goals as goal

pub returns : goal.returns
returns c =
    let a = c.args in
    tells c.requires a.caller (on_queue a.id refer) refl (on_part c.requires (queues c.requires) a.caller a.id refer (on_queue a.id refer) refl (rw (to_z-of_z c.ranges.caller, to_z-of_z c.ranges.id) at c.queue_effect.ensures) c.with_queues.ensures)
