-- `State::on_queue` meets its contract. Assumes nothing.
use mathlib.Core.Path.{refl}
use mir.Facts.{to_z-of_z}
use Rattle.model.specs.Queues.{act_of}
use Rattle.model.specs.Calls.{on_queue}
use Rattle.kernel.proofs.Calls.{queues, on_part}
use Rattle.kernel.proofs.state.State.on_queue.Goals as goal

pub returns : goal.returns
returns c =
    let a = c.args in
    on_part c.requires (queues c.requires) a.caller a.id (act_of a.request) (on_queue a.id (act_of a.request)) refl (rw (to_z-of_z c.ranges.caller, to_z-of_z c.ranges.id) at c.queue_effect.ensures) c.with_queues.ensures
