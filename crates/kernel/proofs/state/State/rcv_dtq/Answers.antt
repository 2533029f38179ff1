-- `State::rcv_dtq` meets its contract. Assumes nothing.
use mathlib.Core.Path.{refl}
use mir.Facts.{to_z-of_z}
use Rattle.model.specs.Acts.{own}
use Rattle.model.specs.Calls.{on_queue}
use Rattle.model.specs.declared.Patience.TheVariants.{Forever}
use Rattle.model.specs.declared.dtq.QueueCall.TheVariants.{Receive as receive}
use Rattle.kernel.proofs.Calls.{queues, on_part}
use Rattle.kernel.proofs.state.State.rcv_dtq.Goals as goal

pub returns : goal.returns
returns c =
    let a = c.args in
    on_part c.requires (queues c.requires) a.caller a.id (own (receive Forever)) (on_queue a.id (own (receive Forever))) refl (rw (to_z-of_z c.ranges.caller, to_z-of_z c.ranges.id) at c.queue_effect.ensures) c.with_queues.ensures
