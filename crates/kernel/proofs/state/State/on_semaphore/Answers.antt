-- `State::on_semaphore` meets its contract. Assumes nothing.
use mathlib.Core.Path.{refl}
use mir.Facts.{to_z-of_z}
use Rattle.model.specs.Semaphores.{act_of}
use Rattle.model.specs.Calls.{on_semaphore}
use Rattle.kernel.proofs.Calls.{semaphores, on_part}
use Rattle.kernel.proofs.state.State.on_semaphore.Goals as goal

pub returns : goal.returns
returns c =
    let a = c.args in
    on_part c.requires (semaphores c.requires) a.caller a.id (act_of a.request) (on_semaphore a.id (act_of a.request)) refl (rw (to_z-of_z c.ranges.caller, to_z-of_z c.ranges.id) at c.semaphore_effect.ensures) c.with_semaphores.ensures
