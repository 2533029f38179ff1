-- `State::sac_sem` meets its contract. Assumes nothing.
use mathlib.Core.Path.{refl}
use mir.Facts.{to_z-of_z}
use Rattle.model.specs.Acts.{set_vector}
use Rattle.model.specs.Calls.{on_semaphore}
use Rattle.kernel.proofs.Calls.{semaphores, on_part}
use Rattle.kernel.proofs.state.State.sac_sem.Goals as goal

pub returns : goal.returns
returns c =
    let a = c.args in
    on_part c.requires (semaphores c.requires) a.caller a.id (set_vector a.vector) (on_semaphore a.id (set_vector a.vector)) refl (rw (to_z-of_z c.ranges.caller, to_z-of_z c.ranges.id) at c.semaphore_effect.ensures) c.with_semaphores.ensures
