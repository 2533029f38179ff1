-- The one form in which the array holds the semaphores: unused cells are zeros. Definitions only.
use Rattle.std.specs.Prelude.{List, length}
use Rattle.arrays.specs.Pad.{pad}
use Rattle.itron.specs.Limits.{max_semaphores}
use Rattle.model.specs.State.{no_sem}
use Rattle.model.specs.declared.sem.Semaphore.{Semaphore}
use Rattle.semaphore.specs.declared.state.Semaphores.{Semaphores}

unfoldable pub sems_as : List Semaphore → Semaphores
sems_as xs = record { count = length xs; records = pad max_semaphores no_sem xs }
