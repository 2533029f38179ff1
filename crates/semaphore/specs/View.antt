-- What is seen of the semaphores: their records. Definitions only.
use Rattle.std.specs.Prelude.{List, take}
use Rattle.model.specs.declared.sem.Semaphore.{Semaphore}
use Rattle.semaphore.specs.declared.state.Semaphores.{Semaphores}

unfoldable pub sems_of : Semaphores → List Semaphore
sems_of s = take s.count s.records
