-- What every function on the semaphores asks of them and keeps. Definitions only.
use Rattle.std.specs.Prelude.{◌≤◌, ◌≡◌}
use Rattle.itron.specs.Limits.{max_semaphores}
use Rattle.semaphore.specs.declared.state.Semaphores.{Semaphores}
use Rattle.semaphore.specs.View.{sems_of}
use Rattle.semaphore.specs.Form.{sems_as}

-- the semaphores are the form of what is seen of them, within the limit
pub record Held (s : Semaphores) : Type 0 where
  pub form : s ≡ sems_as (sems_of s)
  pub few : s.count ≤ max_semaphores
