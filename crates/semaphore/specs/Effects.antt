-- What a request of a semaphore gives, as the program gives it. Definitions only.
use Rattle.std.specs.Prelude.{List, ℤ, Result}
use Rattle.model.specs.State.{TaskEntry}
use Rattle.model.specs.declared.sem.Semaphore.{Semaphore}
use Rattle.model.specs.declared.sem.SemaphoreCall.{SemaphoreCall}
use Rattle.model.specs.declared.check.Admitted.{Admitted}
use Rattle.model.specs.Answers as Model
use Rattle.model.specs.Acts.{Act}
use Rattle.model.specs.Semaphores.{room}
use Rattle.tasks.specs.declared.state.Tasks.{Tasks}
use Rattle.tasks.specs.declared.effect.Effect.{Effect}
use Rattle.tasks.specs.Effects as OfAnyKind
use Rattle.semaphore.specs.declared.state.Semaphores.{Semaphores}
use Rattle.semaphore.specs.View.{sems_of}
use Rattle.semaphore.specs.Form.{sems_as}

-- the model's effect, with the tasks, which have these entries, and the semaphores in their form
abbrev pub effect_as : List TaskEntry → Model.Effect Semaphore → Effect Semaphores
effect_as = OfAnyKind.effect_as sems_as

-- what the checks refuse, or what the act does
abbrev pub acted : Tasks → Semaphores → Act SemaphoreCall → Result Admitted ℤ → Effect Semaphores
acted = OfAnyKind.acted room sems_as sems_of
