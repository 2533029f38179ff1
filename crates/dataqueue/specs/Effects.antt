-- What a request of a data queue gives, as the program gives it. Definitions only.
use Rattle.std.specs.Prelude.{List, ℤ, Result}
use Rattle.model.specs.State.{TaskEntry, Queue}
use Rattle.model.specs.declared.dtq.QueueCall.{QueueCall}
use Rattle.model.specs.declared.check.Admitted.{Admitted}
use Rattle.model.specs.Answers as Model
use Rattle.model.specs.Acts.{Act}
use Rattle.model.specs.Queues.{room}
use Rattle.tasks.specs.declared.state.Tasks.{Tasks}
use Rattle.tasks.specs.declared.effect.Effect.{Effect}
use Rattle.tasks.specs.Effects as OfAnyKind
use Rattle.dataqueue.specs.declared.state.Queues.{Queues}
use Rattle.dataqueue.specs.View.{queues_of}
use Rattle.dataqueue.specs.Form.{queues_as}

-- the model's effect, with the tasks, which have these entries, and the queues in their form
abbrev pub effect_as : List TaskEntry → Model.Effect Queue → Effect Queues
effect_as = OfAnyKind.effect_as queues_as

-- what the checks refuse, or what the act does
abbrev pub acted : Tasks → Queues → Act QueueCall → Result Admitted ℤ → Effect Queues
acted = OfAnyKind.acted room queues_as queues_of
