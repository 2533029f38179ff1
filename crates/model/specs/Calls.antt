-- Calls on an open gateway (document 01): which calls there are, and one call. Definitions only.
use Rattle.std.proofs.Math.Option.{Option, none, some}
use Rattle.std.specs.Prelude.{ℕ, ℤ}
use Rattle.itron.specs.declared.error.Error.{Error as Refusal}
use Rattle.model.specs.declared.Request.{Request}
use Rattle.model.specs.declared.Request.TheVariants as Requests
use Rattle.model.specs.State.{State, no}
use Rattle.model.specs.Answers.{Out, refuse}
use Rattle.model.specs.Acts.{Act}
use Rattle.model.specs.Rooms.{Asks, on_object}
use Rattle.model.specs.Semaphores as Semaphores
use Rattle.model.specs.Semaphores.{SemaphoreCall}
use Rattle.model.specs.Queues as Queues
use Rattle.model.specs.Queues.{QueueCall}
use Rattle.model.specs.ExtendedCalls.{ExtendedCall, of_level}

-- ---- the calls: on the semaphore or the data queue of a number, and on the caller's own level
pub data Op : Type 0 where
  on_semaphore : ℤ → Act SemaphoreCall → Op
  on_queue : ℤ → Act QueueCall → Op
  on_level : ExtendedCall → Op

-- what the program is asked for
abbrev pub op_of : Request → Op
op_of (Requests.Semaphore n x) = on_semaphore n (Semaphores.act_of x)
op_of (Requests.Queue n x) = on_queue n (Queues.act_of x)
op_of (Requests.Extended c) = on_level c

-- the host says which task calls
pub record Call : Type 0 where
  pub caller : ℤ
  pub op : Op

abbrev pub call : ℤ → Op → Call
call t op = record { caller = t; op = op }

-- what each of them is
abbrev pub asks : Op → Asks
asks (on_semaphore n a) = on_object Semaphores.room n a
asks (on_queue n a) = on_object Queues.room n a
asks (on_level c) = of_level c

-- ---- one call: the checks, then the effect
abbrev pub act_if : State → ℕ → Asks → Option Refusal → Out
act_if s t x (some e) = refuse s e
act_if s t x none = x.act s t

unfoldable pub step : State → Call → Out
step s c = act_if s (no c.caller) (asks c.op) ((asks c.op).check s (no c.caller))
