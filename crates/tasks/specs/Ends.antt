-- What the functions on the tasks give. Definitions only.
use Rattle.std.specs.Prelude.{ℕ, suc, Bool, cond, not, ◌&&◌, List, [], ◌∷◌, eqb, leb, length}
use Rattle.itron.specs.Codes.{ok_number}
use Rattle.model.specs.Lists.{index, at}
use Rattle.model.specs.State.{TaskEntry, Waiter, no_task as no_entry}
use Rattle.model.specs.Answers.{Effect, reply_of}
use Rattle.model.specs.Waits.{absent, leave}
use Rattle.model.specs.declared.Outcome.TheVariants.{Code}
use Rattle.tasks.specs.declared.task.Task.{Task}
use Rattle.tasks.specs.declared.wait.First.{First}
use Rattle.std.specs.Prelude.{Option, Some, None}
use Rattle.tasks.specs.declared.wait.Caller.{Caller}
use Rattle.tasks.specs.declared.wait.Ended.{Ended}
use Rattle.tasks.specs.View.{no_task}
use Rattle.tasks.specs.Form.{task_as, tasks_as, wait_for}

-- the first of a wait queue, with its word
abbrev pub first_of : List Waiter → Option First
first_of [] = None
first_of (e ∷ l) = Some (record { task = index e.task; word = e.word })

-- the number of the task with an index, 0 of none
abbrev pub task_number : Option ℕ → ℕ
task_number None = 0
task_number (Some i) = suc i

-- the number of a waiting task
abbrev pub task_in : Waiter → ℕ
task_in e = e.task

-- a number from 1 to the number of tasks
abbrev pub is_task : List TaskEntry → ℕ → Bool
is_task es t = not (eqb t 0) && leb t (length es)

-- who calls: a registered ready task with its domain, or nobody who may
abbrev pub caller_of : List TaskEntry → List Waiter → ℕ → Option Caller
caller_of es ws t = cond (is_task es t && absent t ws) (Some (record { task = index t; domain = (at no_entry es t).domain })) None

-- the task with a number; an unused cell where there is none
abbrev pub task_of : List TaskEntry → List Waiter → ℕ → Task
task_of es ws t = cond (is_task es t) (task_as (at no_entry es t) (wait_for t ws)) no_task

-- a call's end that changes the tasks only
abbrev pub ended_of : {R : Type 0} → List TaskEntry → Effect R → Ended
ended_of es e = record { reply = reply_of e.answer; tasks = tasks_as es e.waits }

-- the task with index t is released with a word, and the caller gets one
abbrev pub woken_of : List TaskEntry → List Waiter → ℕ → ℕ → ℕ → Ended
woken_of es ws t word handed = record { reply = record { outcome = Code ok_number; word = word; released = record { task = suc t; word = handed } }; tasks = tasks_as es (leave (suc t) ws) }
