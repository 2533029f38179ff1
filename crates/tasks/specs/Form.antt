-- The one form in which the arrays hold the tasks: unused cells are zero, and what is held twice agrees. Definitions only.
use Rattle.std.specs.Prelude.{ℕ, suc, cond, List, [], ◌∷◌, map, eqb, length}
use Rattle.arrays.specs.Pad.{pad}
use Rattle.itron.specs.Limits.{max_tasks}
use Rattle.model.specs.Lists.{index}
use Rattle.model.specs.State.{TaskEntry, Waiter}
use Rattle.model.specs.declared.Side.{Side}
use Rattle.model.specs.declared.Side.TheVariants.{OnSem as on_sem, Receiving as receiving, Sending as sending}
use Rattle.tasks.specs.declared.task.Wait.{Wait}
use Rattle.tasks.specs.declared.task.Wait.TheVariants.{Ready, OnSem, Receiving, Sending}
use Rattle.tasks.specs.declared.task.Task.{Task}
use Rattle.tasks.specs.declared.state.Tasks.{Tasks}
use Rattle.tasks.specs.View.{no_task}
use Rattle.tasks.specs.Orders.{order_of}

abbrev pub wait_as : Side → ℕ → ℕ → Wait
wait_as on_sem n w = OnSem (index n)
wait_as receiving n w = Receiving (index n)
wait_as sending n w = Sending (index n) w

abbrev pub wait_in : Waiter → Wait
wait_in e = wait_as e.place.side e.place.number e.word

-- what a task does, by the list of all who wait
abbrev pub wait_for : ℕ → List Waiter → Wait
wait_for t [] = Ready
wait_for t (e ∷ l) = cond (eqb t e.task) (wait_in e) (wait_for t l)

-- a task by its entry and what it does
abbrev pub task_as : TaskEntry → Wait → Task
task_as e w = record { domain = e.domain; priority = e.priority; wait = w }

-- the tasks after the first n, of these entries
abbrev pub tasks_from : ℕ → List TaskEntry → List Waiter → List Task
tasks_from n [] l = []
tasks_from n (e ∷ es) l = task_as e (wait_for (suc n) l) ∷ tasks_from (suc n) es l

abbrev pub index_in : Waiter → ℕ
index_in e = index e.task

unfoldable pub tasks_as : List TaskEntry → List Waiter → Tasks
tasks_as es ws =
    record {
      count = length es;
      entries = pad max_tasks no_task (tasks_from 0 es ws);
      order = order_of (map index_in ws);
    }
