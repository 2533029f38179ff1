-- What every function on the tasks asks of them and keeps. Definitions only.
use Rattle.std.specs.Prelude.{ℕ, suc, ◌≤◌, ◌<◌, ◌≡◌, ℤ, Bool, true, false, List, length}
use Rattle.itron.specs.Limits.{max_tasks}
use Rattle.model.specs.State.{TaskEntry, Waiter}
use Rattle.model.specs.Waits.{absent}
use Rattle.model.specs.Conditions.{WaitsFit}
use Rattle.std.specs.Prelude.{Result, Ok}
use Rattle.model.specs.declared.check.Admitted.{Admitted}
use Rattle.tasks.specs.declared.task.Wait.{Wait}
use Rattle.tasks.specs.declared.task.Wait.TheVariants.{Ready, OnSem, Receiving, Sending}
use Rattle.tasks.specs.declared.state.Tasks.{Tasks}
use Rattle.tasks.specs.View.{entries_of, waits_of}
use Rattle.tasks.specs.Form.{tasks_as}

-- the tasks are the form of what is seen of them, within the limits; the last two follow from these
pub record Held (t : Tasks) : Type 0 where
  pub form : t ≡ tasks_as (entries_of t) (waits_of t)
  pub fit : WaitsFit (entries_of t) (waits_of t)
  pub few : t.count ≤ max_tasks
  pub room : t.order.count ≤ max_tasks

abbrev pub is_ready : Wait → Bool
is_ready Ready = true
is_ready (OnSem k) = false
is_ready (Receiving k) = false
is_ready (Sending k w) = false

-- the task with an index is registered and does not wait
pub record Free (es : List TaskEntry) (ws : List Waiter) (task : ℕ) : Type 0 where
  pub low : task < length es
  pub free : absent (suc task) ws ≡ true

-- what an effect may take for granted of what the checks found: a caller that is admitted is a ready task, and its object is one of so many
pub record Passed (ts : Tasks) (objects : ℕ) (check : Result Admitted ℤ) : Type 0 where
  pub free : (a : Admitted) → check ≡ Ok a → Free (entries_of ts) (waits_of ts) a.task
  pub there : (a : Admitted) → check ≡ Ok a → a.object < objects
