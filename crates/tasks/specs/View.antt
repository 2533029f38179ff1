-- What is seen of the tasks: their entries, and who waits. Definitions only.
use Rattle.std.specs.Prelude.{ℕ, suc, List, map, pos, get_or, take}
use Rattle.model.specs.State.{TaskEntry, Waiter, waiter}
use Rattle.model.specs.declared.Side.TheVariants.{OnSem as on_sem, Receiving as receiving, Sending as sending}
use Rattle.tasks.specs.declared.task.Wait.{Wait}
use Rattle.tasks.specs.declared.task.Wait.TheVariants.{Ready, OnSem, Receiving, Sending}
use Rattle.tasks.specs.declared.task.Task.{Task}
use Rattle.tasks.specs.declared.state.Tasks.{Tasks}

-- what an unused cell holds
abbrev pub no_task : Task
no_task = record { domain = pos 0; priority = 0; wait = Ready }

-- the same task, which does something else
abbrev pub with_wait : Task → Wait → Task
with_wait t w = record { domain = t.domain; priority = t.priority; wait = w }

-- a waiting task: its number, where it waits, and its word
abbrev pub waiter_of : ℕ → Wait → Waiter
waiter_of t Ready = waiter t on_sem 0 0
waiter_of t (OnSem k) = waiter t on_sem (suc k) 0
waiter_of t (Receiving k) = waiter t receiving (suc k) 0
waiter_of t (Sending k w) = waiter t sending (suc k) w

abbrev pub waiter_at : List Task → ℕ → Waiter
waiter_at ts i = waiter_of (suc i) (get_or ts i no_task).wait

abbrev pub entry_of : Task → TaskEntry
entry_of t = record { domain = t.domain; priority = t.priority }

-- each task, as its entry gave it
unfoldable pub entries_of : Tasks → List TaskEntry
entries_of t = map entry_of (take t.count t.entries)

-- all who wait, in the order in which they began to
unfoldable pub waits_of : Tasks → List Waiter
waits_of t = map (waiter_at t.entries) (take t.order.count t.order.entries)
