-- `Tasks::most_urgent` meets its contract. The loop's invariant: a scan along those at the place has come to the next in the order. Assumes nothing.
use Prim.Native.Nat.{ℕ}
use mathlib.Core.List.{List}
use Rattle.model.specs.Lists.{at}
use Rattle.tasks.specs.declared.task.Task.{Task}
use Rattle.tasks.specs.View.{no_task}
use Rattle.tasks.specs.Places.{place_in}
use Rattle.tasks.proofs.Waiters.{numbers_from}
use Rattle.tasks.proofs.Leads.{Scan}
use Rattle.tasks.proofs.state.Tasks.most_urgent.Given as goal

abbrev pub rank_in : List Task → ℕ → ℕ
rank_in ts n = (at no_task ts n).priority

abbrev pub invariant-loop-task : goal.invariant-loop-task
invariant-loop-task l = let n = numbers_from l.entries (place_in l.place) l.arrivals in Scan (rank_in l.entries) (n 0) (n l.task-index) l.lead
