-- `Tasks::arrived` meets its contract. The loop's invariant: who is asked for has `ahead` before it from here on. Assumes nothing.
use mathlib.Core.Path.{◌≡◌}
use lib.ListN.{get_or}
use Rattle.tasks.specs.Places.{place_in}
use Rattle.tasks.proofs.Waiters.{numbers_from}
use Rattle.tasks.proofs.state.Tasks.arrived.Given as goal

abbrev pub invariant-loop-task : goal.invariant-loop-task
invariant-loop-task l = let n = numbers_from l.fn.self.entries (place_in l.place) l.arrivals in get_or (n 0) l.k 0 ≡ get_or (n l.task-index) l.ahead 0
