-- `Tasks::ranked` meets its contract. The loop's invariant: who is asked for has those before it who are not passed yet, among those who are left. Assumes nothing.
use Prim.Native.Nat.{◌-◌}
use mathlib.Core.Path.{◌≡◌}
use mathlib.Core.Bool.{true}
use mathlib.Core.List.{map}
use lib.ListN.{get_or}
use Rattle.tasks.specs.Held.{Held}
use Rattle.tasks.specs.Places.{place_in}
use Rattle.tasks.specs.Ends.{task_in}
use Rattle.tasks.proofs.Firsts.{queue_at}
use Rattle.tasks.proofs.state.Tasks.ranked.Given as goal

abbrev pub invariant-ahead : goal.invariant-ahead
invariant-ahead l = Held l.self × (get_or (map task_in (queue_at l.initial.self true (place_in l.place))) l.k 0 ≡ get_or (map task_in (queue_at l.self true (place_in l.place))) (l.k - l.counter) 0)
