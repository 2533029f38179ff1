-- The starred runs of document 01, proved together. Assumes nothing.
use mathlib.Core.Path.{◌≡◌, refl}
use mathlib.Core.List.{List, [], ◌∷◌, map}
use lib.IntN.{pos}
use Rattle.access.specs.Patterns.{admitted}
use Rattle.model.specs.State.{State}
use Rattle.model.specs.Table.{Entry, enter, fresh, close}
use Rattle.model.specs.Units.{unit_ok}
use Rattle.model.specs.Regions.{in_chain, from_holder, judge}
use Rattle.model.specs.Verdict.{verdict}
use Rattle.model.specs.Rooms.{check}
use Rattle.model.specs.Calls.{step}
use Rattle.model.specs.Demand3.{JustClosed}
use Rattle.laws.specs.Starred.{Step, unit, entries, enter_all, bench, run, starred}
use Rattle.laws.proofs.Runs.{Idle, idle_enter, idle_fresh, idle_closed}

pub starred_runs : run bench (map (λ (x : Step). x.item) starred) ≡ map (λ (x : Step). x.result) starred
unfolding run bench step check admitted enter fresh unit_ok close verdict judge from_holder in_chain
starred_runs = refl

-- in this table nobody waits and nothing is buffered
idle_all : (s : State) (l : List Entry) → Idle s → Idle (enter_all s l)
idle_all s [] k = k
idle_all s (i ∷ l) k = idle_all (enter s i).state l (idle_enter s i k)

pub bench_just_closed : JustClosed bench
unfolding bench
bench_just_closed = idle_closed (enter_all (fresh (pos 2) unit).state entries) (idle_all (fresh (pos 2) unit).state entries (idle_fresh (pos 2) unit))
