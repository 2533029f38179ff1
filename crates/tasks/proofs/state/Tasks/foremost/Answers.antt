-- `Tasks::foremost` meets its contract: nobody waits. Assumes nothing.
use Prim.Native.Nat.{ℕ}
use mathlib.Core.Path.{◌≡◌, refl, sym, ap, ◌∙◌}
use mathlib.Core.Bool.{Bool, true, false}
use mathlib.Core.List.{List, [], map}
use lib.ListN.{take}
use Rattle.model.specs.State.{TaskEntry}
use Rattle.model.specs.Waits.{waiters_in, standing, first_task}
use Rattle.tasks.specs.View.{entries_of, waits_of, waiter_at}
use Rattle.tasks.specs.Places.{place_in}
use Rattle.tasks.proofs.state.Tasks.foremost.Goals as goal

nobody_first : (b : Bool) (ts : List TaskEntry) → first_task (standing b ts []) ≡ 0
nobody_first true ts = refl
nobody_first false ts = refl

pub returns-then-is_empty : goal.returns-then-is_empty
unfolding waits_of
returns-then-is_empty c =
    let a = c.args in
    let ts = entries_of a.self in
    sym (ap (λ (m : ℕ). first_task (standing a.by_priority ts (waiters_in (map (waiter_at a.self.entries) (take m a.self.order.entries)) (place_in a.place)))) (c.is_empty.ensures.0 c.if-is_empty.true)
    ∙ nobody_first a.by_priority ts)
