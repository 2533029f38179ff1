-- `State::waiter` meets its contract. Assumes nothing.
use Prim.Native.Nat.{suc, ◌-◌}
use native.Mathlib.Omega.{arith}
use mathlib.Core.Path.{◌≡◌, ◌∙◌}
use mathlib.Core.List.{map}
use lib.ListN.{get_or}
use Rattle.model.specs.State.{place}
use Rattle.model.specs.Waits.{standing, waiters_in}
use Rattle.tasks.specs.Ends.{task_in}
use Rattle.kernel.specs.View.{view_of}
use Rattle.kernel.proofs.Back.{tasks_held}
use Rattle.kernel.proofs.Places.{no_waiter}
use Rattle.kernel.proofs.state.State.waiter.Goals as goal

pub returns-then-number-eq0 : goal.returns-then-number-eq0
returns-then-number-eq0 c =
    let a = c.args in no_waiter (view_of a.self.now) c.requires.sound a.side a.number a.k c.if-number-eq0.true

pub waiter-requires : goal.waiter-requires
waiter-requires c = tasks_held c.requires

pub returns : goal.returns
returns c =
    let a = c.args in
    let z = c.if-number-eq0.false in
    let e : suc (a.number - 1) ≡ a.number = omega arith in
    let m = view_of a.self.now in
    let o = c.by_priority.ensures in
    c.waiter.ensures ∙ (λ i. get_or (map task_in (standing (o i) m.fixed.tasks (waiters_in m.waits (place a.side (e i))))) a.k 0)
