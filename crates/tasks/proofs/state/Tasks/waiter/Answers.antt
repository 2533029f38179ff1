-- `Tasks::waiter` meets its contract: by priority, as they came. Assumes nothing.
use native.Mathlib.Omega.{arith}
use Prim.Native.Nat.{suc}
use mathlib.Core.Bool.{true, false}
use Rattle.model.specs.State.{place}
use Rattle.tasks.proofs.Firsts.{nth_low}
use Rattle.tasks.proofs.state.Tasks.waiter.Goals as goal

pub task_number-requires : goal.task_number-requires
task_number-requires c =
    let a = c.args in
    let l = nth_low c.requires true (place a.side (suc a.object)) a.k in
    let m = c.requires.fit.tasks in
    omega (arith, c.ranked.ensures)

pub task_number-requires-2 : goal.task_number-requires-2
task_number-requires-2 c =
    let a = c.args in
    let l = nth_low c.requires false (place a.side (suc a.object)) a.k in
    let m = c.requires.fit.tasks in
    omega (arith, c.arrived.ensures)
