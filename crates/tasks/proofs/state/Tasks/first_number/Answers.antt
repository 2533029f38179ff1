-- `Tasks::first_number` meets its contract. Assumes nothing.
use native.Mathlib.Omega.{arith}
use Prim.Native.Nat.{suc}
use Rattle.model.specs.State.{place}
use Rattle.tasks.proofs.Firsts.{queue_at, first_task_lem, nth_low}
use Rattle.tasks.proofs.state.Tasks.first_number.Goals as goal

pub task_number-requires : goal.task_number-requires
task_number-requires c =
    let a = c.args in
    let p = place a.side (suc a.object) in
    let l = nth_low c.requires a.by_priority p 0 in
    let m = c.requires.fit.tasks in
    omega (arith, first_task_lem (queue_at a.self a.by_priority p), c.foremost.ensures)
