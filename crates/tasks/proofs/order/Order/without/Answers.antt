-- `Order::without` meets its contract: the next is kept, or it is the one left out. Assumes nothing.
use Prim.Native.Nat.{◌<◌}
use native.Mathlib.Omega.{arith}
use mathlib.Core.Path.{ap, ◌∙◌}
use lib.ListN.{length, get_or}
use Rattle.itron.specs.Limits.{max_tasks}
use Rattle.tasks.specs.declared.order.Order.{Order}
use Rattle.tasks.specs.Orders.{pushed}
use Rattle.std.proofs.lemmas.List.{length-take}
use Rattle.tasks.proofs.Orders.{without_few, without_kept, without_left}
use Rattle.tasks.proofs.order.Order.without.Goals as goal
use Rattle.tasks.proofs.order.Order.without.Goals.{then-task-left, else-task-left}

pub push-requires : goal.push-requires
push-requires c =
    let a = c.args in
    let n = ap (λ (o : Order). o.count) c.loop-task.invariant in
    omega (arith, n, without_few a.left c.loop-task.task-index c.as_slice-all.result.now, ap length c.as_slice-all.ensures, length-take a.self.now.count a.self.now.entries, c.requires)

pub loop-task-preserved : goal.loop-task-preserved
loop-task-preserved c =
    let a = c.args in
    let o = c.as_slice-all.result.now in
    let i = c.loop-task.task-index in
    elim c.if-task-left.branch [
      | then-task-left w ↦
          let l : i < max_tasks = omega (arith, ap length c.as_slice-all.ensures, length-take a.self.now.count a.self.now.entries, c.requires, c.loop-task-test.true) in
          w.rest-is ∙ w.push.ensures ∙ ap (λ (r : Order). pushed r (get_or o i 0)) c.loop-task.invariant ∙ without_kept a.left i o c.loop-task-test.true w.if-task-left.true l
      | else-task-left w ↦ w.rest-is ∙ c.loop-task.invariant ∙ without_left a.left i o c.loop-task-test.true w.if-task-left.false
    ]
