-- `Order::without` meets its contract. The loop's invariant: what is kept of the entries passed. Assumes nothing.
use mathlib.Core.Path.{◌≡◌}
use lib.ListN.{take}
use Rattle.tasks.specs.Orders.{order_of, without}
use Rattle.tasks.proofs.order.Order.without.Given as goal

abbrev pub invariant-loop-task : goal.invariant-loop-task
invariant-loop-task l = l.rest ≡ order_of (without l.left (take l.task-index l.all))
