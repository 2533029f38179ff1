-- `order::table` meets its contract: the state stays valid. Assumes nothing.
use Rattle.kernel.specs.Valid.{Valid}
use Rattle.timing.proofs.order.table.Given as goal

abbrev pub invariant-loop-priority : goal.invariant-loop-priority
invariant-loop-priority l = Valid l.s
