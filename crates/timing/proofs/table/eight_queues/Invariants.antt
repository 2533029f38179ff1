-- `table::eight_queues` meets its contract: the state stays valid. Assumes nothing.
use Rattle.kernel.specs.Valid.{Valid}
use Rattle.timing.proofs.table.eight_queues.Given as goal

abbrev pub invariant-loop : goal.invariant-loop
invariant-loop l = Valid l.s
