-- `each::forced` meets its contract: the state stays valid. Assumes nothing.
use Rattle.kernel.specs.Valid.{Valid}
use Rattle.timing.proofs.each.forced.Given as goal

abbrev pub invariant-loop-id : goal.invariant-loop-id
invariant-loop-id l = Valid l.s
