-- `calls::many` meets its contract: the state stays valid. Assumes nothing.
use Rattle.kernel.specs.Valid.{Valid}
use Rattle.bench.proofs.calls.many.Given as goal

abbrev pub invariant-loop : goal.invariant-loop
invariant-loop g l = Valid l.s
