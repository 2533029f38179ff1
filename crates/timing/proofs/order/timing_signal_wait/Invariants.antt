-- `order::timing_signal_wait` is safe and ends: the state stays valid. Assumes nothing.
use Rattle.kernel.specs.Valid.{Valid}
use Rattle.timing.proofs.order.timing_signal_wait.Given as goal

abbrev pub invariant-loop : goal.invariant-loop
invariant-loop l = Valid l.s
