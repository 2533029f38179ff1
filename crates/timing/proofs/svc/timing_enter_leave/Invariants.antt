-- `svc::timing_enter_leave` is safe and ends: the state stays valid. Assumes nothing.
use Rattle.kernel.specs.Valid.{Valid}
use Rattle.timing.proofs.svc.timing_enter_leave.Given as goal

abbrev pub invariant-loop : goal.invariant-loop
invariant-loop l = Valid l.s
