-- `sem::timing_refer_set_semaphore` is safe and ends: the state stays valid. Assumes nothing.
use Rattle.kernel.specs.Valid.{Valid}
use Rattle.timing.proofs.sem.timing_refer_set_semaphore.Given as goal

abbrev pub invariant-loop : goal.invariant-loop
invariant-loop l = Valid l.s
