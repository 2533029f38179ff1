-- `dtq::timing_refer_set_queue` is safe and ends: the state stays valid. Assumes nothing.
use Rattle.kernel.specs.Valid.{Valid}
use Rattle.timing.proofs.dtq.timing_refer_set_queue.Given as goal

abbrev pub invariant-loop : goal.invariant-loop
invariant-loop l = Valid l.s
