-- `order::all_send` meets its contract: the state stays valid. Assumes nothing.
use Rattle.kernel.specs.Valid.{Valid}
use Rattle.timing.proofs.order.all_send.Given as goal

abbrev pub invariant-loop : goal.invariant-loop
invariant-loop l = Valid l.s

abbrev pub invariant-loop-sender : goal.invariant-loop-sender
invariant-loop-sender l = Valid l.s
