-- `run::run` meets its contract: item by item. Assumes nothing.
use Rattle.batch.proofs.Loops.{Loop}
use Rattle.batch.proofs.run.run.Given as goal

abbrev pub invariant-loop-k : goal.invariant-loop-k
invariant-loop-k l = Loop l.initial.state l.calls l.initial.answers l.state l.answers l.k
