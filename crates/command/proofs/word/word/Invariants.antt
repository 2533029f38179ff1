-- The word looked for is one of the rest. Assumes nothing.
use Rattle.std.proofs.Common.{◌≡◌, ◌-◌}
use Rattle.command.specs.Words.{word_at}
use Rattle.command.proofs.word.word.Given as goal

abbrev pub invariant-loop-passed : goal.invariant-loop-passed
invariant-loop-passed l = word_at l.k l.text ≡ word_at (l.k - l._passed) l.rest
