-- The text so far lies within its array. Assumes nothing.
use Rattle.std.proofs.Common.{◌≤◌}
use Rattle.command.specs.Lines.{line_size}
use Rattle.command.proofs.text.long.Given as goal

abbrev pub invariant-loop-byte : goal.invariant-loop-byte
invariant-loop-byte l = l.text.count ≤ line_size
