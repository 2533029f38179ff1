-- What is to be gathered from here on is what was to be gathered at the start. Assumes nothing.
use Rattle.std.proofs.Common.{◌≡◌, ◌≤◌, take, drop}
use Rattle.command.specs.Lines.{line_size, gathered_of, gathered_to}
use Rattle.command.proofs.line.Line.gathered.Given as goal

abbrev pub invariant-loop-at : goal.invariant-loop-at
invariant-loop-at l =
    (gathered_of (take l.fn.self.count l.fn.self.bytes) l.from (drop l.from l.block) ≡ gathered_of (take l.line.count l.line.bytes) l.at (drop l.at l.block))
    × (gathered_to l.fn.self (drop l.from l.block) ≡ gathered_to l.line (drop l.at l.block))
    × (l.fn.self.count ≤ line_size → l.line.count ≤ line_size)
