-- `Session::run` meets its contract. The loop's invariant: the state is valid, and the line lies within its array. Assumes nothing.
use Rattle.std.proofs.Common.{◌≤◌}
use Rattle.command.specs.Lines.{line_size}
use Rattle.kernel.specs.Valid.{Valid}
use Rattle.session.proofs.session.Session.run.Given as goal

abbrev pub invariant-loop : goal.invariant-loop
invariant-loop g l = Valid l.self.state × (l.fn.self.line.count ≤ line_size → l.self.line.count ≤ line_size)
