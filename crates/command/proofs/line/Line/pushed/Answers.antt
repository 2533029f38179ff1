-- By whether there is room. Assumes nothing.
use Rattle.std.proofs.Common.{rules, ◌≡◌, length}
use borrow.Author.Tests.{lt-ltb, le-ltb}
use Rattle.command.specs.Lines.{line_size, pushed_to}
use Rattle.command.proofs.Walks.{pushed_full, pushed_more}
use Rattle.command.proofs.line.Line.pushed.Goals as goal

pub returns-then-at-ge-SIZE-clause-bytes : goal.returns-then-at-ge-SIZE-clause-bytes
returns-then-at-ge-SIZE-clause-bytes c =
    let l : length c.args.self.bytes ≡ line_size = search rules in
    pushed_full c.args.self.bytes c.args.self.count c.args.byte l c.if-at-ge-SIZE.true

pub returns-then-at-ge-SIZE-clause-whole : goal.returns-then-at-ge-SIZE-clause-whole
unfolding pushed_to
returns-then-at-ge-SIZE-clause-whole c = rw (le-ltb _ _ c.if-at-ge-SIZE.true)

pub returns-clause-bytes : goal.returns-clause-bytes
returns-clause-bytes c =
    let l : length c.args.self.bytes ≡ line_size = search rules in
    pushed_more c.args.self.bytes c.args.self.count c.args.byte l c.if-at-ge-SIZE.false

pub returns-clause-whole : goal.returns-clause-whole
unfolding pushed_to
returns-clause-whole c = rw (lt-ltb _ _ c.if-at-ge-SIZE.false)
