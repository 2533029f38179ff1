-- One byte after another. Assumes nothing.
use Rattle.std.proofs.Common.{◌∙◌, sym, ap, ℕ, List, ◌+◌, take, drop}
use Rattle.command.specs.Lines.{gathered_of, gathered_to}
use Rattle.command.proofs.Walks.{gather_ends, gather_goes, gather_stops, line_ends, line_goes, line_stops}
use Rattle.command.specs.declared.line.Line.{Line}
use Rattle.command.proofs.line.Line.gathered.Goals as goal

pub returns-then-byte-eq-LF : goal.returns-then-byte-eq-LF
returns-then-byte-eq-LF c =
    let b = c.args.block.now in
    let i = c.loop-at.at in
    let l = c.loop-at.line in
    record {
      bytes = sym (c.loop-at.invariant.0 ∙ gather_ends b (take l.count l.bytes) i c.loop-at-test.true c.if-byte-eq-LF.true);
      whole = sym (c.loop-at.invariant.1 ∙ line_ends b l i c.loop-at-test.true c.if-byte-eq-LF.true);
      within = c.loop-at.invariant.2;
    }

pub loop-at-preserved : goal.loop-at-preserved
loop-at-preserved c =
    let b = c.args.block.now in
    let i = c.loop-at.at in
    let l = c.loop-at.line in (
      c.loop-at.invariant.0 ∙ gather_goes b (take l.count l.bytes) i c.loop-at-test.true c.if-byte-eq-LF.false
          ∙ ap (λ (x : List ℕ). gathered_of x (i + 1) (drop (i + 1) b)) (sym c.pushed-line.ensures.bytes),
      c.loop-at.invariant.1 ∙ line_goes b l i c.loop-at-test.true c.if-byte-eq-LF.false
          ∙ ap (λ (x : Line). gathered_to x (drop (i + 1) b)) (sym c.pushed-line.ensures.whole),
      λ k. c.pushed-line.ensures.within (c.loop-at.invariant.2 k),
    )

pub returns : goal.returns
returns c =
    let b = c.args.block.now in
    let i = c.loop-at.at in
    let l = c.loop-at.line in
    record {
      bytes = sym (c.loop-at.invariant.0 ∙ gather_stops b (take l.count l.bytes) i c.loop-at-test.false);
      whole = sym (c.loop-at.invariant.1 ∙ line_stops b l i c.loop-at-test.false);
      within = c.loop-at.invariant.2;
    }
