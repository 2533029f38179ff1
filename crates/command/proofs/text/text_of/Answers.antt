-- One byte after another. Assumes nothing.
use Rattle.std.proofs.Common.{rules, ◌∙◌, sym, take, drop, ◌+◌}
use Rattle.command.specs.Texts.{text_from}
use Rattle.command.proofs.Walks.{text_begins, text_ends, text_goes, text_stops}
use Rattle.command.proofs.text.text_of.Goals as goal

pub loop-byte-init : goal.loop-byte-init
loop-byte-init c =
    let t = c.empty-text.result in
    (text_begins c.args.line.now (take t.count t.bytes) c.empty-text.ensures.bytes, search rules)

pub returns-then-byte-eq-HASH-clause-bytes : goal.returns-then-byte-eq-HASH-clause-bytes
returns-then-byte-eq-HASH-clause-bytes c =
    let t = c.loop-byte.text in
    sym (c.loop-byte.invariant.0 ∙ text_ends c.args.line.now c.loop-byte.gap (take t.count t.bytes) c.loop-byte.byte-index c.loop-byte-test.true c.if-byte-eq-HASH.true)

pub loop-byte-preserved : goal.loop-byte-preserved
loop-byte-preserved c =
    let t = c.loop-byte.text in
    let i = c.loop-byte.byte-index in
    let b = c.args.line.now in
    let g = sym c.is_blank-gap.ensures in
    let e = sym c.with-text.ensures.bytes in (
      c.loop-byte.invariant.0 ∙ text_goes b c.loop-byte.gap (take t.count t.bytes) i c.loop-byte-test.true c.if-byte-eq-HASH.false
          ∙ (λ j. text_from (g j) (e j) (drop (i + 1) b)),
      search rules,
    )

pub returns-clause-bytes : goal.returns-clause-bytes
returns-clause-bytes c =
    let t = c.loop-byte.text in
    sym (c.loop-byte.invariant.0 ∙ text_stops c.args.line.now c.loop-byte.gap (take t.count t.bytes) c.loop-byte.byte-index c.loop-byte-test.false)
