-- By whether a gap stands between two words. Assumes nothing.
use Rattle.std.proofs.Common.{◌∙◌, sym, take}
use Rattle.command.proofs.Walks.{spaced_more, spaced_first, spaced_next}
use Rattle.command.proofs.text.spaced.Goals as goal
use Rattle.command.proofs.text.spaced.Goals.{else-gap-via-then-gap+else-not-is_empty, else-gap-via-else-gap}

pub returns-then-not-is_empty-clause-bytes : goal.returns-then-not-is_empty-clause-bytes
returns-then-not-is_empty-clause-bytes c =
    let t = c.args.text in
    c.pushed.ensures.bytes ∙ sym (spaced_more c.args.gap (take t.count t.bytes) 0 c.if-gap.true (sym c.is_empty.ensures ∙ c.if-not-is_empty.true))

pub returns-clause-bytes : goal.returns-clause-bytes
returns-clause-bytes c =
    let t = c.args.text in
    elim c.else-gap.branch [
      | else-gap-via-then-gap+else-not-is_empty w ↦
          sym (spaced_first c.args.gap (take t.count t.bytes) 0 w.if-gap.true (sym w.is_empty.ensures ∙ w.if-not-is_empty.false))
      | else-gap-via-else-gap w ↦
          sym (spaced_next c.args.gap (take t.count t.bytes) 0 w.if-gap.false)
    ]
