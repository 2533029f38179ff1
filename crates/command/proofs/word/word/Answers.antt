-- One word after another is passed. Assumes nothing.
use Rattle.std.proofs.Common.{◌∙◌, sym, ap, ℕ, ◌-◌, ◌+◌, take}
use Rattle.command.specs.Words.{word_at}
use Rattle.command.proofs.Walks.{word_next, word_here}
use Rattle.command.proofs.word.word.Goals as goal

pub loop-passed-preserved : goal.loop-passed-preserved
loop-passed-preserved c =
    let k = c.args.k in
    let i = c.loop-passed._passed in
    c.loop-passed.invariant ∙ word_next k i c.loop-passed.rest.now c.loop-passed-test.true ∙ ap (word_at (k - (i + 1))) (sym c.behind_first-rest.ensures)

pub returns : goal.returns
returns c =
    let l = c.loop-passed.rest.now in
    ap (λ (n : ℕ). take n l) c.first_length.ensures.value
    ∙ sym (c.loop-passed.invariant ∙ word_here c.args.k c.loop-passed._passed l c.loop-passed-test.false)
