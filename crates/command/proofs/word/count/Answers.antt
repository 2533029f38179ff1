-- The spaces, in the library's words, and one. Assumes nothing.
use Rattle.std.proofs.Common.{rules, arith, ◌≡◌, sym, eqb, length}
use Rattle.std.specs.List.{count_by}
use Rattle.command.proofs.Walks.{words_some, words_empty}
use Rattle.command.proofs.word.count.Goals as goal

pub returns-then-is_empty : goal.returns-then-is_empty
returns-then-is_empty c =
    let e : length c.args.text.now ≡ 0 = grind arith in
    sym (words_empty c.args.text.now e)

pub returns : goal.returns
returns c =
    let some : length c.args.text.now ≡ 0 → ⊥ = grind arith in
    let e : c.count.result ≡ count_by (λ b. eqb b 32) c.args.text.now = search rules in
    let w = words_some c.args.text.now some in
    omega (arith, e, w)
