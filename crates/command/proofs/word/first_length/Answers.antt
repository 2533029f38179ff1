-- The first space, or the text's end. Assumes nothing.
use Rattle.std.proofs.Common.{◌≡◌, ◌∙◌, ap, arith, ℕ, Option, length}
use Rattle.std.specs.Option.{unwrap_or}
use Rattle.command.specs.Words.{space_at}
use Rattle.command.proofs.Walks.{space_found, space_within}
use Rattle.command.proofs.word.first_length.Goals as goal

pub returns-clause-value : goal.returns-clause-value
returns-clause-value c =
    let t = c.args.text.now in
    c.unwrap_or.ensures ∙ ap (λ (o : Option ℕ). unwrap_or o (length t)) c.first_space.ensures ∙ space_found t

pub returns-clause-within : goal.returns-clause-within
returns-clause-within c =
    let t = c.args.text.now in
    let e : c.unwrap_or.result ≡ space_at t = c.unwrap_or.ensures ∙ ap (λ (o : Option ℕ). unwrap_or o (length t)) c.first_space.ensures ∙ space_found t in
    omega (arith, e, space_within t)
