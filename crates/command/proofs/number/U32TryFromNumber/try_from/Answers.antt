-- The number as a narrower type, where it fits. Assumes nothing.
use Rattle.std.proofs.Common.{rules, ◌∙◌, to_z, of_z}
use Rattle.std.proofs.lemmas.Int.{to_z-of_z}
use mir.Syntax.{w64}
use mir.Val.{SFits}
use Rattle.command.proofs.Digits.{unsigned_is}
use Rattle.command.proofs.number.U32TryFromNumber.try_from.Goals as goal

pub returns : goal.returns
returns c =
    let z = c.args.number.value in
    let f : SFits w64 z = search rules in
    c.or.ensures ∙ unsigned_is z (to_z w64 (of_z w64 z)) (to_z-of_z w64 z f) c.try_from.result c.try_from.ensures
