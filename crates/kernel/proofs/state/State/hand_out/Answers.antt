-- `State::hand_out` meets its contract. Assumes nothing.
use mathlib.Core.Path.{sym, ap, ◌∙◌}
use mir.Facts.{to_z-of_z}
use Rattle.std.specs.Prelude.{Err as Refused}
use Rattle.std.proofs.lemmas.Result.{err_from_is_err_and}
use Rattle.model.specs.Images.{image}
use Rattle.kernel.proofs.HandOuts.{lendable_by, held_by, out_ctx, out_par, out_refused, out_noexs, out_ok}
use Rattle.kernel.proofs.state.State.hand_out.Goals as goal

pub returns-then-not-self : goal.returns-then-not-self
returns-then-not-self c =
    let a = c.args in
    out_ctx a.self.now a.domain a.base a.size (image a.bases.flash a.flash.now) (image a.bases.ram a.ram.now) c.if-not-self.true

pub returns-then-not-are_lendable : goal.returns-then-not-are_lendable
returns-then-not-are_lendable c =
    let a = c.args in
    out_par a.self.now a.domain a.base a.size (image a.bases.flash a.flash.now) (image a.bases.ram a.ram.now) c.if-not-self.false (lendable_by c.new-images.ensures.flash c.new-images.ensures.ram c.are_lendable.ensures ∙ c.if-not-are_lendable.true)

pub returns-in_err-verdict : goal.returns-in_err-verdict
returns-in_err-verdict c =
    let a = c.args in
    let p = err_from_is_err_and c.from_residual.result c.from_residual.ensures.1 in
    p.1 ∙ ap Refused p.2 ∙ out_refused a.self.now a.domain a.base a.size (image a.bases.flash a.flash.now) (image a.bases.ram a.ram.now) c.if-not-self.false (lendable_by c.new-images.ensures.flash c.new-images.ensures.ram c.are_lendable.ensures ∙ c.if-not-are_lendable.false) (sym (rw (to_z-of_z c.ranges.domain) at c.verdict.ensures) ∙ c.in_err-verdict.was)

pub returns-then-not-is_held : goal.returns-then-not-is_held
returns-then-not-is_held c =
    let a = c.args in
    out_noexs a.self.now a.domain a.base a.size (image a.bases.flash a.flash.now) (image a.bases.ram a.ram.now) c.if-not-self.false (lendable_by c.new-images.ensures.flash c.new-images.ensures.ram c.are_lendable.ensures ∙ c.if-not-are_lendable.false) (sym (rw (to_z-of_z c.ranges.domain) at c.verdict.ensures) ∙ c.in_ok-verdict.was) (held_by c.new-images.ensures.flash c.new-images.ensures.ram a.base a.size c.is_held.ensures ∙ c.if-not-is_held.true)

pub returns : goal.returns
returns c =
    let a = c.args in
    out_ok a.self.now a.domain a.base a.size (image a.bases.flash a.flash.now) (image a.bases.ram a.ram.now) c.if-not-self.false (lendable_by c.new-images.ensures.flash c.new-images.ensures.ram c.are_lendable.ensures ∙ c.if-not-are_lendable.false) (sym (rw (to_z-of_z c.ranges.domain) at c.verdict.ensures) ∙ c.in_ok-verdict.was) (held_by c.new-images.ensures.flash c.new-images.ensures.ram a.base a.size c.is_held.ensures ∙ c.if-not-is_held.false)
