-- `State::get_mem` meets its contract. Assumes nothing.
use mathlib.Core.Path.{sym, ap, ◌∙◌}
use mathlib.Core.List.{[]}
use mir.Facts.{to_z-of_z}
use Rattle.std.specs.Prelude.{option_copied, unwrap_or}
use Rattle.model.specs.Images.{image}
use Rattle.kernel.proofs.HandOuts.{part_by, part_refused, part_ok}
use Rattle.kernel.proofs.state.State.get_mem.Goals as goal

pub returns-then-is_err : goal.returns-then-is_err
returns-then-is_err c =
    let a = c.args in
    part_refused a.self.now a.domain a.base a.size (image a.bases.flash a.flash.now) (image a.bases.ram a.ram.now) (rw (to_z-of_z c.ranges.domain) at c.hand_out-allowed.ensures) (sym c.is_err.ensures.value ∙ c.if-is_err.true)

pub returns-in_default : goal.returns-in_default
returns-in_default c =
    let a = c.args in
    let allowed = sym c.is_err.ensures.value ∙ c.if-is_err.false in
    let p = part_by c.new.ensures.flash c.new.ensures.ram a.base a.size c.part.ensures in
    ap (λ o. unwrap_or (option_copied o) []) (sym c.in_default.is) ∙ p
    ∙ part_ok a.self.now a.domain a.base a.size (image a.bases.flash a.flash.now) (image a.bases.ram a.ram.now) (rw (to_z-of_z c.ranges.domain) at c.hand_out-allowed.ensures) allowed

pub returns : goal.returns
returns c =
    let a = c.args in
    let p = part_by c.new.ensures.flash c.new.ensures.ram a.base a.size c.part.ensures in
    ap (λ o. unwrap_or (option_copied o) []) (sym c.in-Some.is) ∙ p
    ∙ part_ok a.self.now a.domain a.base a.size (image a.bases.flash a.flash.now) (image a.bases.ram a.ram.now) (rw (to_z-of_z c.ranges.domain) at c.hand_out-allowed.ensures) (sym c.is_err.ensures.value ∙ c.if-is_err.false)
