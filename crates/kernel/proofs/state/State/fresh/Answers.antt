-- `State::fresh` meets its contract. Assumes nothing.
use mathlib.Core.Path.{◌≡◌, sym, ap, ◌∙◌}
use mathlib.Core.Bool.{Bool, ◌&&◌, ◌||◌}
use lib.Dec.{eqb}
use mir.Syntax.{w32}
use mir.Val.{to_z, of_z}
use mir.Facts.{to_z-of_z}
use borrow.Author.Tests.{eqb-true, eqb-false}
use Rattle.std.specs.Prelude.{is_some, unwrap_or}
use Rattle.itron.specs.Codes.{ok_number, number_of}
use Rattle.itron.specs.Limits.{max_domains}
use Rattle.itron.specs.declared.error.Error.TheVariants.{Par as e_par}
use Rattle.access.specs.Domains.{ordinal_of}
use Rattle.access.proofs.Ordinals.{numbered_is_some, numbered_or_0}
use Rattle.model.specs.Table.{empty_state}
use Rattle.model.specs.Units.{unit_ok}
use Rattle.kernel.specs.Form.{state_of}
use Rattle.kernel.specs.Answers.{entered}
use Rattle.kernel.proofs.Back.{begins}
use Rattle.kernel.proofs.Building.{counted, counted_by, fresh_refused, fresh_taken}
use Rattle.kernel.proofs.state.State.fresh.Goals as goal
use Rattle.kernel.proofs.state.State.fresh.Goals.{After-is_unit}

-- what is tested of n and of the unit
tested : (c : After-is_unit) → let a = c.args in (eqb (of_z w32 a.n) 0 || c.is_some.result) && c.is_unit.result ≡ counted a.n && unit_ok a.unit
tested c =
    let n = c.args.n in
    let e = to_z-of_z c.ranges.n in
    let o = c.is_some.ensures ∙ ap is_some (rw e at c.ordinal-domains.ensures) ∙ numbered_is_some (ordinal_of n max_domains) in
    let u = c.is_unit.ensures in
    let k = counted_by n (eqb (of_z w32 n) 0) (λ h. sym e ∙ ap (to_z w32) (eqb-true (of_z w32 n) 0 h)) (λ h q. eqb-false (of_z w32 n) 0 h (ap (of_z w32) q)) in
    (λ i. (eqb (of_z w32 n) 0 || o i) && u i) ∙ ap (λ (b : Bool). b && unit_ok c.args.unit) k

pub returns-then-not-counted-is_unit : goal.returns-then-not-counted-is_unit
returns-then-not-counted-is_unit c =
    let a = c.args in
    begins a.n a.unit (c.enter.ensures ∙ ap (entered (number_of e_par)) c.empty.ensures
    ∙ fresh_refused a.n a.unit (sym (tested c.before.before.before) ∙ c.if-not-counted-is_unit.true))

pub returns : goal.returns
returns c =
    let a = c.args in
    let d = c.unwrap_or.ensures ∙ ap (λ o. unwrap_or o 0) (rw (to_z-of_z c.ranges.n) at c.ordinal-domains.ensures) ∙ numbered_or_0 (ordinal_of a.n max_domains) in
    begins a.n a.unit (c.enter-2.ensures ∙ ap (entered ok_number) c.empty-2.ensures ∙ (λ i. entered ok_number (state_of (empty_state (d i) a.unit)))
    ∙ fresh_taken a.n a.unit (sym (tested c.before.before.before.before) ∙ c.if-not-counted-is_unit.false))
