-- `State::add_region` meets its contract. Assumes nothing.
use mathlib.Core.Path.{◌≡◌, refl, sym, ◌∙◌}
use mathlib.Core.Option.{none}
use lib.ListN.{length}
use Rattle.itron.specs.Limits.{max_regions}
use Rattle.model.specs.Table.{region, check_entry}
use Rattle.model.proofs.Passed.{passed_none}
use Rattle.kernel.specs.View.{view_of}
use Rattle.kernel.specs.Inside.{with_regions}
use Rattle.kernel.proofs.Back.{regions_held}
use Rattle.kernel.proofs.Building.{refuses_entry, takes_entry, room_of}
use Rattle.kernel.proofs.state.State.add_region.Goals as goal
use Rattle.kernel.proofs.state.State.add_region.Goals.{Else-is_err}

pub returns-then-is_err : goal.returns-then-is_err
returns-then-is_err c =
    let a = c.args in
    refuses_entry c.requires (region a.given.domain a.given.attribute a.given.base a.given.size a.given.vector) c.check_region-checked.ensures (sym c.is_err.ensures.value ∙ c.if-is_err.true) c.enter.ensures

passes : (c : Else-is_err) → let a = c.args in check_entry (view_of a.self) (region a.given.domain a.given.attribute a.given.base a.given.size a.given.vector) ≡ none
passes c =
    let a = c.args in
    passed_none (check_entry (view_of a.self) (region a.given.domain a.given.attribute a.given.base a.given.size a.given.vector)) c.check_region-checked.ensures (sym c.is_err.ensures.value ∙ c.if-is_err.false)

pub register-self-requires : goal.register-self-requires
register-self-requires c =
    let a = c.args in
    (regions_held c.requires, room_of (view_of a.self) (region a.given.domain a.given.attribute a.given.base a.given.size a.given.vector) (length (view_of a.self).fixed.regions) max_regions refl (passes c.before))

pub returns : goal.returns
returns c =
    let a = c.args in
    let f = c.requires.form in
    let e = c.register-self.ensures in
    takes_entry c.requires (region a.given.domain a.given.attribute a.given.base a.given.size a.given.vector) (passes c.before.before.before) (λ i. with_regions (f i) (e i)) c.enter-2.ensures
