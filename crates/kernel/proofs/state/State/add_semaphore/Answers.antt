-- `State::add_semaphore` meets its contract. Assumes nothing.
use mathlib.Core.Path.{◌≡◌, refl, sym, ◌∙◌}
use mathlib.Core.Option.{none}
use lib.ListN.{length}
use Rattle.itron.specs.Limits.{max_semaphores}
use Rattle.model.specs.Table.{sem, check_entry}
use Rattle.model.proofs.Passed.{passed_none}
use Rattle.kernel.specs.View.{view_of}
use Rattle.kernel.specs.Inside.{with_semaphores}
use Rattle.kernel.proofs.Back.{sems_held}
use Rattle.kernel.proofs.Building.{refuses_entry, takes_entry, room_of}
use Rattle.kernel.proofs.state.State.add_semaphore.Goals as goal
use Rattle.kernel.proofs.state.State.add_semaphore.Goals.{Else-is_err}

pub returns-then-is_err : goal.returns-then-is_err
returns-then-is_err c =
    let a = c.args in
    refuses_entry c.requires (sem a.given.domain a.given.attribute a.given.start a.given.max a.given.vector) c.check_semaphore-checked.ensures (sym c.is_err.ensures.value ∙ c.if-is_err.true) c.enter.ensures

passes : (c : Else-is_err) → let a = c.args in check_entry (view_of a.self) (sem a.given.domain a.given.attribute a.given.start a.given.max a.given.vector) ≡ none
passes c =
    let a = c.args in
    passed_none (check_entry (view_of a.self) (sem a.given.domain a.given.attribute a.given.start a.given.max a.given.vector)) c.check_semaphore-checked.ensures (sym c.is_err.ensures.value ∙ c.if-is_err.false)

pub register-self-requires : goal.register-self-requires
register-self-requires c =
    let a = c.args in
    (sems_held c.requires, room_of (view_of a.self) (sem a.given.domain a.given.attribute a.given.start a.given.max a.given.vector) (length (view_of a.self).sems) max_semaphores refl (passes c.before))

pub returns : goal.returns
returns c =
    let a = c.args in
    let f = c.requires.form in
    let e = c.register-self.ensures in
    takes_entry c.requires (sem a.given.domain a.given.attribute a.given.start a.given.max a.given.vector) (passes c.before.before.before) (λ i. with_semaphores (f i) (e i)) c.enter-2.ensures
