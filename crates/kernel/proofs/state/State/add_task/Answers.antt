-- `State::add_task` meets its contract. Assumes nothing.
use native.Mathlib.Omega.{arith}
use mathlib.Core.Path.{◌≡◌, sym, ap, ◌∙◌}
use mathlib.Core.Option.{none}
use mir.Facts.{to_z-of_z}
use Rattle.model.specs.Table.{task, check_entry, add}
use Rattle.model.proofs.Passed.{passed_none}
use Rattle.levels.proofs.Back.{more_form}
use Rattle.kernel.specs.View.{view_of}
use Rattle.kernel.specs.Form.{state_of}
use Rattle.kernel.specs.Inside.{with_tasks, with_levels}
use Rattle.kernel.proofs.Back.{tasks_held}
use Rattle.kernel.proofs.Building.{refuses_entry, takes_entry, task_room, task_fits}
use Rattle.kernel.proofs.state.State.add_task.Goals as goal
use Rattle.kernel.proofs.state.State.add_task.Goals.{Else-is_err}

pub returns-then-is_err : goal.returns-then-is_err
returns-then-is_err c =
    let a = c.args in
    refuses_entry c.requires (task a.domain a.priority) (rw (to_z-of_z c.ranges.domain) at c.check_task-checked.ensures) (sym c.is_err.ensures.value ∙ c.if-is_err.true) c.enter.ensures

passes : (c : Else-is_err) → let a = c.args in check_entry (view_of a.self) (task a.domain a.priority) ≡ none
passes c =
    let a = c.args in
    passed_none (check_entry (view_of a.self) (task a.domain a.priority)) (rw (to_z-of_z c.ranges.domain) at c.check_task-checked.ensures) (sym c.is_err.ensures.value ∙ c.if-is_err.false)

pub add-self-requires : goal.add-self-requires
add-self-requires c =
    let a = c.args in
    let m = view_of a.self in
    let r = task_room m a.domain a.priority (passes c.before) in
    (tasks_held c.requires, r.0, c.requires.sound.quiet r.1, rw (to_z-of_z c.ranges.domain) (task_fits m c.requires.sound.entries.domains a.domain a.priority (passes c.before)))

pub returns : goal.returns
returns c =
    let a = c.args in
    let p = passes c.before.before.before in
    let f = c.requires.form in
    let e = rw (to_z-of_z c.ranges.domain) at c.add-self.ensures in
    let n = c.requires.sound.fit.levels.each in
    let r = (task_room (view_of a.self) a.domain a.priority p).0 in
    let k = more_form (view_of a.self).levels (omega arith) in
    takes_entry c.requires (task a.domain a.priority) p ((λ i. with_tasks (f i) (e i)) ∙ ap (with_levels (state_of (add (view_of a.self) (task a.domain a.priority)))) k) c.enter-2.ensures
