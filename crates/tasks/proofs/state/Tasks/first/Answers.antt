-- `Tasks::first` meets its contract: nobody, somebody. Assumes nothing.
use native.Mathlib.Omega.{arith}
use mathlib.Core.Path.{ap, ◌∙◌}
use Prim.Native.Nat.{ℕ, suc}
use Rattle.std.specs.Prelude.{Some}
use Rattle.model.specs.State.{place}
use Rattle.tasks.proofs.Firsts.{first_none, first_few, first_found}
use Rattle.tasks.proofs.state.Tasks.first.Goals as goal

pub returns-in_err-task : goal.returns-in_err-task
returns-in_err-task c =
    let a = c.args in
    c.from_residual.ensures ∙ first_none c.requires a.by_priority (place a.side (suc a.object)) c.in_err-task.ensures

pub offset_bounds-entries-task : goal.offset_bounds-entries-task
offset_bounds-entries-task c =
    let a = c.args in
    omega (arith, first_few c.requires a.by_priority (place a.side (suc a.object)) c.in_ok-task.task c.in_ok-task.ensures)

pub bounds-entries-task : goal.bounds-entries-task
bounds-entries-task c =
    let a = c.args in
    first_few c.requires a.by_priority (place a.side (suc a.object)) c.in_ok-task.task c.in_ok-task.ensures

pub returns : goal.returns
returns c =
    let a = c.args in
    ap (λ (w : ℕ). Some (record { task = c.in_ok-task.task; word = w })) c.word-word.ensures
    ∙ first_found c.requires a.by_priority (place a.side (suc a.object)) c.in_ok-task.task c.in_ok-task.ensures
