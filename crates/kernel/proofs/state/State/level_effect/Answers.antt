-- `State::level_effect` meets its contract: by who calls. Assumes nothing.
use native.Mathlib.Omega.{arith}
use mathlib.Core.Path.{◌≡◌, sym, ap, ◌∙◌}
use mir.Facts.{to_z-of_z}
use Rattle.std.specs.Prelude.{Some, None, Err as Refused}
use Rattle.std.proofs.lemmas.Result.{err_from_is_err_and}
use Rattle.itron.specs.declared.error.Error.TheVariants.{Ctx as e_ctx}
use Rattle.kernel.proofs.Levels.{level_nobody, level_acts}
use Rattle.kernel.proofs.state.State.level_effect.Goals as goal

pub returns-in_err-task : goal.returns-in_err-task
returns-in_err-task c =
    let a = c.args in
    let p = err_from_is_err_and c.from_residual.result c.from_residual.ensures.1 in
    let none : c.caller.result ≡ None = grind arith in
    let code : p.0 ≡ e_ctx = grind arith in
    p.1 ∙ ap Refused code ∙ level_nobody c.requires a.caller a.asked (sym (rw (to_z-of_z c.ranges.caller) at c.caller.ensures) ∙ none)

pub returns : goal.returns
returns c =
    let a = c.args in
    let who = c.in_ok-task.field-0 in
    let some : c.caller.result ≡ Some who = grind arith in
    c.act.ensures ∙ level_acts c.requires a.caller a.asked who.task (sym (rw (to_z-of_z c.ranges.caller) at c.caller.ensures) ∙ some)
