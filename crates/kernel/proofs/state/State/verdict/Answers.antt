-- `State::verdict` meets its contract. Assumes nothing.
use mathlib.Core.Path.{sym, ◌∙◌}
use mir.Facts.{to_z-of_z}
use Rattle.kernel.proofs.Back.{regions_held}
use Rattle.kernel.proofs.Building.{verdict_ctx, verdict_id, verdict_judged}
use Rattle.kernel.proofs.state.State.verdict.Goals as goal

pub returns-then-not-self : goal.returns-then-not-self
returns-then-not-self c = let a = c.args in verdict_ctx a.self.now a.domain a.base a.size a.wishes c.if-not-self.true

pub returns-then-not-owns_task : goal.returns-then-not-owns_task
returns-then-not-owns_task c =
    let a = c.args in
    verdict_id a.self.now a.domain a.base a.size a.wishes c.if-not-self.false (sym (rw (to_z-of_z c.ranges.domain) at c.owns_task.ensures) ∙ c.if-not-owns_task.true)

pub judge-requires : goal.judge-requires
judge-requires c = regions_held c.requires

pub returns : goal.returns
returns c =
    let a = c.args in
    rw (to_z-of_z c.ranges.domain) at c.judge.ensures
    ∙ verdict_judged a.self.now a.domain a.base a.size a.wishes c.if-not-self.false (sym (rw (to_z-of_z c.ranges.domain) at c.owns_task.ensures) ∙ c.if-not-owns_task.false)
