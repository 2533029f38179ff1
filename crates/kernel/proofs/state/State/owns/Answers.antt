-- `State::owns` meets its contract. Assumes nothing.
use mathlib.Core.Path.{sym, ap, ◌∙◌}
use mir.Syntax.{w32}
use mir.Val.{to_z, of_z}
use mir.Facts.{to_z-of_z}
use Rattle.kernel.proofs.Building.{owns_none, owns_other}
use Rattle.kernel.proofs.state.State.owns.Goals as goal

pub returns-then-domain-eq-NO_DOMAIN : goal.returns-then-domain-eq-NO_DOMAIN
returns-then-domain-eq-NO_DOMAIN c =
    owns_none c.args.self.now.domains c.args.domain (sym (to_z-of_z c.ranges.domain) ∙ ap (to_z w32) c.if-domain-eq-NO_DOMAIN.true)

pub returns : goal.returns
returns c =
    rw (to_z-of_z c.ranges.domain) at c.owns_task.ensures ∙ owns_other c.args.self.now.domains c.args.domain (λ e. c.if-domain-eq-NO_DOMAIN.false (ap (of_z w32) e))
