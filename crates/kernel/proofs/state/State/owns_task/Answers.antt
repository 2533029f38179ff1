-- `State::owns_task` meets its contract. Assumes nothing.
use mathlib.Core.Path.{ap, ◌∙◌}
use mir.Val.{of_z}
use mir.Syntax.{w32}
use mir.Facts.{to_z-of_z}
use Rattle.std.specs.Prelude.{is_some}
use Rattle.access.specs.Domains.{ordinal_of}
use Rattle.access.proofs.Ordinals.{numbered_is_some}
use Rattle.kernel.proofs.Building.{owns_user}
use Rattle.kernel.proofs.state.State.owns_task.Goals as goal

pub returns : goal.returns
returns c =
    let a = c.args in
    c.is_some.ensures ∙ ap is_some (rw (to_z-of_z c.ranges.domain) at c.ordinal.ensures) ∙ numbered_is_some (ordinal_of a.domain a.self.now.domains)
    ∙ owns_user a.self.now.domains a.domain (λ e. c.if-domain-eq-KERNEL_DOMAIN.false (ap (of_z w32) e))
