-- `Vector::default_for` meets its contract. Assumes nothing.
use mathlib.Core.Path.{sym, ap, ◌∙◌}
use mir.Syntax.{w32}
use mir.Val.{to_z, of_z}
use mir.Facts.{to_z-of_z}
use Rattle.access.proofs.Vectors.{default_shared, default_other}
use Rattle.access.proofs.vector.Vector.default_for.Goals as goal

pub returns-then-domain-eq-NO_DOMAIN : goal.returns-then-domain-eq-NO_DOMAIN
returns-then-domain-eq-NO_DOMAIN c =
    default_shared _ (sym (to_z-of_z c.ranges.domain) ∙ ap (to_z w32) c.if-domain-eq-NO_DOMAIN.true)

pub returns : goal.returns
returns c =
    rw (to_z-of_z c.ranges.domain) at c.private.ensures ∙ default_other c.args.domain (λ e. c.if-domain-eq-NO_DOMAIN.false (ap (of_z w32) e))
