-- `access::audit::audit` meets its contract: n below 0, above 32, within. Assumes nothing.
use mathlib.Core.Path.{◌≡◌}
use mathlib.Core.Bool.{false}
use lib.IntN.{pos}
use lib.Signed.{lt_z}
use mir.Facts.{to_z-of_z, Fits-nat_abs}
use Rattle.access.proofs.Ordinals.{not_below_sign}
use Rattle.access.proofs.Audits.{refused_below, audit_over, audit_within}
use Rattle.access.proofs.audit.audit.Goals as goal

pub returns-then-n-lt0 : goal.returns-then-n-lt0
returns-then-n-lt0 c = refused_below _ _ (rw (to_z-of_z c.ranges.n) at c.if-n-lt0.true)

-- past the test of the sign, of n itself
signed : (c : goal.Else-n-lt0) → lt_z c.args.n (pos 0) ≡ false
signed c = rw (to_z-of_z c.ranges.n) at c.if-n-lt0.false

pub overflow_cast-domains : goal.overflow_cast-domains
overflow_cast-domains c =
    rw (to_z-of_z c.ranges.n) (not_below_sign c.args.n 0 (signed c), Fits-nat_abs tt c.ranges.n)

pub returns-then-domains-gt-MAX_DOMAINS : goal.returns-then-domains-gt-MAX_DOMAINS
returns-then-domains-gt-MAX_DOMAINS c =
    audit_over _ _ (signed c.before) (rw (to_z-of_z c.ranges.n) at c.if-domains-gt-MAX_DOMAINS.true)

pub returns : goal.returns
returns c =
    rw (c.report.ensures, c.report-2.ensures, c.report-3.ensures, c.report-4.ensures, to_z-of_z c.ranges.n)
    (audit_within c.args.vector c.args.n (signed c.before.before.before.before.before) (rw (to_z-of_z c.ranges.n) at c.if-domains-gt-MAX_DOMAINS.false))
