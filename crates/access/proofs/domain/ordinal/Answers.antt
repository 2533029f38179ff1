-- `access::domain::ordinal` meets its contract: by the sign, then by the limit. Assumes nothing.
use native.Mathlib.Omega.{arith}
use mathlib.Core.Path.{◌≡◌, ap, ◌∙◌}
use mathlib.Core.Bool.{false}
use lib.IntN.{pos, nat_abs}
use lib.Signed.{lt_z}
use mir.Facts.{to_z-of_z, Fits-nat_abs}
use Rattle.access.specs.Domains.{numbered}
use Rattle.access.proofs.Ordinals.{ordinal_low, not_below, not_below_sign, ordinal_over, ordinal_in, numbered_in}
use Rattle.access.proofs.domain.ordinal.Goals as goal

pub returns-then-number-lt1 : goal.returns-then-number-lt1
returns-then-number-lt1 c = ap numbered (ordinal_low _ _ (rw (to_z-of_z c.ranges.number) at c.if-number-lt1.true))

pub overflow_cast-n : goal.overflow_cast-n
overflow_cast-n c =
    rw (to_z-of_z c.ranges.number)
    (not_below_sign c.args.number 1 (rw (to_z-of_z c.ranges.number) at c.if-number-lt1.false), Fits-nat_abs tt c.ranges.number)

pub returns-then-limit-n : goal.returns-then-limit-n
returns-then-limit-n c =
    ap numbered (ordinal_over _ _ (rw (to_z-of_z c.ranges.number) at c.if-number-lt1.false) (rw (to_z-of_z c.ranges.number) at c.if-limit-n.true))

pub returns : goal.returns
returns c =
    let above : lt_z c.args.number (pos 1) ≡ false = rw (to_z-of_z c.ranges.number) at c.if-number-lt1.false in
    let positive = (not_below c.args.number 1 above).1 in
    rw (to_z-of_z c.ranges.number)
    (numbered_in (nat_abs c.args.number) (λ e. omega (arith, positive, e))
    ∙ ap numbered (ordinal_in _ _ above (rw (to_z-of_z c.ranges.number) at c.if-limit-n.false)))
