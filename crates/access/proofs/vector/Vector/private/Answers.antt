-- `Vector::private` meets its contract. Assumes nothing.
use Prim.Native.Nat.{◌-◌}
use native.Mathlib.Omega.{arith}
use mathlib.Core.Path.{◌≡◌, sym, ap, ◌∙◌}
use mathlib.Core.Logic.{◌≢◌}
use mir.Facts.{to_z-of_z}
use Rattle.std.specs.Prelude.{Some}
use Rattle.itron.specs.Limits.{max_domains}
use Rattle.access.specs.Domains.{ordinal_of, numbered}
use Rattle.access.specs.Vectors.{uniform}
use Rattle.access.proofs.Ordinals.{ordinal_le, numbered_none, numbered_some}
use Rattle.access.proofs.Vectors.{private_none, private_user}
use Rattle.access.proofs.Patterns.{one_bit}
use Rattle.access.proofs.vector.Vector.private.Goals as goal
use Rattle.access.proofs.vector.Vector.private.Goals.{In-Some}

pub returns-in_default : goal.returns-in_default
returns-in_default c =
    private_none _ (numbered_none _ (sym (rw (to_z-of_z c.ranges.domain) at c.ordinal.ensures) ∙ c.in_default.is))

-- the number of a user domain
own : (c : In-Some) → (c.in-Some.d ≡ ordinal_of c.args.domain max_domains) × (c.in-Some.d ≢ 0)
own c = numbered_some _ _ (sym (rw (to_z-of_z c.ranges.domain) at c.ordinal.ensures) ∙ c.in-Some.is)

pub overflow_cast-bit : goal.overflow_cast-bit
overflow_cast-bit c = omega (arith, (own c).0, ordinal_le c.args.domain max_domains)

pub overflow_shl-bit : goal.overflow_shl-bit
overflow_shl-bit c = omega (arith, (own c).0, ordinal_le c.args.domain max_domains)

pub overflow_sub-bit : goal.overflow_sub-bit
overflow_sub-bit c = omega (arith, (own c).1)

pub returns : goal.returns
returns c =
    let d = c.in-Some.d in
    ap uniform (one_bit (d - 1) 32 (omega (arith, (own c).0, ordinal_le c.args.domain max_domains))) ∙ private_user _ d (own c).0 (own c).1
