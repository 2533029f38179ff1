-- `access::pattern::admits` meets its contract: the kernel domain, then a bit of the pattern moved up. Assumes nothing.
use Prim.Native.Nat.{ℕ, zero, suc, ◌*◌, ◌/◌, ◌^◌}
use native.Mathlib.Nat.{div-one, mul-div-mul_right, mul-mod_left, pow-suc}
use native.Mathlib.Numerals.{sub-one}
use native.Mathlib.Omega.{arith}
use mathlib.Core.Path.{◌≡◌, sym, ap, ◌∙◌}
use lib.IntN.{ℤ, negsuc}
use lib.Dec.{eqb}
use lib.Bits.{bit_and, and_mask}
use lib.Pow.{shl_exact}
use mir.Syntax.{w32, w64}
use mir.Val.{bits, to_z, of_z}
use mir.Facts.{to_z-of_z}
use borrow.Author.Tests.{eq-eqb}
use Rattle.itron.specs.Limits.{max_domains}
use Rattle.access.specs.Domains.{ordinal_of}
use Rattle.access.specs.Patterns.{admitted}
use Rattle.std.specs.Prelude.{unwrap_or}
use Rattle.access.proofs.Ordinals.{ordinal_le, numbered_or_0}
use Rattle.access.proofs.Patterns.{admitted_kernel, admitted_nobody, admitted_user}
use Rattle.access.proofs.pattern.admits.Goals as goal

-- a pattern moved up by one has at d the bit of domain d, and at 0 none
moved_up : (p : ℕ) (z : ℤ) (d : ℕ) → (z ≡ negsuc 0 → ⊥) → d ≡ ordinal_of z max_domains → eqb (bit_and (p * 2 / 2 ^ d) 1) 1 ≡ admitted p z
moved_up p z zero k u = rw (div-one (p * 2), and_mask (p * 2) 1, mul-mod_left p 2) (admitted_nobody p z k (sym u))
moved_up p z (suc j) k u =
    rw (pow-suc 2 j, mul-div-mul_right {m = 2} p (2 ^ j) (omega arith))
    (rw (sub-one (suc j)) at (admitted_user p z (suc j) u (λ e. omega arith)))

-- what `ordinal` gives, of the domain itself (a signed argument arrives as the machine reads it back)
user : (c : goal.After-unwrap_or) → c.unwrap_or.result ≡ ordinal_of c.args.domain max_domains
user c = c.unwrap_or.ensures ∙ ap (λ o. unwrap_or o 0) (rw (to_z-of_z c.ranges.domain) at c.ordinal.ensures) ∙ numbered_or_0 (ordinal_of c.args.domain max_domains)

pub overflow_shr-result : goal.overflow_shr-result
overflow_shr-result c = omega (arith, user c, ordinal_le c.args.domain max_domains)

pub returns-then-domain-eq-KERNEL_DOMAIN : goal.returns-then-domain-eq-KERNEL_DOMAIN
returns-then-domain-eq-KERNEL_DOMAIN c =
    eq-eqb _ _ c.if-domain-eq-KERNEL_DOMAIN.true ∙ admitted_kernel _ _ (sym (to_z-of_z c.ranges.domain) ∙ ap (to_z w32) c.if-domain-eq-KERNEL_DOMAIN.true)

-- in 64 bits no bit of the pattern is lost
pub returns-else-domain-eq-KERNEL_DOMAIN : goal.returns-else-domain-eq-KERNEL_DOMAIN
returns-else-domain-eq-KERNEL_DOMAIN c =
    ap (λ (x : ℕ). eqb (bit_and (x / 2 ^ c.unwrap_or.result) 1) 1) (shl_exact (bits w32) 1 (bits w64) c.ranges.pattern.fits (omega arith))
    ∙ moved_up _ _ _ (λ e. c.if-domain-eq-KERNEL_DOMAIN.false (ap (of_z w32) e)) (user c)
