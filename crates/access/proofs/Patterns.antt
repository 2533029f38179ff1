-- Laws of `admitted`, in the order of the code's tests. Assumes nothing.
use Prim.Native.Nat.{ℕ, zero, suc, ◌-◌, ◌^◌, ◌*◌, ◌/◌, ◌%◌, ◌<◌}
use native.Mathlib.Omega.{arith}
use native.Mathlib.Nat.{one-mul}
use mathlib.Core.Path.{◌≡◌, refl, sym, ap, ◌∙◌}
use mathlib.Core.Bool.{true, false}
use lib.IntN.{ℤ, pos, negsuc}
use lib.Dec.{eqb}
use lib.Pow.{shl_exact}
use lib.Bits.{bit_and, and_mask}
use borrow.Author.Tests.{lt-ltb, le-ltb}
use Rattle.itron.specs.Limits.{max_domains}
use Rattle.access.specs.Domains.{ordinal_of}
use Rattle.access.specs.Patterns.{bit_at, admitted}
use Rattle.access.proofs.Ordinals.{ordinal_user, ordinal_none}

pub admitted_kernel : (p : ℕ) (z : ℤ) → z ≡ negsuc 0 → true ≡ admitted p z
unfolding admitted
admitted_kernel p z h = rw h

pub admitted_nobody : (p : ℕ) (z : ℤ) → (z ≡ negsuc 0 → ⊥) → ordinal_of z max_domains ≡ 0 → false ≡ admitted p z
unfolding admitted
admitted_nobody p (negsuc zero) k h = absurd (k refl)
admitted_nobody p (negsuc (suc j)) k h = refl
admitted_nobody p (pos zero) k h = refl
admitted_nobody p (pos (suc j)) k h = simp (le-ltb j max_domains (ordinal_none j max_domains h))

pub admitted_user : (p : ℕ) (z : ℤ) (d : ℕ) → d ≡ ordinal_of z max_domains → (d ≡ 0 → ⊥) → eqb (bit_and (p / 2 ^ (d - 1)) 1) 1 ≡ admitted p z
unfolding admitted
admitted_user p z zero h k = absurd (k refl)
admitted_user p z (suc j) h k =
    let u = ordinal_user z max_domains j (sym h) in
    rw (u.0, and_mask (p / 2 ^ (suc j - 1)) 1, lt-ltb j max_domains u.1) (ap (λ (i : ℕ). eqb (p / 2 ^ i % 2) 1) (omega arith))

-- a user domain up to 32 is admitted by its bit alone
pub admitted_bit : (p k : ℕ) → k < max_domains → admitted p (pos (suc k)) ≡ bit_at p k
unfolding admitted
admitted_bit p k h = rw (lt-ltb k max_domains h)

-- one bit, as a shift within a word makes it
pub one_bit : (k w : ℕ) → k < w → 1 * 2 ^ k % 2 ^ w ≡ 2 ^ k
one_bit k w h = shl_exact {a = 1} 1 k w (omega arith) (omega arith) ∙ one-mul (2 ^ k)
