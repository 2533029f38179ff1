-- Laws of `private_of`, `default_of` and `resolved`, in the order of the code's tests. Assumes nothing.
use Prim.Native.Nat.{ℕ, zero, suc, ◌-◌, ◌^◌}
use native.Mathlib.Omega.{arith}
use mathlib.Core.Path.{◌≡◌, refl, sym, ap}
use lib.IntN.{ℤ, pos, negsuc}
use borrow.Author.Tests.{lt-ltb, le-ltb}
use Rattle.itron.specs.Limits.{max_domains}
use Rattle.access.specs.Domains.{ordinal_of}
use Rattle.access.specs.Patterns.{all_zeros, all_ones}
use Rattle.access.specs.Vectors.{uniform, private_of, default_of}
use Rattle.access.proofs.Ordinals.{ordinal_user, ordinal_none}

pub private_none : (z : ℤ) → ordinal_of z max_domains ≡ 0 → uniform all_zeros ≡ private_of z
unfolding private_of
private_none (negsuc k) h = refl
private_none (pos zero) h = refl
private_none (pos (suc k)) h = rw (le-ltb k max_domains (ordinal_none k max_domains h))

pub private_user : (z : ℤ) (d : ℕ) → d ≡ ordinal_of z max_domains → (d ≡ 0 → ⊥) → uniform (2 ^ (d - 1)) ≡ private_of z
unfolding private_of
private_user z zero e h = absurd (h refl)
private_user z (suc k) e h = let u = ordinal_user z max_domains k (sym e) in rw (u.0, lt-ltb k max_domains u.1) (ap (λ (i : ℕ). uniform (2 ^ i)) (omega arith))

pub default_shared : (z : ℤ) → z ≡ negsuc 1 → uniform all_ones ≡ default_of z
default_shared z h = rw h

pub default_other : (z : ℤ) → (z ≡ negsuc 1 → ⊥) → private_of z ≡ default_of z
unfolding private_of
default_other (pos k) g = refl
default_other (negsuc zero) g = refl
default_other (negsuc (suc zero)) g = absurd (g refl)
default_other (negsuc (suc (suc k))) g = refl
