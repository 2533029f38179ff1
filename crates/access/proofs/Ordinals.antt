-- Laws of `ordinal_of`, by the sign of the number. Assumes nothing.
use Prim.Native.Nat.{ℕ, zero, suc, ◌≤◌, ◌<◌}
use native.Mathlib.Omega.{arith}
use mathlib.Core.Path.{◌≡◌, refl, sym, ap}
use mathlib.Core.Logic.{◌≢◌}
use mathlib.Core.Bool.{Bool, true, false, cond, not}
use lib.IntN.{ℤ, pos, negsuc, nat_abs}
use lib.Signed.{lt_z, non_neg}
use lib.Dec.{T, leb, eqb}
use borrow.Author.Tests.{eq-eqb, ne_eqb, le-leb, lt-leb, ltb-true, ltb-false, leb-true, leb-false}
use Rattle.std.specs.Prelude.{Some, None, unwrap_or, is_some}
use Rattle.access.specs.Domains.{ordinal_of, numbered}

-- a number below 1
pub ordinal_low : (z : ℤ) (n : ℕ) → lt_z z (pos 1) ≡ true → 0 ≡ ordinal_of z n
unfolding ordinal_of
ordinal_low (negsuc k) n h = refl
ordinal_low (pos zero) n h = simp (le-leb 0 n (omega arith))
ordinal_low (pos (suc k)) n h = absurd (let l = ltb-true (suc k) 1 h in omega arith)

-- a number of at least m is not negative, and is its magnitude
pub not_below : (z : ℤ) (m : ℕ) → lt_z z (pos m) ≡ false → (z ≡ pos (nat_abs z)) × (m ≤ nat_abs z)
not_below (pos k) m h = (refl, ltb-false k m h)
not_below (negsuc k) m h = absurd (let e : ◌≡◌ {A = ℕ} 0 1 = cc in omega arith)

pub not_below_sign : (z : ℤ) (m : ℕ) → lt_z z (pos m) ≡ false → T (non_neg z)
not_below_sign (pos k) m h = tt
not_below_sign (negsuc k) m h = absurd (let e : ◌≡◌ {A = ℕ} 0 1 = cc in omega arith)

pub ordinal_over : (z : ℤ) (n : ℕ) → lt_z z (pos 1) ≡ false → n < nat_abs z → 0 ≡ ordinal_of z n
unfolding ordinal_of
ordinal_over z n h l = rw (not_below z 1 h).0 (simp (lt-leb (nat_abs z) n l))

pub ordinal_in : (z : ℤ) (n : ℕ) → lt_z z (pos 1) ≡ false → nat_abs z ≤ n → nat_abs z ≡ ordinal_of z n
unfolding ordinal_of
ordinal_in z n h l = rw (not_below z 1 h).0 (simp (le-leb (nat_abs z) n l))

-- what stands for a number that counts from 1, or for none
pub numbered_in : (n : ℕ) → n ≢ 0 → Some n ≡ numbered n
numbered_in zero h = absurd (h refl)
numbered_in (suc k) h = refl

pub numbered_none : (n : ℕ) → numbered n ≡ None → n ≡ 0
numbered_none zero e = refl
numbered_none (suc k) e = absurd (let z : ◌≡◌ {A = ℕ} 0 1 = cc in omega arith)

pub numbered_some : (n k : ℕ) → numbered n ≡ Some k → (k ≡ n) × (k ≢ 0)
numbered_some zero k e = absurd (let z : ◌≡◌ {A = ℕ} 0 1 = cc in omega arith)
numbered_some (suc j) k e = let s : suc j ≡ k = ap (λ o. unwrap_or o 0) e in (sym s, λ h. omega (arith, s, h))

pub numbered_is_some : (n : ℕ) → is_some (numbered n) ≡ not (eqb n 0)
numbered_is_some zero = sym (ap not (eq-eqb 0 0 refl))
numbered_is_some (suc k) = sym (ap not (ne_eqb (suc k) 0 (λ e. omega arith)))

pub numbered_or_0 : (n : ℕ) → unwrap_or (numbered n) 0 ≡ n
numbered_or_0 zero = refl
numbered_or_0 (suc k) = refl

-- an ordinal is at most the limit
pub ordinal_le : (z : ℤ) (n : ℕ) → ordinal_of z n ≤ n
unfolding ordinal_of
ordinal_le (negsuc k) n = omega arith
ordinal_le (pos k) n = go (leb k n) refl
  where
    go : (b : Bool) → leb k n ≡ b → cond b k 0 ≤ n
    go true e = leb-true k n e
    go false e = omega arith

-- the user domain that an ordinal stands for
pub ordinal_user : (z : ℤ) (n k : ℕ) → ordinal_of z n ≡ suc k → (z ≡ pos (suc k)) × (k < n)
unfolding ordinal_of
ordinal_user (negsuc j) n k h = absurd (omega arith)
ordinal_user (pos j) n k h = go (leb j n) refl h
  where
    go : (b : Bool) → leb j n ≡ b → cond b j 0 ≡ suc k → (pos j ≡ pos (suc k)) × (k < n)
    go true e h' = (ap pos h', let l = leb-true j n e in omega arith)
    go false e h' = absurd (omega arith)

pub ordinal_none : (k n : ℕ) → ordinal_of (pos (suc k)) n ≡ 0 → n ≤ k
unfolding ordinal_of
ordinal_none k n h = go (leb (suc k) n) refl h
  where
    go : (b : Bool) → leb (suc k) n ≡ b → cond b (suc k) 0 ≡ 0 → n ≤ k
    go true e h' = absurd (omega arith)
    go false e h' = let l = leb-false (suc k) n e in omega arith
