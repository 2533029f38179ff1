-- A number as a call gives it, tested by the program and by the rules. Assumes nothing.
use Prim.Native.Nat.{ℕ, zero, suc, ◌-◌, ◌<◌}
use native.Mathlib.Omega.{arith}
use mathlib.Core.Path.{◌≡◌, refl, sym, ap, ◌∙◌}
use mathlib.Core.Logic.{◌≢◌}
use mathlib.Core.Bool.{Bool, true, false, cond, not, ◌&&◌, and-false}
use lib.Dec.{eqb, leb}
use lib.IntN.{ℤ, pos, negsuc}
use borrow.Author.Tests.{le-leb, ne_eqb}
use Rattle.access.specs.Domains.{ordinal_of}
use Rattle.access.proofs.Ordinals.{ordinal_user}
use Rattle.model.specs.State.{no}

-- ---- outside 1 to n
pub outside : (z : ℤ) (n : ℕ) → ordinal_of z n ≡ 0 → not (eqb (no z) 0) && leb (no z) n ≡ false
unfolding ordinal_of
outside (negsuc k) n h = refl
outside (pos zero) n h = refl
outside (pos (suc k)) n h = go (leb (suc k) n) refl h
  where
    go : (b : Bool) → leb (suc k) n ≡ b → cond b (suc k) 0 ≡ 0 → not (eqb (suc k) 0) && leb (suc k) n ≡ false
    go true e q = absurd (omega arith)
    go false e q = rw e (and-false (not (eqb (suc k) 0)))

-- ---- from 1 to n
pub record Within (z : ℤ) (n k : ℕ) : Type 0 where
  pub same : no z ≡ suc (k - 1)
  pub low : k - 1 < n
  pub test : not (eqb (no z) 0) && leb (no z) n ≡ true

pub within : (z : ℤ) (n k : ℕ) → k ≡ ordinal_of z n → k ≢ 0 → Within z n k
within z n k e h =
    let i : k ≡ suc (k - 1) = omega arith in
    let u = ordinal_user z n (k - 1) (sym e ∙ i) in
    let s : no z ≡ suc (k - 1) = ap no u.0 in
    let l = u.1 in
    record { same = s; low = l; test = rw s (rw (ne_eqb (suc (k - 1)) 0 (λ q. omega arith)) (le-leb (suc (k - 1)) n (omega arith))) }
