-- The protection unit (document 02, T-06), by plain facts: which numbers are units, and which are multiples of one. Assumes nothing.
use mathlib.Core.Path.{◌≡◌, refl, sym, ap, ◌∙◌, subst}
use mathlib.Core.Logic.{◌⊎◌, inl, inr}
use mathlib.Core.Bool.{Bool, true, false}
use Prim.Native.Nat.{ℕ, zero, suc, ◌+◌, ◌^◌, ◌%◌, ◌≤◌, ◌<◌, ◌∣◌}
use native.Mathlib.Omega.{arith}
use native.Mathlib.Nat.{mod-eq-zero_of_dvd, dvd_of_mod-eq-zero}
use lib.Dec.{leb}
use lib.Pow.{pow_pos}
use borrow.Author.Tests.{leb-true, leb-false}
use Rattle.itron.specs.Limits.{min_unit, max_unit_power, address_end}
use Rattle.model.specs.Units.{is_power_to, unit_ok, is_multiple}
use Rattle.model.specs.Regions.{numbers_ok}
use Rattle.model.proofs.Lists.{eq_of, ne_of}
use Rattle.model.proofs.Tests.{Tells, iff_tells, le_tells, eq_tells, and_tells, or_tells}

-- "a power of two from 1 to 65,536"
abbrev pub PowerTo : ℕ → ℕ → Type 0
PowerTo e u = (k : ℕ) × ((k ≤ e) × (u ≡ 2 ^ k))

abbrev pub IsUnit : ℕ → Type 0
IsUnit u = PowerTo max_unit_power u

power_tells : (e u : ℕ) → Tells (is_power_to e u) (PowerTo e u)
power_tells zero u = iff_tells (λ h. (0, (omega arith, h))) only (eq_tells u (2 ^ zero))
  where
    only : PowerTo zero u → u ≡ 2 ^ zero
    only (zero, p) = p.1
    only (suc k, p) = absurd (omega (arith, p.0))
power_tells (suc e) u = iff_tells join part (or_tells (power_tells e u) (eq_tells u (2 ^ suc e)))
  where
    join : PowerTo e u ⊎ (u ≡ 2 ^ suc e) → PowerTo (suc e) u
    join (inl p) = (p.0, (omega (arith, p.1.0), p.1.1))
    join (inr h) = (suc e, (omega arith, h))

    part : PowerTo (suc e) u → PowerTo e u ⊎ (u ≡ 2 ^ suc e)
    part p = go (leb p.0 e) refl
      where
        go : (b : Bool) → leb p.0 e ≡ b → PowerTo e u ⊎ (u ≡ 2 ^ suc e)
        go true h = inl (p.0, (leb-true p.0 e h, p.1.1))
        go false h = inr (p.1.1 ∙ ap (λ (k : ℕ). 2 ^ k) (omega (arith, leb-false p.0 e h, p.1.0)))

pub unit_tells : (u : ℕ) → Tells (unit_ok u) (IsUnit u)
unfolding unit_ok
unit_tells u = power_tells max_unit_power u

-- so a unit is not 0
pub unit_pos : (u : ℕ) → unit_ok u ≡ true → 0 < u
unit_pos u h = let p = (unit_tells u).yes h in subst (λ (x : ℕ). 0 < x) (sym p.1.1) (pow_pos p.0)

-- "a multiple of it"
pub multiple_tells : (unit x : ℕ) → Tells (is_multiple unit x) (unit ∣ x)
multiple_tells unit x = record { yes = λ h. dvd_of_mod-eq-zero unit (eq_of (x % unit) 0 h); no = λ h p. ne_of (x % unit) 0 h (mod-eq-zero_of_dvd unit p) }

-- the finest unit is a unit
pub unit_one : unit_ok min_unit ≡ true
unfolding unit_ok
unit_one = refl

-- "region size at least 1 and base + size at most 2^32", base and size multiples of the unit
pub region_numbers_tells : (unit base size : ℕ) → Tells (numbers_ok unit base size) (((1 ≤ size) × (base + size ≤ address_end)) × ((unit ∣ base) × (unit ∣ size)))
region_numbers_tells unit base size = and_tells (and_tells (le_tells 1 size) (le_tells (base + size) address_end)) (and_tells (multiple_tells unit base) (multiple_tells unit size))
