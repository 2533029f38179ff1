-- The protection unit (document 02, T-06): memory is protected in units, and a region is made of whole ones. Definitions only.
use Rattle.std.specs.Prelude.{Bool, ◌&&◌, ◌||◌, ℕ, zero, suc, ◌^◌, ◌%◌, eqb}
use Rattle.itron.specs.Limits.{max_unit_power}

-- one of 2^0, 2^1, .. 2^k
abbrev pub is_power_to : ℕ → ℕ → Bool
is_power_to zero u = eqb u (2 ^ zero)
is_power_to (suc k) u = is_power_to k u || eqb u (2 ^ suc k)

-- a unit is a power of two from 1 to 65,536
unfoldable pub unit_ok : ℕ → Bool
unit_ok u = is_power_to max_unit_power u

-- whether a number is a multiple of a unit
abbrev pub is_multiple : ℕ → ℕ → Bool
is_multiple unit x = eqb (x % unit) 0

-- whether an area is made of whole units
abbrev pub is_whole : ℕ → ℕ → ℕ → Bool
is_whole unit base size = is_multiple unit base && is_multiple unit size
