-- Patterns: which domains a pattern admits (document 01, "Patterns and vectors"). Definitions only.
use Rattle.std.specs.Prelude.{ℕ, zero, suc, ◌-◌, ◌^◌, ◌/◌, ◌%◌, Bool, true, false, ◌&&◌, ℤ, pos, negsuc, ltb, eqb}
use Rattle.itron.specs.Limits.{max_domains}

-- "All zeros is kernel only, all ones is shared"
abbrev pub all_zeros : ℕ
all_zeros = 0

abbrev pub all_ones : ℕ
all_ones = 2 ^ max_domains - 1

-- whether bit k of a number is set; a region's attribute and wishes are read by it too
abbrev pub bit_at : ℕ → ℕ → Bool
bit_at p k = eqb (p / 2 ^ k % 2) 1

-- "Bit d-1 admits domain d. The kernel domain is always admitted"; nobody else
unfoldable pub admitted : ℕ → ℤ → Bool
admitted p (negsuc zero) = true
admitted p (negsuc (suc k)) = false
admitted p (pos zero) = false
admitted p (pos (suc k)) = ltb k max_domains && bit_at p k
