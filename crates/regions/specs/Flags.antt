-- Bits by their values (document 01: "bit value"). Definitions only.
use Rattle.std.specs.Prelude.{ℕ, ◌^◌, ◌/◌, ◌%◌, ◌≡◌, Bool, eqb}

-- the value of one bit
abbrev pub IsBit : ℕ → Type 0
IsBit value = (k : ℕ) × (value ≡ 2 ^ k)

-- whether the bit of that value is set
abbrev pub has_value : ℕ → ℕ → Bool
has_value flags value = eqb (flags / value % 2) 1
