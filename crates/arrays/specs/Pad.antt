-- A list held in an array: its elements first, then one and the same value in the cells that are not used. Definitions only.
use Rattle.std.specs.Prelude.{ℕ, ◌-◌, List, ◌++◌, length, replicate}

-- a list in an array of n cells, the others d
abbrev pub pad : {A : Type 0} → ℕ → A → List A → List A
pad n d l = l ++ replicate (n - length l) d
