-- What a search answers, as one number. Definitions only.
use Rattle.std.specs.Prelude.{ℕ, Option, Some, None}

-- the index of the region that was found, the number of regions where there is none
abbrev pub index_of : ℕ → Option ℕ → ℕ
index_of count (Some i) = i
index_of count None = count
