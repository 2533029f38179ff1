-- The search for the region that holds an address, over the lists of bases and sizes. Definitions only.
use Rattle.std.specs.Prelude.{ℕ, zero, suc, ◌+◌, ◌≤◌, ◌<◌, Bool, cond, ◌&&◌, List, [], leb, ltb, get_or, drop, Option, Some, None}
use Rattle.itron.specs.Limits.{max_regions}
use Rattle.model.specs.State.{Region}

-- the regions are in the order of their addresses: each ends at or below the start of every later one
pub record InOrder (bases sizes : List ℕ) (count : ℕ) : Type 0 where
  pub few : count ≤ max_regions
  pub apart : (i j : ℕ) → i < j → j < count → get_or bases i 0 + get_or sizes i 0 ≤ get_or bases j 0

-- whether an area holds an address
abbrev pub covered_by : ℕ → ℕ → ℕ → Bool
covered_by start size a = leb start a && ltb a (start + size)

-- the index of the first that holds an address, of n regions from index i on
unfoldable pub lookup : List ℕ → List ℕ → ℕ → ℕ → ℕ → Option ℕ
lookup bases sizes a i zero = None
lookup bases sizes a i (suc n) = cond (covered_by (get_or bases i 0) (get_or sizes i 0) a) (Some i) (lookup bases sizes a (suc i) n)

-- the regions from the one that was found on
abbrev pub found_from : List Region → Option ℕ → List Region
found_from rs (Some i) = drop i rs
found_from rs None = []
