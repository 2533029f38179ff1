-- Memory regions and the memory verdict (document 01, "Building the table", "The memory verdict"). Definitions only.
use Rattle.std.specs.Prelude.{Bool, true, false, cond, not, ◌&&◌, ◌||◌, List, [], ◌∷◌, ℕ, ◌+◌, eqb, leb, ltb, ℤ}
use Rattle.std.proofs.Math.Option.{Option, none, some}
use Rattle.access.specs.Domains.{same_domain}
use Rattle.access.specs.Patterns.{admitted, bit_at}
use Rattle.access.specs.Vectors.{same_vector, resolved}
use Rattle.access.specs.Vectors.{Choice}
use Rattle.itron.specs.declared.error.Error.{Error as Refusal}
use Rattle.itron.specs.declared.error.Error.TheVariants.{Par as e_par, Noexs as e_noexs, Obj as e_obj, Macv as e_macv}
use Rattle.itron.specs.Limits.{address_end}
use Rattle.model.specs.Lists.{any_of, beginnings}
use Rattle.model.specs.State.{Region}
use Rattle.model.specs.Answers.{refuse_if}
use Rattle.model.specs.Units.{is_whole}

-- the first address past a region
abbrev pub end : Region → ℕ
end r = r.base + r.size

-- ---- the entry
-- 4. region attribute bits other than 1 (no-write) and 4 (execute): E_RSATR
abbrev pub attribute_ok : ℕ → Bool
attribute_ok a = eqb a 0 || eqb a 1 || eqb a 4 || eqb a 5

-- an area: size at least 1 and base + size at most 2^32
abbrev pub is_area : ℕ → ℕ → Bool
is_area base size = leb 1 size && leb (base + size) address_end

-- 5. the region is an area, with base and size multiples of the protection unit
abbrev pub numbers_ok : ℕ → ℕ → ℕ → Bool
numbers_ok unit base size = is_area base size && is_whole unit base size

-- the end of the region entered last, 0 where there is none
abbrev pub last_end : List Region → ℕ
last_end [] = 0
last_end (r ∷ []) = end r
last_end (r ∷ (x ∷ l)) = last_end (x ∷ l)

-- 6. a region starting below the end of the region entered before it: E_OBJ
abbrev pub place_ok : List Region → ℕ → Bool
place_ok rs base = leb (last_end rs) base

abbrev pub new_region : ℤ → ℕ → ℕ → ℕ → Choice → Region
new_region d a b z v = record { domain = d; attribute = a; base = b; size = z; vector = resolved d v }

-- ---- regions that count as one (document 02, T-09)
-- one region ends where the next begins
abbrev pub touches : Region → Region → Bool
touches r x = eqb (end r) x.base

-- equal in domain, attributes and vector
abbrev pub is_equal : Region → Region → Bool
is_equal r x = same_domain r.domain x.domain && eqb r.attribute x.attribute && same_vector r.vector x.vector

-- a chain: each region touches the next and is equal to it
abbrev pub is_chain : List Region → Bool
is_chain [] = true
is_chain (r ∷ []) = true
is_chain (r ∷ (x ∷ rs)) = (touches r x && is_equal r x) && is_chain (x ∷ rs)

-- whether regions are a chain, and an area that starts in the first of them and ends at an address lies within their union
abbrev pub is_chain_to : ℕ → List Region → Bool
is_chain_to a rs = is_chain rs && leb a (last_end rs)

-- whether some of the regions, from the first on, are such a chain
unfoldable pub in_chain : List Region → ℕ → Bool
in_chain rs a = any_of (is_chain_to a) (beginnings rs)

-- ---- the verdict
-- the attribute bits: no-write (1) and execute (4)
abbrev pub is_no_write : Region → Bool
is_no_write r = bit_at r.attribute 0

abbrev pub is_executable : Region → Bool
is_executable r = bit_at r.attribute 2

-- wishes out of write (bit value 1), read (2), execute (4): at least one of these and no other
abbrev pub wishes_ok : ℕ → Bool
wishes_ok w = leb 1 w && leb w 7

abbrev pub wants_write : ℕ → Bool
wants_write w = bit_at w 0

abbrev pub wants_read : ℕ → Bool
wants_read w = bit_at w 1

abbrev pub wants_execute : ℕ → Bool
wants_execute w = bit_at w 2

-- write follows normal operation 1; no-write denies writing to every domain, the kernel's too
abbrev pub may_write : Region → ℤ → Bool
may_write r d = not (is_no_write r) && admitted r.vector.normal1 d

-- read follows normal operation 2
abbrev pub may_read : Region → ℤ → Bool
may_read r d = admitted r.vector.normal2 d

-- execute follows normal operation 2 and also needs the execute attribute
abbrev pub may_execute : Region → ℤ → Bool
may_execute r d = is_executable r && admitted r.vector.normal2 d

-- a wish that is not there is granted
abbrev pub grants : Bool → Bool → Bool
grants true may = may
grants false may = true

abbrev pub allows : Region → ℤ → ℕ → Bool
allows r d w = grants (wants_write w) (may_write r d) && grants (wants_read w) (may_read r d) && grants (wants_execute w) (may_execute r d)

-- whether a region holds an address
abbrev pub holds : ℕ → Region → Bool
holds a r = leb r.base a && ltb a (end r)

-- the regions from the one that holds an address on; none where no region holds it
unfoldable pub from_holder : List Region → ℕ → List Region
from_holder [] a = []
from_holder (r ∷ rs) a = cond (holds a r) (r ∷ rs) (from_holder rs a)

-- no region holds the base: E_NOEXS; the area leaves the chain of that region: E_OBJ; a wish denied: E_MACV
abbrev pub judge_in : List Region → ℤ → ℕ → ℕ → ℕ → Option Refusal
judge_in [] d base size w = some e_noexs
judge_in (r ∷ rs) d base size w = refuse_if (not (in_chain (r ∷ rs) (base + size))) e_obj (refuse_if (not (allows r d w)) e_macv none)

-- size 0, unknown or no wish, base + size above 2^32: E_PAR
abbrev pub area_ok : ℕ → ℕ → ℕ → Bool
area_ok base size w = leb 1 size && wishes_ok w && leb (base + size) address_end

-- the verdict on a closed table for a known domain
unfoldable pub judge : List Region → ℤ → ℕ → ℕ → ℕ → Option Refusal
judge rs d base size w = refuse_if (not (area_ok base size w)) e_par (judge_in (from_holder rs base) d base size w)
