-- Vectors: four patterns (document 01, "Patterns and vectors"). Definitions only.
use Rattle.std.specs.Prelude.{ℕ, zero, suc, ◌^◌, Bool, cond, ◌&&◌, ℤ, pos, negsuc, ltb, eqb, Option, Some, None}
use Rattle.itron.specs.Limits.{max_domains}
use Rattle.access.specs.Patterns.{all_zeros, all_ones}
use Rattle.access.specs.declared.vector.Vector.{Vector}
use Rattle.access.specs.declared.vector.Operation.{Operation}
use Rattle.access.specs.declared.vector.Operation.TheVariants.{Normal1, Normal2, Management, Reference}

-- the pattern for a kind of operation
abbrev pub pattern_of : Vector → Operation → ℕ
pattern_of v Normal1 = v.normal1
pattern_of v Normal2 = v.normal2
pattern_of v Management = v.management
pattern_of v Reference = v.reference

-- whether all four patterns are the same
abbrev pub same_vector : Vector → Vector → Bool
same_vector v w = eqb v.normal1 w.normal1 && eqb v.normal2 w.normal2 && eqb v.management w.management && eqb v.reference w.reference

-- the same pattern four times
abbrev pub uniform : ℕ → Vector
uniform p = record { normal1 = p; normal2 = p; management = p; reference = p }

-- "private to a number outside 1 to 32 is kernel only"
unfoldable pub private_of : ℤ → Vector
private_of (pos (suc k)) = uniform (cond (ltb k max_domains) (2 ^ k) all_zeros)
private_of (pos zero) = uniform all_zeros
private_of (negsuc k) = uniform all_zeros

-- "the default: kernel only for the kernel domain, private for a user domain, shared for -2"; else kernel only
abbrev pub default_of : ℤ → Vector
default_of (pos d) = private_of (pos d)
default_of (negsuc zero) = uniform all_zeros
default_of (negsuc (suc zero)) = uniform all_ones
default_of (negsuc (suc (suc k))) = uniform all_zeros

-- what an entry says of its vector: which one it is, or nothing
abbrev pub Choice : Type 0
Choice = Option Vector

-- "An entry without a vector takes the default"
abbrev pub resolved : ℤ → Choice → Vector
resolved domain None = default_of domain
resolved domain (Some v) = v
