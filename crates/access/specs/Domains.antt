-- Domain numbers, and numbers that count from 1 to a limit (document 01, "What the core holds"; request T-03). Definitions only.
use Rattle.std.specs.Prelude.{ℕ, zero, suc, Bool, false, cond, ℤ, pos, negsuc, leb, eqb, Option, Some, None}

-- a number from 1 to the limit, as it is; 0 of any other
unfoldable pub ordinal_of : ℤ → ℕ → ℕ
ordinal_of (pos k) limit = cond (leb k limit) k 0
ordinal_of (negsuc k) limit = 0

-- a number that counts from 1, 0 standing for none
abbrev pub numbered : ℕ → Option ℕ
numbered zero = None
numbered (suc k) = Some (suc k)

-- whether two domain numbers are the same
abbrev pub same_domain : ℤ → ℤ → Bool
same_domain (pos m) (pos n) = eqb m n
same_domain (pos m) (negsuc n) = false
same_domain (negsuc m) (pos n) = false
same_domain (negsuc m) (negsuc n) = eqb m n

-- the domain as which a task of domain d runs at a level of extended service calls: "above 0 the caller counts as the kernel domain", -1
abbrev pub running_of : ℤ → ℕ → ℤ
running_of d zero = d
running_of d (suc k) = negsuc 0
