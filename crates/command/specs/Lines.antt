-- A line while its bytes come in. Definitions only.
use Rattle.std.specs.Prelude.{ℕ, zero, suc, ◌+◌, ◌-◌, cond, List, [], ◌∷◌, ◌++◌, Option, Some, None, length, take, set, get_or, ltb, eqb}
use Rattle.command.specs.declared.line.Line.{Line}

-- the bytes that a line can hold, of which the last marks a line that is too long
abbrev pub line_size : ℕ
line_size = 256

-- one byte more, where there is room
unfoldable pub pushed : List ℕ → ℕ → List ℕ
pushed l b = cond (ltb (length l) line_size) (l ++ b ∷ []) l

-- the bytes up to the first LF (10) come into the line; the place behind the LF, where `at` counts the bytes
unfoldable pub gathered_of : List ℕ → ℕ → List ℕ → List ℕ × Option ℕ
gathered_of l at [] = (l, None)
gathered_of l at (b ∷ bs) = cond (eqb b 10) (l, Some (at + 1)) (gathered_of (pushed l b) (at + 1) bs)

-- without the CR (13) at its end
unfoldable pub without_cr : List ℕ → List ℕ
without_cr l = cond (eqb (get_or l (length l - 1) 0) 13) (take (length l - 1) l) l

-- the same of a whole line, its array's other bytes with it

-- one byte more, where there is room
unfoldable pub pushed_to : Line → ℕ → Line
pushed_to l b = cond (ltb l.count line_size) (record { bytes = set l.bytes l.count b; count = l.count + 1 }) l

-- the bytes up to the first LF (10) come into the line
unfoldable pub gathered_to : Line → List ℕ → Line
gathered_to l [] = l
gathered_to l (b ∷ bs) = cond (eqb b 10) l (gathered_to (pushed_to l b) bs)

-- without the CR (13) at its end, given the count
abbrev pub cut : ℕ → Line → Line
cut (suc n) l = cond (eqb (get_or l.bytes n 0) 13) (record { bytes = l.bytes; count = n }) l
cut zero l = l

unfoldable pub without_cr_of : Line → Line
without_cr_of l = cut l.count l
