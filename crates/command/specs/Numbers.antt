-- Numbers as replay.md writes them: decimal with an optional `-`, or `0x` and hexadecimal digits of either case. Definitions only.
use Rattle.std.specs.Prelude.{ℕ, zero, suc, ◌+◌, ◌-◌, ◌*◌, Bool, true, cond, ◌&&◌, List, [], ◌∷◌, ℤ, pos, negsuc, drop, get_or, eqb, ltb, leb, Option, Some, None, Result, Ok, Err}
use Rattle.command.specs.declared.number.Number.{Number}
use Rattle.command.specs.declared.number.NumberError.{NumberError}

-- 2^32 and 2^31
abbrev pub plain_end : ℕ
plain_end = 4294967296

abbrev pub signed_end : ℕ
signed_end = 2147483648

-- the value of a digit: `0` to `9`, `A` to `F`, `a` to `f`; 16 of a byte that is none
unfoldable pub digit_of : ℕ → ℕ
digit_of b =
    cond (ltb b 48) 16
    (cond (leb b 57) (b - 48)
    (cond (ltb b 65) 16
    (cond (leb b 70) (b - 65 + 10)
    (cond (ltb b 97) 16
    (cond (leb b 102) (b - 97 + 10) 16)))))

-- the value of v and the digits after it; none where a byte is no digit of the base
unfoldable pub value_from : ℕ → ℕ → List ℕ → Option ℕ
value_from base v [] = Some v
value_from base v (b ∷ bs) = cond (ltb (digit_of b) base) (value_from base (v * base + digit_of b) bs) None

-- a value of 32 bits
unfoldable pub fitted : Option ℕ → Result ℕ NumberError
fitted None = Err NumberError.NoNumber
fitted (Some v) = cond (ltb v plain_end) (Ok v) (Err NumberError.OutOfRange)

-- one digit at least, and all of them digits of the base
unfoldable pub magnitude_of : ℕ → List ℕ → Result ℕ NumberError
magnitude_of base [] = Err NumberError.NoNumber
magnitude_of base (b ∷ bs) = fitted (value_from base 0 (b ∷ bs))

-- a value and one digit more; none where that has more than 32 bits
abbrev pub more : ℕ → Option ℕ → ℕ → Option ℕ
more base None d = None
more base (Some v) d = cond (ltb (v * base + d) plain_end) (Some (v * base + d)) None

-- whether all bytes are digits of the base
unfoldable pub are_digits : ℕ → List ℕ → Bool
are_digits base [] = true
are_digits base (b ∷ bs) = ltb (digit_of b) base && are_digits base bs

-- what follows a value that does not fit: it stays so large, or is no number
unfoldable pub too_large : ℕ → List ℕ → Result ℕ NumberError
too_large base l = cond (are_digits base l) (Err NumberError.OutOfRange) (Err NumberError.NoNumber)

-- minus a number
abbrev pub negated : ℕ → ℤ
negated zero = pos zero
negated (suc k) = negsuc k

abbrev pub plain_of : Result ℕ NumberError → Result Number NumberError
plain_of (Err e) = Err e
plain_of (Ok v) = Ok (record { value = pos v })

abbrev pub minus_of : Result ℕ NumberError → Result Number NumberError
minus_of (Err e) = Err e
minus_of (Ok v) = Ok (record { value = negated v })

-- `-` (45) and decimal digits; `0x` (48, 120) and hexadecimal digits; or decimal digits
unfoldable pub number_of : List ℕ → Result Number NumberError
number_of l =
    cond (eqb (get_or l 0 0) 45) (minus_of (magnitude_of 10 (drop 1 l)))
    (cond (eqb (get_or l 0 0) 48 && eqb (get_or l 1 0) 120) (plain_of (magnitude_of 16 (drop 2 l)))
    (plain_of (magnitude_of 10 l)))

-- as a signed number of 32 bits
abbrev pub signed_from : ℤ → Result ℤ NumberError
signed_from (pos v) = cond (ltb v signed_end) (Ok (pos v)) (Err NumberError.OutOfRange)
signed_from (negsuc k) = cond (ltb k signed_end) (Ok (negsuc k)) (Err NumberError.OutOfRange)

abbrev pub signed_of : Number → Result ℤ NumberError
signed_of n = signed_from n.value

-- as an unsigned number of 32 bits
abbrev pub unsigned_from : ℤ → Result ℕ NumberError
unsigned_from (pos v) = cond (ltb v plain_end) (Ok v) (Err NumberError.OutOfRange)
unsigned_from (negsuc k) = Err NumberError.OutOfRange

abbrev pub unsigned_of : Number → Result ℕ NumberError
unsigned_of n = unsigned_from n.value
