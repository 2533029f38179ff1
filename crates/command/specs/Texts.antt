-- A line's text: no comment, no blanks at its ends, and one space between two words. Definitions only.
use Rattle.std.specs.Prelude.{ℕ, Bool, false, cond, not, ◌&&◌, ◌||◌, List, [], ◌∷◌, length, eqb}
use Rattle.command.specs.Lines.{pushed}

-- a space or a tab
abbrev pub is_blank : ℕ → Bool
is_blank b = eqb b 32 || eqb b 9

-- one space more where a gap stands between two words
unfoldable pub spaced : Bool → List ℕ → List ℕ
spaced gap t = cond (gap && not (eqb (length t) 0)) (pushed t 32) t

-- a blank leaves the text as it is; `gap` says that a blank stands before the byte
unfoldable pub with : Bool → List ℕ → ℕ → List ℕ
with gap t b = cond (is_blank b) t (pushed (spaced gap t) b)

-- the bytes up to the first `#` (35)
unfoldable pub text_from : Bool → List ℕ → List ℕ → List ℕ
text_from gap t [] = t
text_from gap t (b ∷ bs) = cond (eqb b 35) t (text_from (is_blank b) (with gap t b) bs)

unfoldable pub text_of : List ℕ → List ℕ
text_of l = text_from false [] l
