-- The words of a text, between its spaces. Definitions only.
use Rattle.std.specs.Prelude.{ℕ, zero, suc, cond, List, [], ◌∷◌, take, drop, eqb}

-- how many bytes stand before the first space (32)
unfoldable pub space_at : List ℕ → ℕ
space_at [] = 0
space_at (b ∷ bs) = cond (eqb b 32) 0 (suc (space_at bs))

-- word k, the first being 0; empty where there is none
unfoldable pub word_at : ℕ → List ℕ → List ℕ
word_at zero l = take (space_at l) l
word_at (suc k) l = word_at k (drop (suc (space_at l)) l)

unfoldable pub spaces : List ℕ → ℕ
spaces [] = 0
spaces (b ∷ bs) = cond (eqb b 32) (suc (spaces bs)) (spaces bs)

-- one word more than there are spaces, and none in an empty text
unfoldable pub word_count : List ℕ → ℕ
word_count [] = 0
word_count (b ∷ bs) = suc (spaces (b ∷ bs))
