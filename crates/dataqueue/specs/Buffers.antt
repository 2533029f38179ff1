-- Buffers, on the array of words. Definitions only.
use Rattle.std.specs.Prelude.{ℕ, zero, suc, List, [], ◌∷◌, ◌++◌, take, drop}

-- the words without the first of the n that start at f: the others move up, and w comes last
unfoldable pub close_up : ℕ → ℕ → ℕ → List ℕ → List ℕ
close_up zero n w ws = drop 1 (take n ws) ++ (w ∷ drop n ws)
close_up (suc f) n w [] = []
close_up (suc f) n w (x ∷ ws) = x ∷ close_up f n w ws
