-- An array filled from the front: laws of a loop that writes one entry after the other. Assumes nothing.
use Prim.Native.Nat.{ℕ, zero, suc, ◌+◌, ◌≤◌, ◌<◌}
use native.Mathlib.Omega.{arith}
use native.Mathlib.Numerals.{add-one}
use mathlib.Core.Path.{◌≡◌, refl}
use mathlib.Core.List.{List, [], ◌∷◌, ◌++◌, append_assoc}
use lib.ListN.{length, get_or, take, drop, set}
use lib.Seq.{drop-cons, take-suc, set_at, length-take-le}

module _ {A : Type 0} where
  -- the first i entries of r, and the rest of o
  abbrev pub filled : List A → List A → ℕ → List A
  filled r o i = take i r ++ drop i o

  pub fill_step : (r o : List A) (i : ℕ) (v d : A) → length r ≡ length o → i < length o → v ≡ get_or r i d → set (filled r o i) i v ≡ filled r o (i + 1)
  fill_step r o i v d e h q =
      rw (add-one, drop-cons o i d h, take-suc r i d (omega arith), q, append_assoc)
      (set_at (take i r) (get_or o i d) (drop (suc i) o) (get_or r i d) i (length-take-le i r (omega arith)))

  -- from i on the entries are still those of o
  pub fill_ahead : (r o : List A) (i j : ℕ) (d : A) → i ≤ length r → i ≤ length o → i ≤ j → get_or (filled r o i) j d ≡ get_or o j d
  fill_ahead r o zero j d h k l = refl
  fill_ahead [] o (suc i) j d h k l = absurd (omega arith)
  fill_ahead (x ∷ r) [] (suc i) j d h k l = absurd (omega arith)
  fill_ahead (x ∷ r) (y ∷ o) (suc i) zero d h k l = absurd (omega arith)
  fill_ahead (x ∷ r) (y ∷ o) (suc i) (suc j) d h k l = fill_ahead r o i j d (omega arith) (omega arith) (omega arith)
