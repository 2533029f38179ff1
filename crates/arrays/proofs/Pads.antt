-- Laws of a list held in an array. Assumes nothing.
use Prim.Native.Nat.{ℕ, zero, suc, ◌+◌, ◌-◌, ◌≤◌, ◌<◌}
use native.Mathlib.Omega.{arith}
use mathlib.Core.Path.{◌≡◌, refl, sym, ap, ◌∙◌}
use mathlib.Core.List.{List, [], ◌∷◌, ◌++◌, append_assoc}
use lib.ListN.{length, get_or, take, set, replicate, length-append, length-replicate, length-set}
use lib.Seq.{set-append_left, set-append_seam, take-append_seam}
use Rattle.arrays.specs.Pad.{pad}

module _ {A : Type 0} (d : A) where
  get_zeros : (m i : ℕ) → get_or (replicate m d) i d ≡ d
  get_zeros zero i = refl
  get_zeros (suc m) zero = refl
  get_zeros (suc m) (suc i) = get_zeros m i

  get_append : (l : List A) (m i : ℕ) → get_or (l ++ replicate m d) i d ≡ get_or l i d
  get_append [] m i = get_zeros m i
  get_append (x ∷ l) m zero = refl
  get_append (x ∷ l) m (suc i) = get_append l m i

  pub pad_get : (n : ℕ) (l : List A) (i : ℕ) → get_or (pad n d l) i d ≡ get_or l i d
  pad_get n l i = get_append l (n - length l) i

  pub pad_set : (n : ℕ) (l : List A) (i : ℕ) (x : A) → i < length l → set (pad n d l) i x ≡ pad n d (set l i x)
  pad_set n l i x h = set-append_left l (replicate (n - length l) d) i x h ∙ ap (λ (k : ℕ). set l i x ++ replicate (n - k) d) (sym (length-set l i x))

  pub pad_snoc : (n : ℕ) (l : List A) (x : A) → length l < n → set (pad n d l) (length l) x ≡ pad n d (l ++ (x ∷ []))
  pad_snoc n l x h =
      let e : n - length l ≡ suc (n - suc (length l)) = omega arith in
      let f : length (l ++ (x ∷ [])) ≡ suc (length l) = length-append l (x ∷ []) ∙ omega arith in
      ap (λ (k : ℕ). set (l ++ replicate k d) (length l) x) e
      ∙ set-append_seam l d (replicate (n - suc (length l)) d) x
      ∙ sym (append_assoc l (x ∷ []) (replicate (n - length (l ++ (x ∷ []))) d) ∙ ap (λ (k : ℕ). l ++ (x ∷ replicate (n - k) d)) f)

  pub pad_take : (n : ℕ) (l : List A) → take (length l) (pad n d l) ≡ l
  pad_take n l = take-append_seam l (replicate (n - length l) d)

  pub pad_length : (n : ℕ) (l : List A) → length l ≤ n → length (pad n d l) ≡ n
  pad_length n l h = length-append l (replicate (n - length l) d) ∙ ap (λ (k : ℕ). length l + k) (length-replicate (n - length l) d) ∙ omega arith
