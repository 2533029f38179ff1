-- Lists whose elements are numbered from 1, and choosing from lists. Definitions only.
use Rattle.std.specs.Prelude.{Bool, true, false, cond, ◌||◌, ◌⊎◌, List, [], ◌∷◌, ◌++◌, map, ℕ, zero, suc, ◌+◌, leb, get_or, set}

-- the index of a number: numbers count from 1, indexes from 0
abbrev pub index : ℕ → ℕ
index zero = zero
index (suc n) = n

module _ {A : Type 0} where
  -- the element with a number; d where there is none
  abbrev pub at : A → List A → ℕ → A
  at d l zero = d
  at d l (suc i) = get_or l i d

  -- the list with another element under a number
  abbrev pub put : List A → ℕ → A → List A
  put l zero x = l
  put l (suc i) x = set l i x

  -- an element in front, where the test holds
  abbrev pub cons_if : Bool → A → List A → List A
  cons_if true x l = x ∷ l
  cons_if false x l = l

  -- the elements that pass a test, in their order
  abbrev pub keep : (A → Bool) → List A → List A
  keep p [] = []
  keep p (x ∷ l) = cons_if (p x) x (keep p l)

  -- whether an element passes a test
  abbrev pub any_of : (A → Bool) → List A → Bool
  any_of p [] = false
  any_of p (x ∷ l) = p x || any_of p l

  -- what a list begins with: its first element, its first two, .. all of them
  abbrev pub beginnings : List A → List (List A)
  beginnings [] = []
  beginnings (x ∷ l) = (x ∷ []) ∷ map (λ (b : List A). x ∷ b) (beginnings l)

  -- ---- the elements by rank, the lowest first, those of equal rank in their order
  module _ (rank : A → ℕ) where
    -- an element that came before all of a list: behind those of lower rank, ahead of the others
    abbrev pub insert : A → List A → List A
    insert x [] = x ∷ []
    insert x (y ∷ l) = cond (leb (rank x) (rank y)) (x ∷ (y ∷ l)) (y ∷ insert x l)

    abbrev pub arrange : List A → List A
    arrange [] = []
    arrange (x ∷ l) = insert x (arrange l)

  -- a claim about every element
  abbrev pub All : (A → Type 0) → List A → Type 0
  All P [] = Unit
  All P (x ∷ l) = P x × All P l

  -- a claim about some element
  abbrev pub Some : (A → Type 0) → List A → Type 0
  Some P [] = ⊥
  Some P (x ∷ l) = P x ⊎ Some P l

  -- ---- of a list whose newest element stands first: the words of all, the total, a claim about every element and what was before it,
  -- and what every element gives by what was before it, in their order
  abbrev pub words : (A → List ℕ) → List A → List ℕ
  words f [] = []
  words f (x ∷ l) = words f l ++ f x

  abbrev pub total : (A → ℕ) → List A → ℕ
  total f [] = 0
  total f (x ∷ l) = total f l + f x

  abbrev pub Each : (A → List A → Type 0) → List A → Type 0
  Each P [] = Unit
  Each P (x ∷ l) = P x l × Each P l

  abbrev pub gathered : {B : Type 0} → (A → List A → List B) → List A → List B
  gathered f [] = []
  gathered f (x ∷ l) = gathered f l ++ f x l
