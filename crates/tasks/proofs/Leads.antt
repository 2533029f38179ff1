-- The first by rank, found along a list: who comes later leads only if it ranks lower. Assumes nothing.
use Prim.Native.Nat.{ℕ, zero, suc, ◌≤◌, ◌<◌}
use native.Mathlib.Omega.{arith}
use mathlib.Core.Path.{◌≡◌, refl, sym, ap, ◌∙◌, subst₂}
use mathlib.Core.Bool.{Bool, true, false, cond}
use mathlib.Core.List.{List, [], ◌∷◌, map}
use lib.Dec.{ltb, leb}
use lib.ListN.{get_or}
use borrow.Author.Tests.{leb-true, leb-false, lt-ltb, le-ltb, le-leb, lt-leb}
use Rattle.model.specs.Lists.{insert, arrange}
use Rattle.tasks.specs.declared.lead.Lead.{Lead}
use Rattle.std.specs.Prelude.{Option, Some, None}
use Rattle.tasks.specs.Leads.{lead, lead_of, leader}

-- ---- of any list
module _ {A : Type 0} (rank : A → ℕ) (d : A) where
  abbrev front : List A → A
  front l = get_or l 0 d

  abbrev lower : A → A → A
  lower b x = cond (ltb (rank x) (rank b)) x b

  front_insert : (x y : A) (l : List A) → front (insert rank x (y ∷ l)) ≡ cond (leb (rank x) (rank y)) x y
  front_insert x y l = go (leb (rank x) (rank y))
    where
      go : (c : Bool) → front (cond c (x ∷ (y ∷ l)) (y ∷ insert rank x l)) ≡ cond c x y
      go true = refl
      go false = refl

  -- ahead of one that ranks no lower, behind one that does
  ahead : (x y : A) (l : List A) → rank x ≤ rank y → front (insert rank x (y ∷ l)) ≡ x
  ahead x y l h = front_insert x y l ∙ ap (λ (c : Bool). cond c x y) (le-leb (rank x) (rank y) h)

  behind : (x y : A) (l : List A) → rank y < rank x → front (insert rank x (y ∷ l)) ≡ y
  behind x y l h = front_insert x y l ∙ ap (λ (c : Bool). cond c x y) (lt-leb (rank x) (rank y) h)

  -- the first of all that follow two is the first of all that follow the lower of them
  first_two : (b x : A) (l : List A) → front (insert rank b (insert rank x l)) ≡ front (insert rank (lower b x) l)
  first_two b x l = go (leb (rank b) (rank x)) refl
    where
      stays : (l : List A) → rank b ≤ rank x → front (insert rank b (insert rank x l)) ≡ front (insert rank b l)
      stays [] h = ahead b x [] h
      stays (y ∷ l) h = next (leb (rank x) (rank y)) refl
        where
          next : (c : Bool) → leb (rank x) (rank y) ≡ c → front (insert rank b (cond c (x ∷ (y ∷ l)) (y ∷ insert rank x l))) ≡ front (insert rank b (y ∷ l))
          next true e = ahead b x (y ∷ l) h ∙ sym (ahead b y l (omega (arith, h, leb-true (rank x) (rank y) e)))
          next false e = front_insert b y (insert rank x l) ∙ sym (front_insert b y l)

      yields : (l : List A) → rank x < rank b → front (insert rank b (insert rank x l)) ≡ front (insert rank x l)
      yields [] h = behind b x [] h
      yields (y ∷ l) h = next (leb (rank x) (rank y)) refl
        where
          next : (c : Bool) → leb (rank x) (rank y) ≡ c → front (insert rank b (cond c (x ∷ (y ∷ l)) (y ∷ insert rank x l))) ≡ front (cond c (x ∷ (y ∷ l)) (y ∷ insert rank x l))
          next true e = behind b x (y ∷ l) h
          next false e = behind b y (insert rank x l) (omega (arith, h, leb-false (rank x) (rank y) e))

      go : (c : Bool) → leb (rank b) (rank x) ≡ c → front (insert rank b (insert rank x l)) ≡ front (insert rank (lower b x) l)
      go true e =
          let h = leb-true (rank b) (rank x) e in
          stays l h ∙ ap (λ (c : Bool). front (insert rank (cond c x b) l)) (sym (le-ltb (rank x) (rank b) h))
      go false e =
          let h = leb-false (rank b) (rank x) e in
          yields l h ∙ ap (λ (c : Bool). front (insert rank (cond c x b) l)) (sym (lt-ltb (rank x) (rank b) h))

-- arranged by what a function shows
pub map_arrange : {A B : Type 0} (f : A → B) (rank : B → ℕ) (l : List A) → map f (arrange (λ (x : A). rank (f x)) l) ≡ arrange rank (map f l)
map_arrange {A} {B} f rank [] = refl
map_arrange {A} {B} f rank (x ∷ l) = put_in (arrange (λ (x : A). rank (f x)) l) ∙ ap (insert rank (f x)) (map_arrange f rank l)
  where
    put_in : (l : List A) → map f (insert (λ (x : A). rank (f x)) x l) ≡ insert rank (f x) (map f l)
    put_in [] = refl
    put_in (y ∷ l) = go (leb (rank (f x)) (rank (f y))) (put_in l)
      where
        go : (c : Bool) → map f (insert (λ (x : A). rank (f x)) x l) ≡ insert rank (f x) (map f l)
            → map f (cond c (x ∷ (y ∷ l)) (y ∷ insert (λ (x : A). rank (f x)) x l)) ≡ cond c (f x ∷ (f y ∷ map f l)) (f y ∷ insert rank (f x) (map f l))
        go true e = refl
        go false e = ap (λ (m : List B). f y ∷ m) e

-- ---- of numbers from 1, where 0 is nobody
module _ (rank : ℕ → ℕ) where
  -- who leads with its rank
  abbrev pub leads : ℕ → Option Lead
  leads zero = None
  leads (suc i) = Some (lead i (rank (suc i)))

  -- who leads, ahead of those who are left
  abbrev pub led : ℕ → List ℕ → List ℕ
  led zero l = l
  led (suc n) l = suc n ∷ l

  abbrev pub first_by : List ℕ → ℕ
  first_by l = get_or (arrange rank l) 0 0

  -- who leads after one more
  abbrev next : ℕ → ℕ → Option Lead
  next b x = Some (lead_of (leads b) (lead x (rank (suc x))))

  own : (b x : ℕ) → next b x ≡ leads (leader (next b x))
  own zero x = refl
  own (suc b) x = go (ltb (rank (suc x)) (rank (suc b)))
    where
      go : (c : Bool) → ◌≡◌ {A = Option Lead} (Some (cond c (lead x (rank (suc x))) (lead b (rank (suc b))))) (leads (leader (Some (cond c (lead x (rank (suc x))) (lead b (rank (suc b)))))))
      go true = refl
      go false = refl

  step : (b x : ℕ) (l : List ℕ) → first_by (led b (suc x ∷ l)) ≡ first_by (led (leader (next b x)) l)
  step zero x l = refl
  step (suc b) x l = first_two rank 0 (suc b) (suc x) (arrange rank l) ∙ go (ltb (rank (suc x)) (rank (suc b)))
    where
      go : (c : Bool) → get_or (insert rank (cond c (suc x) (suc b)) (arrange rank l)) 0 0 ≡ first_by (led (leader (Some (cond c (lead x (rank (suc x))) (lead b (rank (suc b)))))) l)
      go true = refl
      go false = refl

  last : (b : ℕ) → first_by (led b []) ≡ b
  last zero = refl
  last (suc b) = refl

-- along all of them: who leads has its rank, and the first of it and those who are left is the first of all
pub record Scan (rank : ℕ → ℕ) (all left : List ℕ) (a : Option Lead) : Type 0 where
  pub own_rank : a ≡ leads rank (leader a)
  pub same_first : first_by rank all ≡ first_by rank (led rank (leader a) left)

module _ (rank : ℕ → ℕ) (all : List ℕ) where
  pub scan_start : Scan rank all all None
  scan_start = record { own_rank = refl; same_first = refl }

  -- of those who are left the first is looked at, or passed over
  module _ (m l : List ℕ) (a r : Option Lead) (v : Scan rank all m a) where
    pub scan_next : (x : ℕ) → m ≡ suc x ∷ l → r ≡ Some (lead_of a (lead x (rank (suc x)))) → Scan rank all l r
    scan_next x h f =
        let e : r ≡ next rank (leader a) x = f ∙ ap (λ (y : Option Lead). Some (lead_of y (lead x (rank (suc x))))) v.own_rank in
        record {
          own_rank = e ∙ own rank (leader a) x ∙ ap (λ (y : Option Lead). leads rank (leader y)) (sym e);
          same_first = v.same_first ∙ ap (λ (k : List ℕ). first_by rank (led rank (leader a) k)) h ∙ step rank (leader a) x l ∙ ap (λ (y : Option Lead). first_by rank (led rank (leader y) l)) (sym e);
        }

    pub scan_pass : m ≡ l → r ≡ a → Scan rank all l r
    scan_pass h f = subst₂ (λ (k : List ℕ) (y : Option Lead). Scan rank all k y) h (sym f) v

  pub scan_end : (l : List ℕ) (a : Option Lead) → l ≡ [] → Scan rank all l a → first_by rank all ≡ leader a
  scan_end l a e v = v.same_first ∙ ap (λ (m : List ℕ). first_by rank (led rank (leader a) m)) e ∙ last rank (leader a)
