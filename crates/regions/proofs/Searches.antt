-- Laws of `covered_by` and `lookup`: a search is decided by one region where no other can hold the address, and it finds the region from which the model's `from_holder` goes on. Assumes nothing.
use Prim.Native.Nat.{ℕ, zero, suc, ◌+◌, ◌≤◌, ◌<◌}
use native.Mathlib.Omega.{arith}
use native.Mathlib.Nat.{eq-or-lt_of_le}
use mathlib.Core.Path.{◌≡◌, refl, sym, ap, ◌∙◌}
use mathlib.Core.Bool.{Bool, true, false, cond}
use mathlib.Core.Logic.{⊎_elim}
use mathlib.Core.List.{List, ◌∷◌}
use lib.ListN.{length, get_or, drop, drop_of_length-le}
use lib.Seq.{drop-cons}
use borrow.Author.Tests.{le-leb, lt-leb, le-ltb}
use Rattle.model.specs.State.{Region, no_region}
use Rattle.model.specs.Regions.{holds, from_holder}
use Rattle.std.specs.Prelude.{Option, Some, None, Ok, Err as Refused, ok_or}
use Rattle.regions.specs.declared.state.Regions.{Regions}
use Rattle.regions.specs.View.{regions_of}
use Rattle.regions.specs.Held.{Held}
use Rattle.regions.specs.Search.{covered_by, lookup, found_from}
use Rattle.regions.proofs.Cells.{count_of, base_at, size_at}

-- ---- an area that starts past an address, or ends before it, does not hold it
pub starts_past : (start size a : ℕ) → a < start → covered_by start size a ≡ false
starts_past start size a h = simp (lt-leb start a h)

pub ends_before : (start size a : ℕ) → start + size ≤ a → covered_by start size a ≡ false
ends_before start size a h = simp (le-leb start a (omega arith), le-ltb a (start + size) h)

module _ (bs ss : List ℕ) (a : ℕ) where
  abbrev test : ℕ → Bool
  test i = covered_by (get_or bs i 0) (get_or ss i 0) a

  -- ---- no region holds the address where there is none
  pub no_region_lem : (n i : ℕ) → n ≡ 0 → lookup bs ss a i n ≡ None
  unfolding lookup
  no_region_lem n i e = ap (lookup bs ss a i) e

  -- ---- where no region but m can hold the address, m decides
  none_holds : (n i : ℕ) → ((k : ℕ) → i ≤ k → k < i + n → test k ≡ false) → lookup bs ss a i n ≡ None
  unfolding lookup
  none_holds zero i h = refl
  none_holds (suc n) i h =
      ap (λ (b : Bool). cond b (Some i) (lookup bs ss a (suc i) n)) (h i (omega arith) (omega arith))
      ∙ none_holds n (suc i) (λ k l l'. h k (omega arith) (omega arith))

  pub one_decides : (n i m : ℕ) → i ≤ m → m < i + n → ((k : ℕ) → k < m → test k ≡ false) → ((k : ℕ) → m < k → k < i + n → test k ≡ false)
      → lookup bs ss a i n ≡ cond (test m) (Some m) None
  unfolding lookup
  one_decides zero i m l l' f g = absurd (omega arith)
  one_decides (suc n) i m l l' f g =
      ⊎_elim
      (λ e.
      ap (cond (test i) (Some i)) (none_holds n (suc i) (λ k h h'. g k (omega arith) (omega arith)))
      ∙ ap (λ (k : ℕ). cond (test k) (Some k) None) e)
      (λ h.
      ap (λ (b : Bool). cond b (Some i) (lookup bs ss a (suc i) n)) (f i h)
      ∙ one_decides n (suc i) m (omega arith) (omega arith) f (λ k h' h''. g k h' (omega arith)))
      (eq-or-lt_of_le l)

  -- ---- what is found is one of them
  pub lookup_low : (n i k : ℕ) → lookup bs ss a i n ≡ Some k → k < i + n
  unfolding lookup
  lookup_low zero i k h = absurd (let z : ◌≡◌ {A = ℕ} 0 1 = cc in omega arith)
  lookup_low (suc n) i k h = go (test i) h (lookup_low n (suc i) k)
    where
      go : (b : Bool) → cond b (Some i) (lookup bs ss a (suc i) n) ≡ Some k → (lookup bs ss a (suc i) n ≡ Some k → k < suc i + n) → k < i + suc n
      go true h' ih = let e : i ≡ k = cc in omega arith
      go false h' ih = let l = ih h' in omega arith

  -- ---- and it is the model's
  module _ (rs : List Region) (b : (i : ℕ) → get_or bs i 0 ≡ (get_or rs i no_region).base) (z : (i : ℕ) → get_or ss i 0 ≡ (get_or rs i no_region).size) where
    found_from_lem : (n i : ℕ) → i + n ≡ length rs → from_holder (drop i rs) a ≡ found_from rs (lookup bs ss a i n)
    unfolding from_holder lookup
    found_from_lem zero i e = ap (λ (l : List Region). from_holder l a) (drop_of_length-le rs {i = i} (omega arith))
    found_from_lem (suc n) i e =
        let x = get_or rs i no_region in
        ap (λ (l : List Region). from_holder l a) (drop-cons rs i no_region (omega arith))
        ∙ go (holds a x) (drop-cons rs i no_region (omega arith)) (found_from_lem n (suc i) (omega arith))
        ∙ (let p = b i in let q = z i in λ j. found_from rs (cond (covered_by (sym p j) (sym q j) a) (Some i) (lookup bs ss a (suc i) n)))
      where
        go : (t : Bool) → drop i rs ≡ get_or rs i no_region ∷ drop (suc i) rs → from_holder (drop (suc i) rs) a ≡ found_from rs (lookup bs ss a (suc i) n)
            → cond t (get_or rs i no_region ∷ drop (suc i) rs) (from_holder (drop (suc i) rs) a) ≡ found_from rs (cond t (Some i) (lookup bs ss a (suc i) n))
        go true d ih = sym d
        go false d ih = ih

-- the search over the arrays finds the region that holds an address
pub finds_holder : {r : Regions} → Held r → (a : ℕ) → from_holder (regions_of r) a ≡ found_from (regions_of r) (lookup r.bases r.sizes a 0 r.count)
finds_holder {r} h a =
    found_from_lem r.bases r.sizes a (regions_of r) (base_at h) (size_at h) r.count 0 (let e = count_of h in omega arith)

-- ---- what was found, from what `ok_or` made of it
pub was_some : {E : Type 0} (o : Option ℕ) (e : E) (i : ℕ) → ok_or o e ≡ Ok i → o ≡ Some i
was_some (Some k) e i h = cc
was_some None e i h = absurd (let z : ◌≡◌ {A = ℕ} 0 1 = cc in omega arith)

pub was_none : {E : Type 0} (o : Option ℕ) (e x : E) → ok_or o e ≡ Refused x → (o ≡ None) × (e ≡ x)
was_none (Some k) e x h = absurd (let z : ◌≡◌ {A = ℕ} 0 1 = cc in omega arith)
was_none None e x h = (refl, cc)
