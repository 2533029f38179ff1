-- In a list that fits, at most one region holds an address, and `from_holder` begins with exactly that one. Assumes nothing.
use Prim.Native.Nat.{ℕ, zero, suc, ◌≤◌, ◌<◌}
use native.Mathlib.Omega.{arith}
use mathlib.Core.Path.{◌≡◌, refl, ap, ◌∙◌}
use mathlib.Core.Bool.{Bool, true, false, cond}
use mathlib.Core.List.{List, [], ◌∷◌}
use lib.Dec.{leb, ltb}
use lib.ListN.{length, get_or, drop}
use borrow.Author.Tests.{leb-true, ltb-true, ltb-false}
use Rattle.model.specs.State.{Region, no_region}
use Rattle.model.specs.Regions.{end, holds, from_holder}
use Rattle.model.specs.Conditions.{Ascending, RegionsFit}
use Rattle.model.proofs.Lists.{and_left, and_right}
use Rattle.regions.specs.declared.state.Regions.{Regions}
use Rattle.regions.specs.View.{regions_of}
use Rattle.regions.specs.Held.{Held}
use Rattle.regions.specs.Search.{InOrder}
use Rattle.regions.proofs.Cells.{count_of, base_at, size_at}

-- a region that holds an address starts at or below it and ends above it
pub holds_start : (a : ℕ) (r : Region) → holds a r ≡ true → r.base ≤ a
holds_start a r h = leb-true r.base a (and_left (leb r.base a) (ltb a (end r)) h)

pub holds_end : (a : ℕ) (r : Region) → holds a r ≡ true → a < end r
holds_end a r h = ltb-true a (end r) (and_right (leb r.base a) (ltb a (end r)) h)

-- each region ends at or below the start of every later one
tail : (r : Region) (rs : List Region) → Ascending (r ∷ rs) → Ascending rs
tail r [] h = tt
tail r (x ∷ rs) h = h.1

first_below : (r : Region) (rs : List Region) → Ascending (r ∷ rs) → (j : ℕ) → j < length rs → end r ≤ (get_or rs j no_region).base
first_below r [] h j l = absurd (omega arith)
first_below r (x ∷ rs) h zero l = h.0
first_below r (x ∷ rs) h (suc j) l = let k = first_below x rs h.1 j (omega arith) in let k' = h.0 in omega arith

pub below : (rs : List Region) → Ascending rs → (i j : ℕ) → i < j → j < length rs → end (get_or rs i no_region) ≤ (get_or rs j no_region).base
below rs h i zero k l = absurd (omega arith)
below [] h i (suc j) k l = absurd (omega arith)
below (r ∷ rs) h zero (suc j) k l = first_below r rs h j (omega arith)
below (r ∷ rs) h (suc i) (suc j) k l = below rs (tail r rs h) i j (omega arith) (omega arith)

-- so the first region is passed over where a later one holds the address
passed : (a : ℕ) (r : Region) (rs : List Region) → Ascending (r ∷ rs) → (i : ℕ) → i < length rs → holds a (get_or rs i no_region) ≡ true → holds a r ≡ false
passed a r rs g i l h = go (holds a r) refl
  where
    go : (b : Bool) → holds a r ≡ b → b ≡ false
    go false e = refl
    go true e =
        let u = first_below r rs g i l in
        let v = holds_end a r e in
        let w = holds_start a (get_or rs i no_region) h in
        absurd (omega arith)

holder_at : (a : ℕ) (rs : List Region) → Ascending rs → (i : ℕ) → i < length rs → holds a (get_or rs i no_region) ≡ true → from_holder rs a ≡ drop i rs
unfolding from_holder
holder_at a [] g i l h = absurd (omega arith)
holder_at a (r ∷ rs) g zero l h = ap (λ (b : Bool). cond b (r ∷ rs) (from_holder rs a)) h
holder_at a (r ∷ rs) g (suc i) l h =
    ap (λ (b : Bool). cond b (r ∷ rs) (from_holder rs a)) (passed a r rs g i (omega arith) h) ∙ holder_at a rs (tail r rs g) i (omega arith) h

module _ (a : ℕ) (rs : List Region) (f : RegionsFit rs) where
  -- a region before another cannot hold an address that the other holds
  apart : (i j : ℕ) → i < j → j < length rs → holds a (get_or rs i no_region) ≡ true → holds a (get_or rs j no_region) ≡ true → ⊥
  apart i j l k h h' =
      let u = below rs f.ascending i j l k in
      let v = holds_end a (get_or rs i no_region) h in
      let w = holds_start a (get_or rs j no_region) h' in
      omega arith

  -- at most one region holds an address
  pub one_region : (i j : ℕ) → i < length rs → j < length rs → holds a (get_or rs i no_region) ≡ true → holds a (get_or rs j no_region) ≡ true → i ≡ j
  one_region i j l k h h' = go (ltb i j) refl (ltb j i) refl
    where
      go : (b : Bool) → ltb i j ≡ b → (c : Bool) → ltb j i ≡ c → i ≡ j
      go true e c e' = absurd (apart i j (ltb-true i j e) k h h')
      go false e true e' = absurd (apart j i (ltb-true j i e') l h' h)
      go false e false e' = let m = ltb-false i j e in let n = ltb-false j i e' in omega arith

  -- and `from_holder` begins with it
  pub the_holder : (i : ℕ) → i < length rs → holds a (get_or rs i no_region) ≡ true → from_holder rs a ≡ drop i rs
  the_holder i l h = holder_at a rs f.ascending i l h

-- where no region holds an address it is empty
pub no_holder : (a : ℕ) (rs : List Region) → ((i : ℕ) → i < length rs → holds a (get_or rs i no_region) ≡ false) → from_holder rs a ≡ []
unfolding from_holder
no_holder a [] h = refl
no_holder a (r ∷ rs) h = ap (λ (b : Bool). cond b (r ∷ rs) (from_holder rs a)) (h zero (omega arith)) ∙ no_holder a rs (λ i l. h (suc i) (omega arith))

-- the arrays hold the regions in this order
pub in_order : {r : Regions} → Held r → InOrder r.bases r.sizes r.count
in_order {r} h =
    record {
      few = h.few;
      apart = λ i j l k.
          let b = base_at h i in
          let z = size_at h i in
          let n = base_at h j in
          let c = count_of h in
          let e = below (regions_of r) h.fit.ascending i j l (omega arith) in
          omega arith;
    }
