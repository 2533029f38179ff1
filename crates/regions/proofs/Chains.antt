-- Laws of `in_chain` for a walk along the regions: the area ends here, it cannot go on, or it goes on. Assumes nothing.
use Prim.Native.Nat.{ℕ, suc, ◌+◌, ◌≤◌, ◌<◌}
use native.Mathlib.Omega.{arith}
use native.Mathlib.Numerals.{add-one}
use mathlib.Core.Path.{◌≡◌, refl, sym, ap, ◌∙◌, subst}
use mathlib.Core.Bool.{Bool, true, false, ◌&&◌, ◌||◌}
use mathlib.Core.List.{List, ◌∷◌}
use lib.Dec.{leb}
use lib.ListN.{length, get_or, drop, drop_of_length-le}
use lib.Seq.{drop-cons}
use borrow.Author.Tests.{le-leb, lt-leb, leb-true, leb-false}
use Rattle.model.specs.State.{Region, no_region}
use Rattle.model.specs.Regions.{end, touches, is_equal, in_chain}
use Rattle.regions.specs.declared.state.RegionInfo.{RegionInfo}
use Rattle.regions.specs.View.{info_of, shown_as}
use Rattle.model.proofs.Chains.{chain_last, chain_on, chain_here}

-- an area up to the address a, and a walk that has come to the region at index i
module _ (rs : List Region) (a i : ℕ) (l : i < length rs) where
  abbrev here : Region
  here = get_or rs i no_region

  abbrev next : Region
  next = get_or rs (i + 1) no_region

  from_here : in_chain (drop i rs) a ≡ in_chain (here ∷ drop (suc i) rs) a
  from_here = ap (λ (m : List Region). in_chain m a) (drop-cons rs i no_region l)

  pub chain_ends : a ≤ end here → in_chain (drop i rs) a ≡ true
  chain_ends h = from_here ∙ chain_here a here (drop (suc i) rs) (le-leb a (end here) h)

  module _ (h : end here < a) where
    pub chain_stops : i + 1 ≡ length rs → in_chain (drop i rs) a ≡ false
    chain_stops e =
        from_here ∙ ap (λ (m : List Region). in_chain (here ∷ m) a) (drop_of_length-le rs {i = suc i} (omega arith)) ∙ chain_last a here ∙ lt-leb a (end here) h

    pub chain_goes : i + 1 < length rs → in_chain (drop i rs) a ≡ (touches here next && is_equal here next) && in_chain (drop (i + 1) rs) a
    chain_goes k =
        rw (add-one i)
        (let d = drop-cons rs (suc i) no_region (omega arith) in
        let x = get_or rs (suc i) no_region in
        from_here
        ∙ ap (λ (m : List Region). in_chain (here ∷ m) a) d
        ∙ chain_on a here x (drop (suc (suc i)) rs)
        ∙ ap (λ (b : Bool). b || ((touches here x && is_equal here x) && in_chain (x ∷ drop (suc (suc i)) rs) a)) (lt-leb a (end here) h)
        ∙ ap (λ (m : List Region). (touches here x && is_equal here x) && in_chain m a) (sym d))

-- ---- a walk from index i on, for an area up to the address a, that has come to a region, the one before index n
pub record Walked (rs : List Region) (i a : ℕ) (region : RegionInfo) (n : ℕ) : Type 0 where
  pub at : ℕ
  pub before : n ≡ at + 1
  pub low : at < length rs
  pub same : region ≡ info_of (get_or rs at no_region)
  pub chain : in_chain (drop i rs) a ≡ in_chain (drop at rs) a

module _ {rs : List Region} {i a n : ℕ} {region : RegionInfo} (w : Walked rs i a region n) where
  pub walk_ends : a ≤ end (shown_as region) → in_chain (drop i rs) a ≡ true
  walk_ends h = w.chain ∙ chain_ends rs a w.at w.low (subst (λ (x : RegionInfo). a ≤ end (shown_as x)) w.same h)

  past : end (shown_as region) < a → end (get_or rs w.at no_region) < a
  past h = subst (λ (x : RegionInfo). end (shown_as x) < a) w.same h

  -- at the last region
  pub walk_last : length rs ≤ n → leb a (end (shown_as region)) ≡ in_chain (drop i rs) a
  walk_last l = go (leb a (end (shown_as region))) refl
    where
      go : (b : Bool) → leb a (end (shown_as region)) ≡ b → b ≡ in_chain (drop i rs) a
      go true e = sym (walk_ends (leb-true a (end (shown_as region)) e))
      go false e =
          let b = w.before in
          let k = w.low in
          sym (w.chain ∙ chain_stops rs a w.at w.low (past (leb-false a (end (shown_as region)) e)) (omega arith))

  -- at any other, with the next one
  module _ (h : end (shown_as region) < a) (l : n < length rs) (next : RegionInfo) (e : next ≡ info_of (get_or rs n no_region)) where
    abbrev pub follows : Bool
    follows = touches (shown_as region) (shown_as next) && is_equal (shown_as region) (shown_as next)

    goes : in_chain (drop i rs) a ≡ follows && in_chain (drop n rs) a
    goes =
        let b = w.before in
        let s = w.same in
        let f : next ≡ info_of (get_or rs (w.at + 1) no_region) = e ∙ ap (λ (k : ℕ). info_of (get_or rs k no_region)) b in
        w.chain
        ∙ chain_goes rs a w.at w.low (past h) (omega arith)
        ∙ (λ j. (touches (shown_as (sym s j)) (shown_as (sym f j)) && is_equal (shown_as (sym s j)) (shown_as (sym f j))) && in_chain (drop (sym b j) rs) a)

    pub walk_breaks : follows ≡ false → in_chain (drop i rs) a ≡ false
    walk_breaks f = goes ∙ ap (λ (t : Bool). t && in_chain (drop n rs) a) f

    pub walk_goes : follows ≡ true → Walked rs i a next (n + 1)
    walk_goes f = record { at = n; before = refl; low = l; same = e; chain = goes ∙ ap (λ (t : Bool). t && in_chain (drop n rs) a) f }
