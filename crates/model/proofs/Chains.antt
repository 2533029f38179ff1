-- Regions that count as one (document 02, T-09): what a chain is by plain facts, and laws of `in_chain` for who walks along one
use mathlib.Core.Path.{◌≡◌, refl, sym, ap, ◌∙◌, subst}
use mathlib.Core.Logic.{◌⊎◌, inl, inr}
use mathlib.Core.Bool.{Bool, true, false, ◌&&◌, ◌||◌, and_assoc, and-or_distrib_left, or-false}
use mathlib.Core.List.{List, [], ◌∷◌, ◌++◌, map}
use Prim.Native.Nat.{ℕ, ◌+◌, ◌-◌, ◌≤◌, ◌<◌}
use native.Mathlib.Omega.{arith}
use lib.Dec.{leb}
use lib.IntN.{ℤ}
use Rattle.access.specs.Domains.{same_domain}
use Rattle.access.specs.Vectors.{same_vector}
use Rattle.access.proofs.Equals.{domains_equal, equal_domains, vectors_equal, equal_vectors}
use Rattle.model.specs.Lists.{any_of, beginnings}
use Rattle.model.specs.State.{Vector, Region}
use Rattle.model.specs.Regions.{end, last_end, touches, is_equal, is_chain, is_chain_to, in_chain, holds}
use Rattle.model.proofs.Lists.{no_both}
use Rattle.model.proofs.Tests.{Tells, le_tells, lt_tells, eq_tells, and_tells, iff_tells}

-- ---- an area within a chain, from one region to the next
any_map : {A B : Type 0} (p : B → Bool) (f : A → B) (l : List A) → any_of p (map f l) ≡ any_of (λ (x : A). p (f x)) l
any_map p f [] = refl
any_map p f (x ∷ l) = ap (λ (b : Bool). p (f x) || b) (any_map p f l)

any_and : {A : Type 0} (b : Bool) (p r : A → Bool) → ((x : A) → p x ≡ b && r x) → (l : List A) → any_of p l ≡ b && any_of r l
any_and true p r h [] = refl
any_and false p r h [] = refl
any_and b p r h (x ∷ l) = (let e = h x in let k = any_and b p r h l in λ i. e i || k i) ∙ sym (and-or_distrib_left b (r x) (any_of r l))

module _ (a : ℕ) where
  -- the last region
  pub chain_last : (r : Region) → in_chain (r ∷ []) a ≡ leb a (end r)
  unfolding in_chain
  chain_last r = or-false (leb a (end r))

  -- a region with others behind it
  pub chain_on : (r x : Region) (rs : List Region) → in_chain (r ∷ (x ∷ rs)) a ≡ leb a (end r) || ((touches r x && is_equal r x) && in_chain (x ∷ rs) a)
  unfolding in_chain
  chain_on r x rs =
      ap (λ (b : Bool). leb a (end r) || b)
      (any_map (is_chain_to a) (λ (l : List Region). r ∷ l) (beginnings (x ∷ rs))
      ∙ ap (λ (b : Bool). is_chain_to a (r ∷ (x ∷ [])) || b) (any_map (λ (l : List Region). is_chain_to a (r ∷ l)) (λ (l : List Region). x ∷ l) (beginnings rs))
      ∙ first_and
      ∙ ap (λ (b : Bool). joined && (is_chain_to a (x ∷ []) || b)) (sym (any_map (is_chain_to a) (λ (l : List Region). x ∷ l) (beginnings rs))))
    where
      joined : Bool
      joined = touches r x && is_equal r x

      one : (l : List Region) → is_chain_to a (r ∷ (x ∷ l)) ≡ joined && is_chain_to a (x ∷ l)
      one l = and_assoc joined (is_chain (x ∷ l)) (leb a (last_end (x ∷ l)))

      first_and : is_chain_to a (r ∷ (x ∷ [])) || any_of (λ (l : List Region). is_chain_to a (r ∷ (x ∷ l))) (beginnings rs)
          ≡ joined && (is_chain_to a (x ∷ []) || any_of (λ (l : List Region). is_chain_to a (x ∷ l)) (beginnings rs))
      first_and = any_and joined (λ (l : List Region). is_chain_to a (r ∷ (x ∷ l))) (λ (l : List Region). is_chain_to a (x ∷ l)) one ([] ∷ beginnings rs)

  -- an area that ends in the first region
  pub chain_here : (r : Region) (rs : List Region) → leb a (end r) ≡ true → in_chain (r ∷ rs) a ≡ true
  chain_here r [] h = chain_last r ∙ h
  chain_here r (x ∷ rs) h = chain_on r x rs ∙ ap (λ (b : Bool). b || ((touches r x && is_equal r x) && in_chain (x ∷ rs) a)) h

-- ---- what these are, by plain facts
-- a region holds an address
abbrev pub Holds : ℕ → Region → Type 0
Holds a r = (r.base ≤ a) × (a < r.base + r.size)

-- "Regions that touch and are equal in these": domain, attributes and vector
pub record Joined (r x : Region) : Type 0 where
  pub touch : r.base + r.size ≡ x.base
  pub domain : r.domain ≡ x.domain
  pub attribute : r.attribute ≡ x.attribute
  pub vector : r.vector ≡ x.vector

-- "chains of any length too"
abbrev pub Chain : List Region → Type 0
Chain [] = Unit
Chain (r ∷ []) = Unit
Chain (r ∷ (x ∷ rs)) = Joined r x × Chain (x ∷ rs)

-- an address, and each address of an area, is in the union of regions
abbrev pub InUnion : ℕ → List Region → Type 0
InUnion a [] = ⊥
InUnion a (r ∷ rs) = Holds a r ⊎ InUnion a rs

abbrev pub Within : ℕ → ℕ → List Region → Type 0
Within base size rs = (a : ℕ) → base ≤ a → a < base + size → InUnion a rs

-- of the regions behind r, the first ones are a chain with r, and the area is within the union of these
pub record Reached (r : Region) (behind : List Region) (base size : ℕ) : Type 0 where
  pub joined : List Region
  pub rest : List Region
  pub split : behind ≡ joined ++ rest
  pub chain : Chain (r ∷ joined)
  pub union : Within base size (r ∷ joined)

-- ---- the tests tell these facts
pub holds_tells : (a : ℕ) (r : Region) → Tells (holds a r) (Holds a r)
holds_tells a r = and_tells (le_tells r.base a) (lt_tells a (r.base + r.size))

domain_tells : (a b : ℤ) → Tells (same_domain a b) (a ≡ b)
domain_tells a b = record { yes = domains_equal a b; no = λ h e. no_both (sym (ap (same_domain a) e) ∙ equal_domains a) h }

vector_tells : (v w : Vector) → Tells (same_vector v w) (v ≡ w)
vector_tells v w = record { yes = vectors_equal v w; no = λ h e. no_both (sym (ap (same_vector v) e) ∙ equal_vectors v) h }

pub joined_tells : (r x : Region) → Tells (touches r x && is_equal r x) (Joined r x)
joined_tells r x =
    iff_tells
    (λ h. record { touch = h.0; domain = h.1.0.0; attribute = h.1.0.1; vector = h.1.1 })
    (λ j. (j.touch, ((j.domain, j.attribute), j.vector)))
    (and_tells (eq_tells (end r) x.base) (and_tells (and_tells (domain_tells r.domain x.domain) (eq_tells r.attribute x.attribute)) (vector_tells r.vector x.vector)))

-- a chain of r and the first regions behind it that goes up to an address
record UpTo (a : ℕ) (r : Region) (behind : List Region) : Type 0 where
  joined : List Region
  rest : List Region
  split : behind ≡ joined ++ rest
  chain : Chain (r ∷ joined)
  reach : a ≤ last_end (r ∷ joined)

module _ (a : ℕ) where
  up_to : (r : Region) (behind : List Region) → in_chain (r ∷ behind) a ≡ true → UpTo a r behind
  up_to r [] h = record { joined = []; rest = []; split = refl; chain = tt; reach = (le_tells a (end r)).yes (sym (chain_last a r) ∙ h) }
  up_to r (x ∷ rs) h = go (leb a (end r)) refl (touches r x && is_equal r x) refl (up_to x rs) (sym (chain_on a r x rs) ∙ h)
    where
      go : (b : Bool) → leb a (end r) ≡ b → (t : Bool) → touches r x && is_equal r x ≡ t → (in_chain (x ∷ rs) a ≡ true → UpTo a x rs)
          → b || (t && in_chain (x ∷ rs) a) ≡ true → UpTo a r (x ∷ rs)
      go true e t k f p = record { joined = []; rest = x ∷ rs; split = refl; chain = tt; reach = (le_tells a (end r)).yes e }
      go false e true k f p =
          let u = f p in
          record { joined = x ∷ u.joined; rest = u.rest; split = ap (λ (l : List Region). x ∷ l) u.split; chain = ((joined_tells r x).yes k, u.chain); reach = u.reach }
      go false e false k f p = absurd (no_both p refl)

  not_up_to : (r : Region) (behind : List Region) → in_chain (r ∷ behind) a ≡ false → UpTo a r behind → ⊥
  not_up_to r [] h u = go u.joined u.split u.reach
    where
      go : (l : List Region) → [] ≡ l ++ u.rest → a ≤ last_end (r ∷ l) → ⊥
      go [] s e = (le_tells a (end r)).no (sym (chain_last a r) ∙ h) e
      go (y ∷ l) s e = let z : ◌≡◌ {A = ℕ} 0 1 = cc in omega arith
  not_up_to r (x ∷ rs) h u = go (leb a (end r)) refl (touches r x && is_equal r x) refl (not_up_to x rs) (sym (chain_on a r x rs) ∙ h) u.joined u.split u.chain u.reach
    where
      go : (b : Bool) → leb a (end r) ≡ b → (t : Bool) → touches r x && is_equal r x ≡ t → (in_chain (x ∷ rs) a ≡ false → UpTo a x rs → ⊥)
          → b || (t && in_chain (x ∷ rs) a) ≡ false → (l : List Region) → x ∷ rs ≡ l ++ u.rest → Chain (r ∷ l) → a ≤ last_end (r ∷ l) → ⊥
      go true e t k f p l s c w = no_both {b = true} refl p
      go false e t k f p [] s c w = (le_tells a (end r)).no e w
      go false e false k f p (y ∷ l) s c w = let q : y ≡ x = cc in (joined_tells r x).no k (subst (λ (z : Region). Joined r z) q c.0)
      go false e true k f p (y ∷ l) s c w =
          let q : y ≡ x = cc in
          let m : rs ≡ l ++ u.rest = cc in
          f p (record { joined = l; rest = u.rest; split = m; chain = subst (λ (z : Region). Chain (z ∷ l)) q c.1; reach = subst (λ (z : Region). a ≤ last_end (z ∷ l)) q w })

-- a chain's addresses are those from the start of its first region to the end of its last
chain_high : (r : Region) (l : List Region) → Chain (r ∷ l) → end r ≤ last_end (r ∷ l)
chain_high r [] c = omega arith
chain_high r (x ∷ l) c = let h = chain_high x l c.1 in let t = c.0.touch in omega arith

union_below : (a : ℕ) (r : Region) (l : List Region) → Chain (r ∷ l) → InUnion a (r ∷ l) → a < last_end (r ∷ l)
union_below a r [] c (inl h) = h.1
union_below a r [] c (inr h) = absurd h
union_below a r (x ∷ l) c (inl h) = let k = chain_high r (x ∷ l) c in let h' = h.1 in omega arith
union_below a r (x ∷ l) c (inr h) = union_below a x l c.1 h

below_union : (a : ℕ) (r : Region) (l : List Region) → Chain (r ∷ l) → r.base ≤ a → a < last_end (r ∷ l) → InUnion a (r ∷ l)
below_union a r [] c b h = inl (b, h)
below_union a r (x ∷ l) c b h = go (leb (end r) a) refl (λ k. below_union a x l c.1 k h)
  where
    go : (t : Bool) → leb (end r) a ≡ t → (x.base ≤ a → InUnion a (x ∷ l)) → InUnion a (r ∷ (x ∷ l))
    go true e f = inr (f (let k = (le_tells (end r) a).yes e in let t = c.0.touch in omega arith))
    go false e f = inl (b, let k = (le_tells (end r) a).no e in go' k)
      where
        go' : (end r ≤ a → ⊥) → a < end r
        go' k = omega arith

-- an area that starts in the region
module _ (r : Region) (behind : List Region) (base size : ℕ) (here : Holds base r) (some : 1 ≤ size) where
  reached : UpTo (base + size) r behind → Reached r behind base size
  reached u =
      record {
        joined = u.joined;
        rest = u.rest;
        split = u.split;
        chain = u.chain;
        union = λ a l h. below_union a r u.joined u.chain (let b = here.0 in omega arith) (let w = u.reach in omega arith);
      }

  reaches : Reached r behind base size → UpTo (base + size) r behind
  reaches u =
      let k = union_below (base + size - 1) r u.joined u.chain (u.union (base + size - 1) (omega arith) (omega arith)) in
      record { joined = u.joined; rest = u.rest; split = u.split; chain = u.chain; reach = omega arith }

  pub chain_tells : Tells (in_chain (r ∷ behind) (base + size)) (Reached r behind base size)
  chain_tells = record { yes = λ h. reached (up_to (base + size) r behind h); no = λ h u. not_up_to (base + size) r behind h (reaches u) }
