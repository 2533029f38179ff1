-- "Regions that touch and are equal in these count as one for the verdict" (document 02, T-09): a table with one region in the place of
-- two such has the same verdicts. So it is with one region in the place of a chain of any length.
use mathlib.Core.Path.{◌≡◌, refl, sym, ap, ◌∙◌}
use mathlib.Core.Bool.{Bool, true, false, cond, not, ◌&&◌, ◌||◌}
use mathlib.Core.List.{List, [], ◌∷◌, ◌++◌}
use mathlib.Core.Option.{Option, none}
use Prim.Native.Nat.{ℕ, ◌+◌}
use native.Mathlib.Omega.{arith}
use lib.Dec.{eqb, leb}
use lib.IntN.{ℤ}
use borrow.Author.Tests.{leb-false}
use Rattle.access.specs.Domains.{same_domain}
use Rattle.access.specs.Vectors.{same_vector}
use Rattle.itron.specs.declared.error.Error.{Error as Refusal}
use Rattle.itron.specs.declared.error.Error.TheVariants.{Ctx as e_ctx, Id as e_id, Par as e_par, Obj as e_obj, Macv as e_macv}
use Rattle.model.specs.Answers.{refuse_if}
use Rattle.model.specs.State.{Region, State, set_fixed, set_regions}
use Rattle.model.specs.Regions.{end, touches, is_equal, in_chain, allows, holds, from_holder, judge_in, area_ok, judge}
use Rattle.model.specs.Table.{owns_task}
use Rattle.model.specs.Verdict.{verdict}
use Rattle.model.proofs.Tests.{le_tells}
use Rattle.model.proofs.Tests as Tests
use Rattle.model.proofs.Chains.{Holds, Joined, Chain, joined_tells, holds_tells, chain_last, chain_on, chain_here}

-- the one region in the place of two
abbrev pub merged : Region → Region → Region
merged r x = record { domain = r.domain; attribute = r.attribute; base = r.base; size = r.size + x.size; vector = r.vector }

module _ (r x : Region) (j : Joined r x) where
  same_end : end x ≡ end (merged r x)
  same_end = let t = j.touch in omega arith

  -- what is behind the two joins the one as it joins the second
  same_next : (y : Region) → touches x y && is_equal x y ≡ touches (merged r x) y && is_equal (merged r x) y
  same_next y =
      let e = same_end in
      let d = j.domain in
      let t = j.attribute in
      let v = j.vector in
      λ i. eqb (e i) y.base && (same_domain (sym d i) y.domain && eqb (sym t i) y.attribute && same_vector (sym v i) y.vector)

  -- ---- chains, up to an address
  module _ (a : ℕ) where
    from_second : (behind : List Region) → in_chain (x ∷ behind) a ≡ in_chain (merged r x ∷ behind) a
    from_second [] = chain_last a x ∙ ap (leb a) same_end ∙ sym (chain_last a (merged r x))
    from_second (y ∷ l) =
        chain_on a x y l ∙ (let e = same_end in let n = same_next y in λ i. leb a (e i) || (n i && in_chain (y ∷ l) a)) ∙ sym (chain_on a (merged r x) y l)

    -- who is within the first is within the second
    from_first : (behind : List Region) → in_chain (r ∷ (x ∷ behind)) a ≡ in_chain (merged r x ∷ behind) a
    from_first behind =
        chain_on a r x behind ∙ ap (λ (b : Bool). leb a (end r) || (b && in_chain (x ∷ behind) a)) (Tests.holds (joined_tells r x) j)
        ∙ go (leb a (end r)) refl ∙ from_second behind
      where
        high : (l : List Region) → leb a (end r) ≡ true → in_chain (x ∷ l) a ≡ true
        high l e = chain_here a x l (Tests.holds (le_tells a (end x)) (let k = (le_tells a (end r)).yes e in let t = j.touch in omega arith))

        go : (b : Bool) → leb a (end r) ≡ b → b || in_chain (x ∷ behind) a ≡ in_chain (x ∷ behind) a
        go true e = sym (high behind e)
        go false e = refl

    -- so it is from every region before the two on
    from_before : (b : Region) (l behind : List Region) → in_chain (b ∷ (l ++ (r ∷ (x ∷ behind)))) a ≡ in_chain (b ∷ (l ++ (merged r x ∷ behind))) a
    from_before b [] behind =
        chain_on a b r (x ∷ behind) ∙ ap (λ (t : Bool). leb a (end b) || ((touches b r && is_equal b r) && t)) (from_first behind) ∙ sym (chain_on a b (merged r x) behind)
    from_before b (c ∷ l) behind =
        chain_on a b c (l ++ (r ∷ (x ∷ behind))) ∙ ap (λ (t : Bool). leb a (end b) || ((touches b c && is_equal b c) && t)) (from_before c l behind)
        ∙ sym (chain_on a b c (l ++ (merged r x ∷ behind)))

  -- ---- the region that holds the base
  holds_both : (a : ℕ) → holds a (merged r x) ≡ holds a r || holds a x
  holds_both a = go (holds a r) refl (holds a x) refl
    where
      go : (b : Bool) → holds a r ≡ b → (c : Bool) → holds a x ≡ c → holds a (merged r x) ≡ b || c
      go true e c k = Tests.holds (holds_tells a (merged r x)) (let h = (holds_tells a r).yes e in (h.0, let l = h.1 in omega arith))
      go false e true k = Tests.holds (holds_tells a (merged r x)) (let h = (holds_tells a x).yes k in let l = h.0 in let m = h.1 in let t = j.touch in (omega arith, omega arith))
      go false e false k =
          Tests.fails (holds_tells a (merged r x)) (λ h. neither h (leb (end r) a) refl)
        where
          neither : Holds a (merged r x) → (b : Bool) → leb (end r) a ≡ b → ⊥
          neither h true q = let l = (le_tells (end r) a).yes q in let m = h.1 in let t = j.touch in (holds_tells a x).no k (omega arith, omega arith)
          neither h false q = let l = leb-false (end r) a q in (holds_tells a r).no e (h.0, omega arith)

  module _ (d : ℤ) (base size w : ℕ) where
    by_second : (behind : List Region) → judge_in (x ∷ behind) d base size w ≡ judge_in (merged r x ∷ behind) d base size w
    by_second behind =
        let c = from_second (base + size) behind in
        let t = j.attribute in
        let v = j.vector in
        λ i. refuse_if (not (c i)) e_obj (refuse_if (not (allows (record { domain = r.domain; attribute = sym t i; base = r.base; size = r.size; vector = sym v i }) d w)) e_macv none)

    by_either : (behind : List Region) → judge_in (from_holder (r ∷ (x ∷ behind)) base) d base size w ≡ judge_in (from_holder (merged r x ∷ behind) base) d base size w
    unfolding from_holder
    by_either behind =
        go (holds base r) (holds base x)
        ∙ ap (λ (b : Bool). judge_in (cond b (merged r x ∷ behind) (from_holder behind base)) d base size w) (sym (holds_both base))
      where
        go : (b c : Bool) → judge_in (cond b (r ∷ (x ∷ behind)) (cond c (x ∷ behind) (from_holder behind base))) d base size w
            ≡ judge_in (cond (b || c) (merged r x ∷ behind) (from_holder behind base)) d base size w
        go true c = ap (λ (t : Bool). refuse_if (not t) e_obj (refuse_if (not (allows r d w)) e_macv none)) (from_first (base + size) behind)
        go false true = by_second behind
        go false false = refl

    by_all : (before behind : List Region) → judge_in (from_holder (before ++ (r ∷ (x ∷ behind))) base) d base size w
        ≡ judge_in (from_holder (before ++ (merged r x ∷ behind)) base) d base size w
    unfolding from_holder
    by_all [] behind = by_either behind
    by_all (b ∷ l) behind = go (holds base b) (by_all l behind)
      where
        go : (t : Bool) → judge_in (from_holder (l ++ (r ∷ (x ∷ behind))) base) d base size w ≡ judge_in (from_holder (l ++ (merged r x ∷ behind)) base) d base size w
            → judge_in (cond t (b ∷ (l ++ (r ∷ (x ∷ behind)))) (from_holder (l ++ (r ∷ (x ∷ behind))) base)) d base size w
            ≡ judge_in (cond t (b ∷ (l ++ (merged r x ∷ behind))) (from_holder (l ++ (merged r x ∷ behind)) base)) d base size w
        go true ih = ap (λ (t : Bool). refuse_if (not t) e_obj (refuse_if (not (allows b d w)) e_macv none)) (from_before (base + size) b l behind)
        go false ih = ih

-- a table with other regions
abbrev pub with_regions : State → List Region → State
with_regions s rs = set_fixed s (set_regions s.fixed rs)

pub count_as_one : (s : State) (before : List Region) (r x : Region) (behind : List Region) → Joined r x → (d : ℤ) (base size w : ℕ)
    → verdict (with_regions s (before ++ (r ∷ (x ∷ behind)))) d base size w ≡ verdict (with_regions s (before ++ (merged r x ∷ behind))) d base size w
unfolding verdict judge
count_as_one s before r x behind j d base size w =
    ap
    (λ (o : Option Refusal). refuse_if (not s.fixed.closed) e_ctx (refuse_if (not (owns_task s.fixed.count d)) e_id (refuse_if (not (area_ok base size w)) e_par o)))
    (by_all r x j d base size w before behind)

-- "chains of any length too"
abbrev pub merged_all : Region → List Region → Region
merged_all r [] = r
merged_all r (x ∷ l) = merged_all (merged r x) l

merged_chain : (r x : Region) (l : List Region) → Joined r x → Chain (x ∷ l) → Chain (merged r x ∷ l)
merged_chain r x [] j c = tt
merged_chain r x (y ∷ l) j c =
    let k = c.0 in
    let e = same_end r x j in
    (record { touch = sym e ∙ k.touch; domain = j.domain ∙ k.domain; attribute = j.attribute ∙ k.attribute; vector = j.vector ∙ k.vector }, c.1)

pub chain_as_one : (s : State) (before : List Region) (r : Region) (l behind : List Region) → Chain (r ∷ l) → (d : ℤ) (base size w : ℕ)
    → verdict (with_regions s (before ++ (r ∷ (l ++ behind)))) d base size w ≡ verdict (with_regions s (before ++ (merged_all r l ∷ behind))) d base size w
chain_as_one s before r [] behind c d base size w = refl
chain_as_one s before r (x ∷ l) behind c d base size w =
    count_as_one s before r x (l ++ behind) c.0 d base size w ∙ chain_as_one s before (merged r x) l behind (merged_chain r x l c.0 c.1) d base size w
