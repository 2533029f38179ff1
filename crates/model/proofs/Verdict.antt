-- The memory verdict (document 01): its sentences, each by plain facts of the table
use mathlib.Core.Path.{◌≡◌, refl, sym, ap, ◌∙◌, subst}
use mathlib.Core.Logic.{◌≢◌, ◌⊎◌, inl, inr}
use mathlib.Core.Bool.{Bool, true, false, cond, not}
use mathlib.Core.List.{List, [], ◌∷◌, ◌++◌}
use mathlib.Core.Option.{none, some}
use Prim.Native.Nat.{ℕ, zero, suc, ◌+◌, ◌≤◌, ◌<◌, ◌/◌, ◌%◌}
use native.Mathlib.Omega.{arith}
use native.Mathlib.Nat.{div-one}
use lib.IntN.{ℤ, pos, negsuc}
use Rattle.access.specs.Patterns.{admitted, bit_at}
use Rattle.itron.specs.declared.error.Error.TheVariants.{Ctx as e_ctx, Id as e_id, Par as e_par, Noexs as e_noexs, Obj as e_obj, Macv as e_macv}
use Rattle.itron.specs.Limits.{address_end}
use Rattle.model.specs.Answers.{refuse_if}
use Rattle.model.specs.Lists.{All}
use Rattle.model.specs.State.{Region, State, set_fixed, set_unit, set_levels}
use Rattle.model.specs.Regions.{may_read, grants, allows, holds, in_chain, from_holder, judge_in, area_ok, judge}
use Rattle.model.specs.Table.{owns_task}
use Rattle.model.specs.Verdict.{verdict}
use Rattle.model.proofs.Lists.{no_both}
use Rattle.model.proofs.Tests.{Tells, le_tells, eq_tells, true_tells, always_tells, never_tells, and_tells, not_tells, passes_on, stops_at, passed_by}
use Rattle.model.proofs.Tests as Tests
use Rattle.model.proofs.Chains.{Holds, holds_tells, Joined, Chain, InUnion, Reached, chain_tells}

-- ---- what is asked
-- "domain not -1 and not 1 to n"
abbrev pub Asker : ℕ → ℤ → Type 0
Asker n (pos d) = (d ≢ 0) × (d ≤ n)
Asker n (negsuc zero) = Unit
Asker n (negsuc (suc k)) = ⊥

-- "size 0, unknown or no wish, base + size above 2^32"
abbrev pub Area : ℕ → ℕ → ℕ → Type 0
Area base size w = ((1 ≤ size) × ((1 ≤ w) × (w ≤ 7))) × (base + size ≤ address_end)

-- "write (bit value 1), read (2), execute (4)"
abbrev pub Writes : ℕ → Type 0
Writes w = w % 2 ≡ 1

abbrev pub Reads : ℕ → Type 0
Reads w = w / 2 % 2 ≡ 1

abbrev pub Executes : ℕ → Type 0
Executes w = w / 4 % 2 ≡ 1

-- the region attributes: "1 (no-write) and 4 (execute)"
abbrev pub NoWrite : Region → Type 0
NoWrite r = r.attribute % 2 ≡ 1

abbrev pub Executable : Region → Type 0
Executable r = r.attribute / 4 % 2 ≡ 1

-- "Write follows normal operation 1; read and execute follow normal operation 2. No-write denies writing to every domain .. Execute also needs the
-- execute attribute."
abbrev pub Granted : Region → ℤ → ℕ → Type 0
Granted r d w =
    ((Writes w → (NoWrite r → ⊥) × (admitted r.vector.normal1 d ≡ true)) × (Reads w → admitted r.vector.normal2 d ≡ true))
    × (Executes w → Executable r × (admitted r.vector.normal2 d ≡ true))

-- ---- the region that holds an address
pub record At (rs : List Region) (a : ℕ) (r : Region) : Type 0 where
  pub before : List Region
  pub behind : List Region
  pub split : rs ≡ before ++ (r ∷ behind)
  pub others : All (λ (x : Region). Holds a x → ⊥) before
  pub here : Holds a r

-- ---- the tests tell these facts
asker_tells : (n : ℕ) (d : ℤ) → Tells (owns_task n d) (Asker n d)
asker_tells n (pos d) = and_tells (not_tells (eq_tells d 0)) (le_tells d n)
asker_tells n (negsuc zero) = always_tells
asker_tells n (negsuc (suc k)) = never_tells

area_tells : (base size w : ℕ) → Tells (area_ok base size w) (Area base size w)
area_tells base size w = and_tells (and_tells (le_tells 1 size) (and_tells (le_tells 1 w) (le_tells w 7))) (le_tells (base + size) address_end)

bit_tells : (w : ℕ) → Tells (bit_at w 0) (w % 2 ≡ 1)
bit_tells w = rw div-one (eq_tells (w % 2) 1)

if_tells : {a b : Bool} {P Q : Type 0} → Tells a P → Tells b Q → Tells (grants a b) (P → Q)
if_tells {a} {b} {P} {Q} f g = record { yes = λ h p. g.yes (sym (ap (λ (c : Bool). grants c b) (Tests.holds f p)) ∙ h); no = λ h k. go a refl h k }
  where
    go : (c : Bool) → a ≡ c → grants c b ≡ false → (P → Q) → ⊥
    go true e h k = g.no h (k (f.yes e))
    go false e h k = no_both {b = true} refl h

allows_tells : (r : Region) (d : ℤ) (w : ℕ) → Tells (allows r d w) (Granted r d w)
allows_tells r d w =
    and_tells
    (and_tells (if_tells (bit_tells w) (and_tells (not_tells (bit_tells r.attribute)) (true_tells (admitted r.vector.normal1 d)))) (if_tells (eq_tells (w / 2 % 2) 1) (true_tells (may_read r d))))
    (if_tells (eq_tells (w / 4 % 2) 1) (and_tells (eq_tells (r.attribute / 4 % 2) 1) (true_tells (admitted r.vector.normal2 d))))

holder_at : (rs : List Region) (a : ℕ) (r : Region) (h : At rs a r) → from_holder rs a ≡ r ∷ h.behind
unfolding from_holder
holder_at rs a r h = ap (λ (l : List Region). from_holder l a) h.split ∙ go h.before h.others
  where
    go : (l : List Region) → All (λ (x : Region). Holds a x → ⊥) l → from_holder (l ++ (r ∷ h.behind)) a ≡ r ∷ h.behind
    go [] k = ap (λ (b : Bool). cond b (r ∷ h.behind) (from_holder h.behind a)) (Tests.holds (holds_tells a r) h.here)
    go (x ∷ l) k = let m = l ++ (r ∷ h.behind) in ap (λ (b : Bool). cond b (x ∷ m) (from_holder m a)) (Tests.fails (holds_tells a x) k.0) ∙ go l k.1

holder_none : (rs : List Region) (a : ℕ) → All (λ (x : Region). Holds a x → ⊥) rs → from_holder rs a ≡ []
unfolding from_holder
holder_none [] a k = refl
holder_none (x ∷ rs) a k = ap (λ (b : Bool). cond b (x ∷ rs) (from_holder rs a)) (Tests.fails (holds_tells a x) k.0) ∙ holder_none rs a k.1

-- ---- the verdict on a table s, asked for a domain, an area and wishes; first hit wins
module _ (s : State) (d : ℤ) (base size w : ℕ) where
  -- "table not closed E_CTX"
  pub verdict_ctx : s.fixed.closed ≡ false → verdict s d base size w ≡ some e_ctx
  unfolding verdict
  verdict_ctx h = stops_at (true_tells s.fixed.closed) _ _ (λ k. no_both k h)

  module _ (c : s.fixed.closed ≡ true) where
    -- "domain not -1 and not 1 to n E_ID"
    pub verdict_id : (Asker s.fixed.count d → ⊥) → verdict s d base size w ≡ some e_id
    unfolding verdict
    verdict_id f = passes_on (true_tells s.fixed.closed) _ _ c ∙ stops_at (asker_tells s.fixed.count d) _ _ f

    module _ (k : Asker s.fixed.count d) where
      -- "size 0, unknown or no wish, base + size above 2^32 E_PAR"
      pub verdict_par : (Area base size w → ⊥) → verdict s d base size w ≡ some e_par
      unfolding verdict judge
      verdict_par f = passes_on (true_tells s.fixed.closed) _ _ c ∙ passes_on (asker_tells s.fixed.count d) _ _ k ∙ stops_at (area_tells base size w) _ _ f

      module _ (a : Area base size w) where
        by_holder : (l : List Region) → from_holder s.fixed.regions base ≡ l → verdict s d base size w ≡ judge_in l d base size w
        unfolding verdict judge
        by_holder l h =
            passes_on (true_tells s.fixed.closed) _ _ c
            ∙ passes_on (asker_tells s.fixed.count d) _ _ k
            ∙ passes_on (area_tells base size w) _ _ a
            ∙ ap (λ (x : List Region). judge_in x d base size w) h

        -- "no region holds the base E_NOEXS"
        pub verdict_noexs : All (λ (x : Region). Holds base x → ⊥) s.fixed.regions → verdict s d base size w ≡ some e_noexs
        verdict_noexs h = by_holder [] (holder_none s.fixed.regions base h)

        module _ (r : Region) (h : At s.fixed.regions base r) where
          by_chain : verdict s d base size w ≡ judge_in (r ∷ h.behind) d base size w
          by_chain = by_holder (r ∷ h.behind) (holder_at _ base r h)

          in_chain_lem : Tells (in_chain (r ∷ h.behind) (base + size)) (Reached r h.behind base size)
          in_chain_lem = chain_tells r h.behind base size h.here a.0.0

          -- "the area leaves that region E_OBJ", where regions that touch and are equal count as one
          pub verdict_obj : (Reached r h.behind base size → ⊥) → verdict s d base size w ≡ some e_obj
          verdict_obj f = by_chain ∙ stops_at in_chain_lem _ _ f

          module _ (u : Reached r h.behind base size) where
            -- "a wish denied E_MACV"
            pub verdict_macv : (Granted r d w → ⊥) → verdict s d base size w ≡ some e_macv
            verdict_macv f = by_chain ∙ passes_on in_chain_lem _ _ u ∙ stops_at (allows_tells r d w) _ _ f

            -- and nothing else is
            pub verdict_ok : Granted r d w → verdict s d base size w ≡ none
            verdict_ok g = by_chain ∙ passes_on in_chain_lem _ _ u ∙ passes_on (allows_tells r d w) _ _ g

            -- "No-write denies writing to every domain, the kernel's too, and its normal operation 1 pattern is unused"
            pub no_write_denies_all : NoWrite r → Writes w → verdict s d base size w ≡ some e_macv
            no_write_denies_all n v = verdict_macv (λ g. (g.0.0 v).0 n)

-- ---- E_OK only where the chain of the region that holds the base holds the whole area, and grants each wish
pub record Permitted (s : State) (d : ℤ) (base size w : ℕ) : Type 0 where
  pub closed : s.fixed.closed ≡ true
  pub asker : Asker s.fixed.count d
  pub area : Area base size w
  pub region : Region
  pub at : At s.fixed.regions base region
  pub reached : Reached region at.behind base size
  pub granted : Granted region d w

holder_is : (rs : List Region) (a : ℕ) (r : Region) (l : List Region) → from_holder rs a ≡ r ∷ l → (h : At rs a r) × (h.behind ≡ l)
unfolding from_holder
holder_is [] a r l h = absurd (let z : ◌≡◌ {A = ℕ} 0 1 = cc in omega arith)
holder_is (x ∷ rs) a r l h = go (holds a x) refl (holder_is rs a r l) h
  where
    go : (b : Bool) → holds a x ≡ b → (from_holder rs a ≡ r ∷ l → (h : At rs a r) × (h.behind ≡ l)) → cond b (x ∷ rs) (from_holder rs a) ≡ r ∷ l → (h : At (x ∷ rs) a r) × (h.behind ≡ l)
    go true e f k =
        let q : x ≡ r = cc in
        (record { before = []; behind = rs; split = ap (λ (y : Region). y ∷ rs) q; others = tt; here = subst (λ (y : Region). Holds a y) q ((holds_tells a x).yes e) }, cc)
    go false e f k =
        let i = (f k).0 in
        (record { before = x ∷ i.before; behind = i.behind; split = ap (λ (m : List Region). x ∷ m) i.split; others = ((holds_tells a x).no e, i.others); here = i.here }, (f k).1)

pub ok_only : (s : State) (d : ℤ) (base size w : ℕ) → verdict s d base size w ≡ none → Permitted s d base size w
unfolding verdict judge
ok_only s d base size w h = go (from_holder s.fixed.regions base) refl h₃.1
  where
    h₁ : (s.fixed.closed ≡ true) × (refuse_if (not (owns_task s.fixed.count d)) e_id (judge s.fixed.regions d base size w) ≡ none)
    h₁ = passed_by (true_tells s.fixed.closed) _ _ h

    h₂ : Asker s.fixed.count d × (judge s.fixed.regions d base size w ≡ none)
    h₂ = passed_by (asker_tells s.fixed.count d) _ _ h₁.1

    h₃ : Area base size w × (judge_in (from_holder s.fixed.regions base) d base size w ≡ none)
    h₃ = passed_by (area_tells base size w) _ _ h₂.1

    go : (l : List Region) → from_holder s.fixed.regions base ≡ l → judge_in l d base size w ≡ none → Permitted s d base size w
    go [] e k = absurd (let z : ◌≡◌ {A = ℕ} 0 1 = cc in omega arith)
    go (r ∷ l) e k =
        let i = holder_is s.fixed.regions base r l e in
        let p = passed_by (chain_tells r l base size i.0.here h₃.0.0.0) e_obj _ k in
        let g = passed_by (allows_tells r d w) e_macv none p.1 in
        record { closed = h₁.0; asker = h₂.0; area = h₃.0; region = r; at = i.0; reached = subst (λ (m : List Region). Reached r m base size) (sym i.1) p.0; granted = g.0 }

-- each address of such an area is in a region that grants each wish: the regions of a chain grant alike
abbrev pub GrantedAt : List Region → ℤ → ℕ → ℕ → Type 0
GrantedAt [] d w a = ⊥
GrantedAt (r ∷ rs) d w a = (Holds a r × Granted r d w) ⊎ GrantedAt rs d w a

joined_grants : (r x : Region) (d : ℤ) (w : ℕ) → Joined r x → Granted r d w → Granted x d w
joined_grants r x d w j g = subst (λ (y : Region). Granted y d w) (λ i. record { domain = j.domain i; attribute = j.attribute i; base = r.base; size = r.size; vector = j.vector i }) g

chain_grants : (r : Region) (l m : List Region) (d : ℤ) (w a : ℕ) → Chain (r ∷ l) → Granted r d w → InUnion a (r ∷ l) → GrantedAt (r ∷ (l ++ m)) d w a
chain_grants r [] m d w a c g (inl h) = inl (h, g)
chain_grants r [] m d w a c g (inr h) = absurd h
chain_grants r (x ∷ l) m d w a c g (inl h) = inl (h, g)
chain_grants r (x ∷ l) m d w a c g (inr h) = inr (chain_grants x l m d w a c.1 (joined_grants r x d w c.0 g) h)

granted_behind : (l m : List Region) (d : ℤ) (w a : ℕ) → GrantedAt m d w a → GrantedAt (l ++ m) d w a
granted_behind [] m d w a h = h
granted_behind (x ∷ l) m d w a h = inr (granted_behind l m d w a h)

pub ok_everywhere : (s : State) (d : ℤ) (base size w : ℕ) → verdict s d base size w ≡ none → (a : ℕ) → base ≤ a → a < base + size → GrantedAt s.fixed.regions d w a
ok_everywhere s d base size w h a l k =
    let p = ok_only s d base size w h in
    let u = p.reached in
    let g = chain_grants p.region u.joined u.rest d w a u.chain p.granted (u.union a l k) in
    let e : s.fixed.regions ≡ p.at.before ++ (p.region ∷ (u.joined ++ u.rest)) = p.at.split ∙ ap (λ (m : List Region). p.at.before ++ (p.region ∷ m)) u.split in
    subst (λ (m : List Region). GrantedAt m d w a) (sym e) (granted_behind p.at.before (p.region ∷ (u.joined ++ u.rest)) d w a g)

-- "The unit restricts entries, not the verdict's area": a table with another unit and the same regions has the same verdicts
abbrev with_unit : State → ℕ → State
with_unit s u = set_fixed s (set_unit s.fixed u)

pub any_unit : (s : State) (u : ℕ) (d : ℤ) (base size w : ℕ) → verdict (with_unit s u) d base size w ≡ verdict s d base size w
unfolding verdict
any_unit s u d base size w = refl

-- nor the levels: "The verdict asks with level 0" (request T-03)
pub any_levels : (s : State) (ls : List ℕ) (d : ℤ) (base size w : ℕ) → verdict (set_levels s ls) d base size w ≡ verdict s d base size w
unfolding verdict
any_levels s ls d base size w = refl
