-- Wait queues in either order, first come or by priority: the laws of both, once (request T-10). Assumes nothing.
use mathlib.Core.Path.{◌≡◌, refl, sym, ap, ◌∙◌, subst}
use mathlib.Core.Logic.{inl, inr}
use mathlib.Core.Bool.{Bool, true, false, cond}
use mathlib.Core.List.{List, [], ◌∷◌, ◌++◌, map}
use Prim.Native.Nat.{ℕ, suc, ◌≤◌, ◌<◌}
use native.Mathlib.Omega.{arith}
use lib.ListN.{length}
use lib.Dec.{eqb, leb}
use borrow.Author.Tests.{leb-true, leb-false}
use Rattle.model.specs.Lists.{at, keep, cons_if, insert, arrange, All, Some}
use Rattle.model.specs.State.{TaskEntry, Waiter, no_task}
use Rattle.model.specs.Waits.{is_other, absent, leave, standing}
use Rattle.model.specs.QueueClaims.{Rising}
use Rattle.model.proofs.Lists.{eq_of, cons_ne, and_left, and_right, both, all_keep, all_weaker, is_other_sym, keep_head, Distinct}
use Rattle.model.proofs.Tests.{holds, fails, le_tells}

module _ {A : Type 0} (rank : A → ℕ) where
  -- the lowest rank first
  abbrev pub Ranked : List A → Type 0
  Ranked [] = Unit
  Ranked (x ∷ l) = All (λ (y : A). rank x ≤ rank y) l × Ranked l

  -- ---- an element put in
  all_insert : (P : A → Type 0) (x : A) (l : List A) → P x → All P l → All P (insert rank x l)
  all_insert P x [] h k = (h, tt)
  all_insert P x (y ∷ l) h k = go (leb (rank x) (rank y)) (all_insert P x l h k.1)
    where
      go : (b : Bool) → All P (insert rank x l) → All P (cond b (x ∷ (y ∷ l)) (y ∷ insert rank x l))
      go true r = (h, k)
      go false r = (k.0, r)

  some_insert : (P : A → Type 0) (x : A) (l : List A) → Some P (insert rank x l) → Some P (x ∷ l)
  some_insert P x [] h = h
  some_insert P x (y ∷ l) h = go (leb (rank x) (rank y)) (some_insert P x l) h
    where
      behind : Some P (x ∷ l) → Some P (x ∷ (y ∷ l))
      behind (inl z) = inl z
      behind (inr z) = inr (inr z)

      go : (b : Bool) → (Some P (insert rank x l) → Some P (x ∷ l)) → Some P (cond b (x ∷ (y ∷ l)) (y ∷ insert rank x l)) → Some P (x ∷ (y ∷ l))
      go true ih k = k
      go false ih (inl z) = inr (inl z)
      go false ih (inr z) = behind (ih z)

  length_insert : (x : A) (l : List A) → length (insert rank x l) ≡ suc (length l)
  length_insert x [] = refl
  length_insert x (y ∷ l) = go (leb (rank x) (rank y)) (length_insert x l)
    where
      go : (b : Bool) → length (insert rank x l) ≡ suc (length l) → length (cond b (x ∷ (y ∷ l)) (y ∷ insert rank x l)) ≡ suc (suc (length l))
      go true e = refl
      go false e = ap suc e

  -- what ranks no lower than m, where m is no lower than n
  all_above : (m n : ℕ) (l : List A) → m ≤ n → All (λ (y : A). n ≤ rank y) l → All (λ (y : A). m ≤ rank y) l
  all_above m n l h k = all_weaker (λ (y : A). n ≤ rank y) (λ (y : A). m ≤ rank y) (λ y z. omega (arith, h, z)) l k

  ranked_insert : (x : A) (l : List A) → Ranked l → Ranked (insert rank x l)
  ranked_insert x [] o = (tt, tt)
  ranked_insert x (y ∷ l) o = go (leb (rank x) (rank y)) refl (ranked_insert x l o.1)
    where
      go : (b : Bool) → leb (rank x) (rank y) ≡ b → Ranked (insert rank x l) → Ranked (cond b (x ∷ (y ∷ l)) (y ∷ insert rank x l))
      go true e r = let z = leb-true (rank x) (rank y) e in ((z, all_above (rank x) (rank y) l z o.0), o)
      go false e r = (all_insert (λ (z : A). rank y ≤ rank z) x l (omega (arith, leb-false (rank x) (rank y) e)) o.0, r)

  -- ahead of those that rank no lower
  insert_front : (x : A) (l : List A) → All (λ (y : A). rank x ≤ rank y) l → insert rank x l ≡ x ∷ l
  insert_front x [] k = refl
  insert_front x (y ∷ l) k = ap (λ (b : Bool). cond b (x ∷ (y ∷ l)) (y ∷ insert rank x l)) (holds (le_tells (rank x) (rank y)) k.0)

  abbrev insert_if : Bool → A → List A → List A
  insert_if b x l = cond b (insert rank x l) l

  keep_insert : (p : A → Bool) (x : A) (l : List A) → Ranked l → keep p (insert rank x l) ≡ insert_if (p x) x (keep p l)
  keep_insert p x [] o = go (p x)
    where
      go : (b : Bool) → cons_if b x [] ≡ insert_if b x []
      go true = refl
      go false = refl
  keep_insert p x (y ∷ l) o = go (leb (rank x) (rank y)) (p x) (p y) refl refl refl (keep_insert p x l o.1)
    where
      go : (c b d : Bool) → leb (rank x) (rank y) ≡ c → p x ≡ b → p y ≡ d → keep p (insert rank x l) ≡ insert_if (p x) x (keep p l)
          → keep p (cond c (x ∷ (y ∷ l)) (y ∷ insert rank x l)) ≡ insert_if b x (cons_if d y (keep p l))
      go true true true e g f ih = rw (g, f, e) refl
      go true true false e g f ih = rw (g, f) (sym (insert_front x (keep p l) (all_keep _ p l (all_above (rank x) (rank y) l (leb-true (rank x) (rank y) e) o.0))))
      go true false d e g f ih = rw (g, f) refl
      go false true true e g f ih = rw (f, e) (ap (λ (z : List A). y ∷ z) (rw g at ih))
      go false true false e g f ih = rw f (rw g at ih)
      go false false true e g f ih = rw f (ap (λ (z : List A). y ∷ z) (rw g at ih))
      go false false false e g f ih = rw f (rw g at ih)

  -- ---- a list arranged
  pub ranked_arrange : (l : List A) → Ranked (arrange rank l)
  ranked_arrange [] = tt
  ranked_arrange (x ∷ l) = ranked_insert x (arrange rank l) (ranked_arrange l)

  all_arrange : (P : A → Type 0) (l : List A) → All P l → All P (arrange rank l)
  all_arrange P [] h = tt
  all_arrange P (x ∷ l) h = all_insert P x (arrange rank l) h.0 (all_arrange P l h.1)

  all_arranged : (P : A → Type 0) (l : List A) → All P (arrange rank l) → All P l
  all_arranged P [] h = tt
  all_arranged P (x ∷ l) h = let k = put_in x (arrange rank l) h in (k.0, all_arranged P l k.1)
    where
      put_in : (x : A) (l : List A) → All P (insert rank x l) → P x × All P l
      put_in x [] h = h
      put_in x (y ∷ l) h = go (leb (rank x) (rank y)) h (put_in x l)
        where
          go : (b : Bool) → All P (cond b (x ∷ (y ∷ l)) (y ∷ insert rank x l)) → (All P (insert rank x l) → P x × All P l) → P x × All P (y ∷ l)
          go true k i = k
          go false k i = let r = i k.1 in (r.0, (k.0, r.1))

  some_arrange : (P : A → Type 0) (l : List A) → Some P (arrange rank l) → Some P l
  some_arrange P [] h = h
  some_arrange P (x ∷ l) h = go (some_arrange P l) (some_insert P x (arrange rank l) h)
    where
      go : (Some P (arrange rank l) → Some P l) → Some P (x ∷ arrange rank l) → Some P (x ∷ l)
      go ih (inl z) = inl z
      go ih (inr z) = inr (ih z)

  length_arrange : (l : List A) → length (arrange rank l) ≡ length l
  length_arrange [] = refl
  length_arrange (x ∷ l) = length_insert x (arrange rank l) ∙ ap suc (length_arrange l)

  -- choosing and arranging, whichever is first
  keep_arrange : (p : A → Bool) (l : List A) → keep p (arrange rank l) ≡ arrange rank (keep p l)
  keep_arrange p [] = refl
  keep_arrange p (x ∷ l) = keep_insert p x (arrange rank l) (ranked_arrange l) ∙ go (p x) (keep_arrange p l)
    where
      go : (b : Bool) → keep p (arrange rank l) ≡ arrange rank (keep p l) → insert_if b x (keep p (arrange rank l)) ≡ arrange rank (cons_if b x (keep p l))
      go true e = ap (insert rank x) e
      go false e = e

  -- elements of one rank stand in their order
  equals_stay : (k : ℕ) (l : List A) → All (λ (x : A). rank x ≡ k) l → arrange rank l ≡ l
  equals_stay k [] h = refl
  equals_stay k (x ∷ l) h =
      ap (insert rank x) (equals_stay k l h.1)
      ∙ insert_front x l (all_weaker (λ (y : A). rank y ≡ k) (λ (y : A). rank x ≤ rank y) (λ y z. omega (arith, z, h.0)) l h.1)

  kept_rank : (k : ℕ) (l : List A) → All (λ (x : A). rank x ≡ k) (keep (λ (x : A). eqb k (rank x)) l)
  kept_rank k [] = tt
  kept_rank k (x ∷ l) = go (eqb k (rank x)) refl (kept_rank k l)
    where
      go : (b : Bool) → eqb k (rank x) ≡ b → All (λ (y : A). rank y ≡ k) (keep (λ (y : A). eqb k (rank y)) l) → All (λ (y : A). rank y ≡ k) (cons_if b x (keep (λ (y : A). eqb k (rank y)) l))
      go true e r = (sym (eq_of k (rank x) e), r)
      go false e r = r

  pub in_line_lem : (k : ℕ) (l : List A) → keep (λ (x : A). eqb k (rank x)) (arrange rank l) ≡ keep (λ (x : A). eqb k (rank x)) l
  in_line_lem k l = keep_arrange (λ (x : A). eqb k (rank x)) l ∙ equals_stay k (keep (λ (x : A). eqb k (rank x)) l) (kept_rank k l)

  -- first is who ranks lower than all before it in the list and no higher than all behind it
  pub heads : (l m : List A) (x : A) → All (λ (y : A). rank x < rank y) l → All (λ (y : A). rank x ≤ rank y) m → (r : List A) × (arrange rank (l ++ (x ∷ m)) ≡ x ∷ r)
  heads [] m x h k = (arrange rank m, insert_front x (arrange rank m) (all_arrange (λ (y : A). rank x ≤ rank y) m k))
  heads (y ∷ l) m x h k =
      let i = heads l m x h.1 k in
      (insert rank y i.0, ap (insert rank y) i.1 ∙ ap (λ (b : Bool). cond b (y ∷ (x ∷ i.0)) (x ∷ insert rank y i.0)) (fails (le_tells (rank y) (rank x)) (λ z. omega (arith, z, h.0))))

  -- in ranks that do not fall
  rises : (l : List A) → Ranked l → Rising (map rank l)
  rises [] o = tt
  rises (x ∷ l) o = (each l o.0, rises l o.1)
    where
      each : (l : List A) → All (λ (y : A). rank x ≤ rank y) l → All (λ (n : ℕ). rank x ≤ n) (map rank l)
      each [] h = tt
      each (y ∷ l) h = (h.0, each l h.1)

  rises_arranged : (l : List A) → Rising (map rank (arrange rank l))
  rises_arranged l = rises (arrange rank l) (ranked_arrange l)

-- ---- each task once
module _ (rank : Waiter → ℕ) where
  absent_arrange : (t : ℕ) (l : List Waiter) → absent t l ≡ true → absent t (arrange rank l) ≡ true
  absent_arrange t l h = of_all (arrange rank l) (all_arrange rank (λ (e : Waiter). is_other t e ≡ true) l (to_all l h))
    where
      to_all : (l : List Waiter) → absent t l ≡ true → All (λ (e : Waiter). is_other t e ≡ true) l
      to_all [] h = tt
      to_all (e ∷ l) h = (and_left (is_other t e) (absent t l) h, to_all l (and_right (is_other t e) (absent t l) h))

      of_all : (l : List Waiter) → All (λ (e : Waiter). is_other t e ≡ true) l → absent t l ≡ true
      of_all [] h = refl
      of_all (e ∷ l) h = both h.0 (of_all l h.1)

  absent_insert : (t : ℕ) (x : Waiter) (l : List Waiter) → is_other t x ≡ true → absent t l ≡ true → absent t (insert rank x l) ≡ true
  absent_insert t x [] h k = both h refl
  absent_insert t x (y ∷ l) h k = go (leb (rank x) (rank y)) (absent_insert t x l h (and_right (is_other t y) (absent t l) k))
    where
      go : (b : Bool) → absent t (insert rank x l) ≡ true → absent t (cond b (x ∷ (y ∷ l)) (y ∷ insert rank x l)) ≡ true
      go true r = both h k
      go false r = both (and_left (is_other t y) (absent t l) k) r

  distinct_insert : (x : Waiter) (l : List Waiter) → absent x.task l ≡ true → Distinct l → Distinct (insert rank x l)
  distinct_insert x [] h d = (refl, tt)
  distinct_insert x (y ∷ l) h d = go (leb (rank x) (rank y)) (distinct_insert x l (and_right (is_other x.task y) (absent x.task l) h) d.1)
    where
      go : (b : Bool) → Distinct (insert rank x l) → Distinct (cond b (x ∷ (y ∷ l)) (y ∷ insert rank x l))
      go true r = (h, d)
      go false r = (absent_insert y.task x l (is_other_sym y x ∙ and_left (is_other x.task y) (absent x.task l) h) d.0, r)

  distinct_arrange : (l : List Waiter) → Distinct l → Distinct (arrange rank l)
  distinct_arrange [] d = tt
  distinct_arrange (x ∷ l) d = distinct_insert x (arrange rank l) (absent_arrange x.task l d.0) (distinct_arrange l d.1)

-- ---- a wait queue, in either order
abbrev pub priority_in : List TaskEntry → Waiter → ℕ
priority_in ts e = (at no_task ts e.task).priority

-- the line in which a waiter stands
abbrev pub line_in : Bool → List TaskEntry → Waiter → ℕ
line_in b ts e = cond b (priority_in ts e) 0

-- choosing and standing, whichever is first
standing_keep : (b : Bool) (ts : List TaskEntry) (p : Waiter → Bool) (l : List Waiter) → keep p (standing b ts l) ≡ standing b ts (keep p l)
standing_keep true ts p l = keep_arrange (priority_in ts) p l
standing_keep false ts p l = refl

-- in one line as they came
pub standing_line : (b : Bool) (ts : List TaskEntry) (k : ℕ) (l : List Waiter) → keep (λ (e : Waiter). eqb k (line_in b ts e)) (standing b ts l) ≡ keep (λ (e : Waiter). eqb k (line_in b ts e)) l
standing_line true ts k l = in_line_lem (priority_in ts) k l
standing_line false ts k l = refl

-- the more urgent line first
pub standing_rises : (b : Bool) (ts : List TaskEntry) (l : List Waiter) → Rising (map (line_in b ts) (standing b ts l))
standing_rises true ts l = rises_arranged (priority_in ts) l
standing_rises false ts [] = tt
standing_rises false ts (x ∷ l) = (zeros l, standing_rises false ts l)
  where
    zeros : (l : List Waiter) → All (λ (n : ℕ). 0 ≤ n) (map (line_in false ts) l)
    zeros [] = tt
    zeros (y ∷ l) = (omega arith, zeros l)

pub standing_all : (b : Bool) (ts : List TaskEntry) (P : Waiter → Type 0) (l : List Waiter) → All P l → All P (standing b ts l)
standing_all true ts P l h = all_arrange (priority_in ts) P l h
standing_all false ts P l h = h

-- who stands first is in the most urgent line
pub standing_least : (b : Bool) (ts : List TaskEntry) (l : List Waiter) {e : Waiter} {r : List Waiter} → standing b ts l ≡ e ∷ r → All (λ (y : Waiter). line_in b ts e ≤ line_in b ts y) l
standing_least true ts l {e} {r} h = all_arranged (priority_in ts) (λ (y : Waiter). priority_in ts e ≤ priority_in ts y) l
    (subst (All (λ (y : Waiter). priority_in ts e ≤ priority_in ts y)) (sym h) (omega arith, (subst (Ranked (priority_in ts)) h (ranked_arrange (priority_in ts) l)).0))
standing_least false ts l h = everywhere l
  where
    everywhere : (m : List Waiter) → All (λ (y : Waiter). 0 ≤ 0) m
    everywhere [] = tt
    everywhere (y ∷ m) = (omega arith, everywhere m)

-- nobody is left out, and who stands there came
pub standing_none : (b : Bool) (ts : List TaskEntry) (l : List Waiter) → standing b ts l ≡ [] → l ≡ []
standing_none true ts l h = nobody l (sym (length_arrange (priority_in ts) l) ∙ ap length h)
  where
    nobody : (l : List Waiter) → length l ≡ 0 → l ≡ []
    nobody [] e = refl
    nobody (x ∷ l) e = absurd (omega (arith, e))
standing_none false ts l h = h

pub standing_nobody : (b : Bool) (ts : List TaskEntry) → standing b ts [] ≡ []
standing_nobody true ts = refl
standing_nobody false ts = refl

standing_some : (b : Bool) (ts : List TaskEntry) (P : Waiter → Type 0) (l : List Waiter) → Some P (standing b ts l) → Some P l
standing_some true ts P l h = some_arrange (priority_in ts) P l h
standing_some false ts P l h = h

pub standing_distinct : (b : Bool) (ts : List TaskEntry) (l : List Waiter) → Distinct l → Distinct (standing b ts l)
standing_distinct true ts l d = distinct_arrange (priority_in ts) l d
standing_distinct false ts l d = d

-- the first leaves, and the others stand as they stood
pub standing_leaves : (b : Bool) (ts : List TaskEntry) (l : List Waiter) {e : Waiter} {r : List Waiter} → Distinct l → standing b ts l ≡ e ∷ r → standing b ts (leave e.task l) ≡ r
standing_leaves b ts l {e} {r} d h =
    sym (standing_keep b ts (is_other e.task) l) ∙ ap (keep (is_other e.task)) h ∙ keep_head e r (subst Distinct h (standing_distinct b ts l d))

-- who stands first came, so somebody did
pub standing_came : (b : Bool) (ts : List TaskEntry) (l : List Waiter) {e : Waiter} {r : List Waiter} → standing b ts l ≡ e ∷ r → Some (λ (x : Waiter). x ≡ e) l
standing_came b ts l {e} {r} h = standing_some b ts (λ (x : Waiter). x ≡ e) l (subst (Some (λ (x : Waiter). x ≡ e)) (sym h) (inl refl))

pub standing_first : (b : Bool) (ts : List TaskEntry) (l : List Waiter) {e : Waiter} {r : List Waiter} → standing b ts l ≡ e ∷ r → l ≡ [] → ⊥
standing_first b ts l h z = cons_ne h (ap (standing b ts) z ∙ standing_nobody b ts)

-- ahead of all is who is more urgent than all who came before it and no less urgent than all who came behind it; where all stand as they came, nobody came before it
pub standing_heads : (b : Bool) (ts : List TaskEntry) (l m : List Waiter) (e : Waiter) → All (λ (y : Waiter). line_in b ts e < line_in b ts y) l → All (λ (y : Waiter). line_in b ts e ≤ line_in b ts y) m
    → (r : List Waiter) × (standing b ts (l ++ (e ∷ m)) ≡ e ∷ r)
standing_heads true ts l m e h k = heads (priority_in ts) l m e h k
standing_heads false ts [] m e h k = (m, refl)
standing_heads false ts (y ∷ l) m e h k = absurd (omega (arith, h.0))
