-- Laws of the list functions, once for all. Assumes nothing.
use mathlib.Core.Path.{◌≡◌, refl, sym, ap, ◌∙◌, subst}
use mathlib.Core.Logic.{◌≢◌, inl, inr}
use mathlib.Core.Bool.{Bool, true, false, not, ◌&&◌, ◌||◌}
use mathlib.Core.List.{List, [], ◌∷◌, ◌++◌, map, head-eq_of_cons-eq, tail-eq_of_cons-eq}
use Prim.Native.Nat.{ℕ, zero, suc, ◌+◌, ◌-◌, ◌≤◌, ◌<◌}
use native.Mathlib.Omega.{arith}
use lib.ListN.{length, get_or, set, take, drop, length-set}
use lib.Seq.{get_or-set_same, get_or-set_other}
use lib.Dec.{eqb, T, eqb→eq, eqb_refl}
pub use Rattle.model.specs.Conditions.{Distinct}
use Rattle.model.specs.Lists.{at, put, cons_if, keep, All, Some}
use Rattle.model.specs.State.{Waiter}
use Rattle.model.specs.Waits.{is_other, absent}

-- ---- tests
pub eq_of : (m n : ℕ) → eqb m n ≡ true → m ≡ n
eq_of m n h = eqb→eq m n (rw h tt)

pub eqb_same : (n : ℕ) → eqb n n ≡ true
eqb_same n = go (eqb n n) (eqb_refl n)
  where
    go : (b : Bool) → T b → b ≡ true
    go true h = refl
    go false h = absurd h

pub no_both : {b : Bool} → b ≡ true → b ≡ false → ⊥
no_both p q = subst (λ (b : Bool). T b) (sym p ∙ q) tt

pub ne_of : (m n : ℕ) → eqb m n ≡ false → m ≢ n
ne_of m n h e = no_both (eqb_same n) (rw e at h)

pub eqb_no : (m n : ℕ) → m ≢ n → eqb m n ≡ false
eqb_no m n h = go (eqb m n) refl
  where
    go : (b : Bool) → eqb m n ≡ b → b ≡ false
    go true e = absurd (h (eq_of m n e))
    go false e = refl

pub eqb_sym : (m n : ℕ) → eqb m n ≡ eqb n m
eqb_sym m n = go (eqb m n) refl
  where
    go : (b : Bool) → eqb m n ≡ b → b ≡ eqb n m
    go true e = rw (eq_of m n e) (sym (eqb_same n))
    go false e = sym (eqb_no n m (λ p. ne_of m n e (sym p)))

pub and_left : (a b : Bool) → a && b ≡ true → a ≡ true
and_left true b h = refl
and_left false b h = h

pub and_right : (a b : Bool) → a && b ≡ true → b ≡ true
and_right true b h = h
and_right false b h = absurd (no_both h refl)

pub both : {a b : Bool} → a ≡ true → b ≡ true → a && b ≡ true
both {a} {b} p q = rw (p, q) refl

-- ---- a list with an element is not empty
pub cons_ne : {A : Type 0} {x : A} {l m : List A} → m ≡ x ∷ l → m ≡ [] → ⊥
cons_ne p q = let z : ◌≡◌ {A = ℕ} 0 1 = cc in omega arith

-- ---- numbered lists
module _ {A : Type 0} where
  -- a number past the list, and one within it by its index
  get_d_past : (d : A) (l : List A) (i : ℕ) → length l ≤ i → get_or l i d ≡ d
  get_d_past d [] i h = refl
  get_d_past d (x ∷ l) zero h = absurd (omega arith)
  get_d_past d (x ∷ l) (suc i) h = get_d_past d l i (omega arith)

  pub at_past : (d : A) (l : List A) (n : ℕ) → length l < n → d ≡ at d l n
  at_past d l zero h = refl
  at_past d l (suc i) h = sym (get_d_past d l i (omega arith))

  pub at_zero : (d : A) (l : List A) (n : ℕ) → n ≡ 0 → d ≡ at d l n
  at_zero d l n h = ap (λ (k : ℕ). at d l k) (sym h)

  pub at_index : (d : A) (l : List A) (n : ℕ) → n ≢ 0 → get_or l (n - 1) d ≡ at d l n
  at_index d l zero h = absurd (h refl)
  at_index d l (suc i) h = let e : suc i - 1 ≡ i = omega arith in ap (λ (k : ℕ). get_or l k d) e

  pub at_put_same : (d : A) (l : List A) (i : ℕ) (x : A) → i ≢ 0 → i ≤ length l → at d (put l i x) i ≡ x
  at_put_same d l zero x h k = absurd (h refl)
  at_put_same d l (suc i) x h k = get_or-set_same l i x d k

  pub at_put_other : (d : A) (l : List A) (i j : ℕ) (x : A) → j ≢ i → at d (put l i x) j ≡ at d l j
  at_put_other d l zero j x h = refl
  at_put_other d l (suc i) zero x h = refl
  at_put_other d l (suc i) (suc j) x h = get_or-set_other l i j x d (λ e. h (ap suc e))

  -- a field that the new element has from the old one stays, everywhere
  get_d_set_keep : {B : Type 0} (f : A → B) (d : A) (l : List A) (i j : ℕ) (x : A) → f x ≡ f (get_or l i d) → f (get_or (set l i x) j d) ≡ f (get_or l j d)
  get_d_set_keep f d [] i j x h = refl
  get_d_set_keep f d (y ∷ l) zero zero x h = h
  get_d_set_keep f d (y ∷ l) zero (suc j) x h = refl
  get_d_set_keep f d (y ∷ l) (suc i) zero x h = refl
  get_d_set_keep f d (y ∷ l) (suc i) (suc j) x h = get_d_set_keep f d l i j x h

  pub at_put_keep : {B : Type 0} (f : A → B) (d : A) (l : List A) (i j : ℕ) (x : A) → f x ≡ f (at d l i) → f (at d (put l i x) j) ≡ f (at d l j)
  at_put_keep f d l zero j x h = refl
  at_put_keep f d l (suc i) zero x h = refl
  at_put_keep f d l (suc i) (suc j) x h = get_d_set_keep f d l i j x h

-- ---- keep
module _ {A : Type 0} where
  pub length_put : (l : List A) (n : ℕ) (x : A) → length (put l n x) ≡ length l
  length_put l zero x = refl
  length_put l (suc n) x = length-set l n x

  pub cons_if_append : (b : Bool) (x : A) (l m : List A) → cons_if b x l ++ m ≡ cons_if b x (l ++ m)
  cons_if_append true x l m = refl
  cons_if_append false x l m = refl

  pub keep_append : (p : A → Bool) (l m : List A) → keep p (l ++ m) ≡ keep p l ++ keep p m
  keep_append p [] m = refl
  keep_append p (x ∷ l) m = ap (cons_if (p x) x) (keep_append p l m) ∙ sym (cons_if_append (p x) x (keep p l) (keep p m))

  pub keep_comm : (p r : A → Bool) (l : List A) → keep p (keep r l) ≡ keep r (keep p l)
  keep_comm p r [] = refl
  keep_comm p r (x ∷ l) = go (p x) (r x) refl refl (keep_comm p r l)
    where
      go : (b c : Bool) → p x ≡ b → r x ≡ c → keep p (keep r l) ≡ keep r (keep p l) → keep p (cons_if c x (keep r l)) ≡ keep r (cons_if b x (keep p l))
      go true true hb hc e = rw (hb, hc) (ap (λ (m : List A). x ∷ m) e)
      go true false hb hc e = rw hc e
      go false true hb hc e = rw hb e
      go false false hb hc e = e

  -- what passes neither test
  -- what passes p passes r too, so r leaves it
  pub keep_within : (p r : A → Bool) → ((x : A) → p x ≡ true → r x ≡ true) → (l : List A) → keep p (keep r l) ≡ keep p l
  keep_within p r f [] = refl
  keep_within p r f (x ∷ l) = go (p x) (r x) refl refl (keep_within p r f l)
    where
      go : (b c : Bool) → p x ≡ b → r x ≡ c → keep p (keep r l) ≡ keep p l → keep p (cons_if c x (keep r l)) ≡ cons_if b x (keep p l)
      go true true h k i = rw h (ap (λ (m : List A). x ∷ m) i)
      go true false h k i = absurd (no_both (f x h) k)
      go false true h k i = rw h i
      go false false h k i = i

  pub keep_neither : (p r : A → Bool) (l : List A) → keep (λ x. not (p x)) (keep (λ x. not (r x)) l) ≡ keep (λ x. not (r x || p x)) l
  keep_neither p r [] = refl
  keep_neither p r (x ∷ l) = go (r x) (keep_neither p r l)
    where
      go : (b : Bool) → keep (λ y. not (p y)) (keep (λ y. not (r y)) l) ≡ keep (λ y. not (r y || p y)) l
          → keep (λ y. not (p y)) (cons_if (not b) x (keep (λ y. not (r y)) l)) ≡ cons_if (not (b || p x)) x (keep (λ y. not (r y || p y)) l)
      go true e = e
      go false e = ap (cons_if (not (p x)) x) e

  -- where as many pass as there are, all do, and none of what does not
  pub keep_length : (p : A → Bool) (l : List A) → length (keep p l) ≤ length l
  keep_length p [] = omega arith
  keep_length p (x ∷ l) = go (p x) (keep_length p l)
    where
      go : (b : Bool) → length (keep p l) ≤ length l → length (cons_if b x (keep p l)) ≤ suc (length l)
      go true h = omega arith
      go false h = omega arith

  pub keep_whole : (p : A → Bool) (l : List A) → length (keep p l) ≡ length l → keep p l ≡ l
  keep_whole p [] h = refl
  keep_whole p (x ∷ l) h = go (p x) h (keep_whole p l)
    where
      go : (b : Bool) → length (cons_if b x (keep p l)) ≡ suc (length l) → (length (keep p l) ≡ length l → keep p l ≡ l) → cons_if b x (keep p l) ≡ x ∷ l
      go true e ih = ap (λ (m : List A). x ∷ m) (ih (omega (arith, e)))
      go false e ih = absurd (omega (arith, e, keep_length p l))

-- ---- append and map
pub append_cancel : {A : Type 0} (l : List A) {a b : List A} → l ++ a ≡ l ++ b → a ≡ b
append_cancel [] e = e
append_cancel (x ∷ l) e = append_cancel l (tail-eq_of_cons-eq e)

pub map_append : {A B : Type 0} (f : A → B) (l m : List A) → map f (l ++ m) ≡ map f l ++ map f m
map_append f [] m = refl
map_append f (x ∷ l) m = ap (λ k. f x ∷ k) (map_append f l m)

pub map_keep : {A B : Type 0} (f : A → B) (p : B → Bool) (l : List A) → map f (keep (λ x. p (f x)) l) ≡ keep p (map f l)
map_keep f p [] = refl
map_keep f p (x ∷ l) = go (p (f x)) (map_keep f p l)
  where
    go : (b : Bool) → map f (keep (λ y. p (f y)) l) ≡ keep p (map f l) → map f (cons_if b x (keep (λ y. p (f y)) l)) ≡ cons_if b (f x) (keep p (map f l))
    go true e = ap (λ k. f x ∷ k) e
    go false e = e

-- a list that is the map of another, in two parts
pub map_parts : {A B : Type 0} (f : A → B) (a b : List B) (l : List A) → a ++ b ≡ map f l → (a ≡ map f (take (length a) l)) × (b ≡ map f (drop (length a) l))
map_parts f [] b l h = (refl, h)
map_parts f (y ∷ a) b [] h = absurd (cons_ne refl h)
map_parts f (y ∷ a) b (x ∷ l) h =
    let k = map_parts f a b l (tail-eq_of_cons-eq h) in
    (λ i. head-eq_of_cons-eq h i ∷ k.0 i, k.1)

-- ---- claims about every element
module _ {A : Type 0} (P : A → Type 0) where
  pub all_keep : (p : A → Bool) (l : List A) → All P l → All P (keep p l)
  all_keep p [] h = tt
  all_keep p (x ∷ l) h = go (p x) (all_keep p l h.1)
    where
      go : (b : Bool) → All P (keep p l) → All P (cons_if b x (keep p l))
      go true k = (h.0, k)
      go false k = k

  pub all_snoc : (l : List A) (x : A) → All P l → P x → All P (l ++ (x ∷ []))
  all_snoc [] x h k = (k, tt)
  all_snoc (y ∷ l) x h k = (h.0, all_snoc l x h.1 k)

  pub all_append : (l m : List A) → All P l → All P m → All P (l ++ m)
  all_append [] m h k = k
  all_append (x ∷ l) m h k = (h.0, all_append l m h.1 k)

  -- and back: of both parts
  pub all_parts : (l m : List A) → All P (l ++ m) → All P l × All P m
  all_parts [] m h = (tt, h)
  all_parts (x ∷ l) m h = let k = all_parts l m h.1 in ((h.0, k.0), k.1)

  pub all_weaker : (Q : A → Type 0) → ((x : A) → P x → Q x) → (l : List A) → All P l → All Q l
  all_weaker Q g [] h = tt
  all_weaker Q g (x ∷ l) h = (g x h.0, all_weaker Q g l h.1)

  pub all_put : (l : List A) (n : ℕ) (x : A) → All P l → P x → All P (put l n x)
  all_put l zero x h k = h
  all_put [] (suc n) x h k = tt
  all_put (y ∷ l) (suc zero) x h k = (k, h.1)
  all_put (y ∷ l) (suc (suc n)) x h k = (h.0, all_put l (suc n) x h.1 k)

  -- of the element with a number: one that is there, or any where it also holds of what stands for none
  pub all_at : (d : A) (l : List A) (n : ℕ) → All P l → n ≢ 0 → n ≤ length l → P (at d l n)
  all_at d l zero h z k = absurd (z refl)
  all_at d [] (suc n) h z k = absurd (omega arith)
  all_at d (x ∷ l) (suc zero) h z k = h.0
  all_at d (x ∷ l) (suc (suc n)) h z k = all_at d l (suc n) h.1 (λ e. omega arith) (omega arith)

  pub all_any : (d : A) → P d → (l : List A) (n : ℕ) → All P l → P (at d l n)
  all_any d z l zero h = z
  all_any d z [] (suc n) h = z
  all_any d z (x ∷ l) (suc zero) h = h.0
  all_any d z (x ∷ l) (suc (suc n)) h = all_any d z l (suc n) h.1

  -- of a list that is as long, where each element has it from the one of the same number
  pub all_alike : (d : A) (l m : List A) → length m ≡ length l → ((i : ℕ) → P (at d l i) → P (at d m i)) → All P l → All P m
  all_alike d [] [] e f h = tt
  all_alike d [] (y ∷ m) e f h = absurd (omega (arith, e))
  all_alike d (x ∷ l) [] e f h = absurd (omega (arith, e))
  all_alike d (x ∷ l) (y ∷ m) e f h = (f 1 h.0, all_alike d l m (omega (arith, e)) (λ i. next i) h.1)
    where
      next : (i : ℕ) → P (at d l i) → P (at d m i)
      next zero p = p
      next (suc i) p = f (suc (suc i)) p

-- ---- waiting tasks
pub absent_keep : (p : Waiter → Bool) (t : ℕ) (l : List Waiter) → absent t l ≡ true → absent t (keep p l) ≡ true
absent_keep p t [] h = refl
absent_keep p t (x ∷ l) h = go (p x) (absent_keep p t l (and_right (is_other t x) (absent t l) h))
  where
    go : (b : Bool) → absent t (keep p l) ≡ true → absent t (cons_if b x (keep p l)) ≡ true
    go true k = both (and_left (is_other t x) (absent t l) h) k
    go false k = k

pub absent_append : (t : ℕ) (l m : List Waiter) → absent t l ≡ true → absent t m ≡ true → absent t (l ++ m) ≡ true
absent_append t [] m h k = k
absent_append t (x ∷ l) m h k = both (and_left (is_other t x) (absent t l) h) (absent_append t l m (and_right (is_other t x) (absent t l) h) k)

pub keep_absent : (t : ℕ) (l : List Waiter) → absent t l ≡ true → keep (is_other t) l ≡ l
keep_absent t [] h = refl
keep_absent t (x ∷ l) h = rw (and_left (is_other t x) (absent t l) h) (ap (λ (m : List Waiter). x ∷ m) (keep_absent t l (and_right (is_other t x) (absent t l) h)))

pub distinct_keep : (p : Waiter → Bool) (l : List Waiter) → Distinct l → Distinct (keep p l)
distinct_keep p [] d = tt
distinct_keep p (x ∷ l) d = go (p x) (distinct_keep p l d.1)
  where
    go : (b : Bool) → Distinct (keep p l) → Distinct (cons_if b x (keep p l))
    go true k = (absent_keep p x.task l d.0, k)
    go false k = k

pub is_other_sym : (x e : Waiter) → is_other x.task e ≡ is_other e.task x
is_other_sym x e = ap not (eqb_sym x.task e.task)

pub distinct_snoc : (l : List Waiter) (e : Waiter) → Distinct l → absent e.task l ≡ true → Distinct (l ++ (e ∷ []))
distinct_snoc [] e d h = (refl, tt)
distinct_snoc (x ∷ l) e d h = (
  absent_append x.task l (e ∷ []) d.0 (both (is_other_sym x e ∙ and_left (is_other e.task x) (absent e.task l) h) refl),
  distinct_snoc l e d.1 (and_right (is_other e.task x) (absent e.task l) h),
)

pub keep_head : (e : Waiter) (l : List Waiter) → Distinct (e ∷ l) → keep (is_other e.task) (e ∷ l) ≡ l
keep_head e l d = rw (eqb_same e.task) (keep_absent e.task l d.0)

-- ---- one of those at a place leaves
other_than : (t : ℕ) (l : List Waiter) (e : Waiter) → absent t l ≡ true → Some (λ (x : Waiter). x ≡ e) l → is_other t e ≡ true
other_than t [] e h k = absurd k
other_than t (x ∷ l) e h (inl z) = ap (is_other t) (sym z) ∙ and_left (is_other t x) (absent t l) h
other_than t (x ∷ l) e h (inr z) = other_than t l e (and_right (is_other t x) (absent t l) h) z

pub away : (p r : Waiter → Bool) (w : List Waiter) (e : Waiter) → Distinct w → ((x : Waiter) → p x ≡ true → r x ≡ false) → Some (λ (x : Waiter). x ≡ e) (keep p w) → absent e.task (keep r w) ≡ true
away p r [] e d f h = refl
away p r (x ∷ w) e d f h = go (p x) (r x) refl refl h (away p r w e d.1 f)
  where
    go : (b c : Bool) → p x ≡ b → r x ≡ c → Some (λ (x : Waiter). x ≡ e) (cons_if b x (keep p w)) → (Some (λ (x : Waiter). x ≡ e) (keep p w) → absent e.task (keep r w) ≡ true) → absent e.task (cons_if c x (keep r w)) ≡ true
    go true true hb hc k ih = absurd (no_both hc (f x hb))
    go true false hb hc (inl z) ih = ap (λ (y : Waiter). absent y.task (keep r w)) (sym z) ∙ absent_keep r x.task w d.0
    go true false hb hc (inr z) ih = ih z
    go false true hb hc k ih = both (is_other_sym e x ∙ other_than x.task (keep p w) e (absent_keep p x.task w d.0) k) (ih k)
    go false false hb hc k ih = ih k

pub leave_other : (p r : Waiter → Bool) (w : List Waiter) (e : Waiter) → Distinct w → ((x : Waiter) → p x ≡ true → r x ≡ false) → Some (λ (x : Waiter). x ≡ e) (keep p w) → keep r (keep (is_other e.task) w) ≡ keep r w
leave_other p r w e d f h = keep_comm r (is_other e.task) w ∙ keep_absent e.task (keep r w) (away p r w e d f h)
