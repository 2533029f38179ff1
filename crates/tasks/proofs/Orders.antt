-- The order of arrival: built entry by entry, and without a task. Assumes nothing.
use Prim.Native.Nat.{ℕ, zero, suc, ◌+◌, ◌≤◌, ◌<◌}
use native.Mathlib.Omega.{arith}
use native.Mathlib.Numerals.{add-one}
use mathlib.Core.Path.{◌≡◌, refl, sym, ap, ◌∙◌}
use mathlib.Core.Logic.{◌≢◌}
use mathlib.Core.Bool.{Bool, true, false, cond, not}
use mathlib.Core.List.{List, [], ◌∷◌, ◌++◌, map, append-nil}
use lib.Dec.{eqb}
use lib.ListN.{length, get_or, take, length-append}
use lib.Seq.{take-suc}
use Rattle.arrays.proofs.Pads.{pad_snoc}
use Rattle.itron.specs.Limits.{max_tasks}
use Rattle.model.specs.Lists.{index, cons_if, keep, All}
use Rattle.model.specs.State.{Waiter}
use Rattle.model.specs.Waits.{is_other}
use Rattle.model.specs.Conditions.{Known}
use Rattle.model.proofs.Lists.{eq_of, ne_of, eqb_same, eqb_no, keep_append}
use Rattle.tasks.specs.Form.{index_in}
use Rattle.tasks.specs.Orders.{order_of, pushed, without, not_index}

-- ---- built entry by entry
pub without_few : (t i : ℕ) (o : List ℕ) → length (without t (take i o)) ≤ i
without_few t zero o = omega arith
without_few t (suc i) [] = omega arith
without_few t (suc i) (x ∷ o) = go (not_index t x) (without_few t i o)
  where
    go : (b : Bool) → length (without t (take i o)) ≤ i → length (cons_if b x (without t (take i o))) ≤ suc i
    go true h = omega arith
    go false h = omega arith

pub push_form : (l : List ℕ) (x : ℕ) → length l < max_tasks → pushed (order_of l) x ≡ order_of (l ++ (x ∷ []))
push_form l x h =
    let a = pad_snoc 0 max_tasks l x h in
    let b : length l + 1 ≡ length (l ++ (x ∷ [])) = sym (length-append l (x ∷ [])) in
    λ j. record { entries = a j; count = b j }

-- the next is kept, or it is the one left out
module _ (t i : ℕ) (o : List ℕ) (h : i < length o) where
  next : without t (take (i + 1) o) ≡ without t (take i o) ++ without t (get_or o i 0 ∷ [])
  next = ap (λ (n : ℕ). without t (take n o)) (add-one i) ∙ ap (without t) (take-suc o i 0 h) ∙ keep_append (not_index t) (take i o) (get_or o i 0 ∷ [])

  pub without_kept : get_or o i 0 ≢ t → i < max_tasks → pushed (order_of (without t (take i o))) (get_or o i 0) ≡ order_of (without t (take (i + 1) o))
  without_kept n k =
      let f = without_few t i o in
      let e : eqb t (get_or o i 0) ≡ false = eqb_no t (get_or o i 0) (λ q. n (sym q)) in
      push_form (without t (take i o)) (get_or o i 0) (omega arith) ∙ ap order_of (sym (next ∙ rw e))

  pub without_left : get_or o i 0 ≡ t → order_of (without t (take i o)) ≡ order_of (without t (take (i + 1) o))
  without_left q =
      let e : eqb t (get_or o i 0) ≡ true = ap (eqb t) q ∙ eqb_same t in
      ap order_of (sym (next ∙ rw e (append-nil (without t (take i o)))))

  -- the two in one
  pub without_step : i < max_tasks → cond (eqb t (get_or o i 0)) (order_of (without t (take i o))) (pushed (order_of (without t (take i o))) (get_or o i 0)) ≡ order_of (without t (take (i + 1) o))
  without_step k = go (eqb t (get_or o i 0)) refl
    where
      go : (b : Bool) → eqb t (get_or o i 0) ≡ b
          → cond b (order_of (without t (take i o))) (pushed (order_of (without t (take i o))) (get_or o i 0)) ≡ order_of (without t (take (i + 1) o))
      go true e = without_left (sym (eq_of t (get_or o i 0) e))
      go false e = without_kept (λ q. ne_of t (get_or o i 0) e (sym q)) k

-- ---- without a task: its index is gone from the order as its number is from those who wait
pub eqb_suc : (m n : ℕ) → eqb m n ≡ eqb (suc m) (suc n)
eqb_suc m n = go (eqb m n) refl
  where
    go : (b : Bool) → eqb m n ≡ b → b ≡ eqb (suc m) (suc n)
    go true e = sym (ap (λ (k : ℕ). eqb (suc k) (suc n)) (eq_of m n e) ∙ eqb_same (suc n))
    go false e = sym (eqb_no (suc m) (suc n) (λ q. ne_of m n e (omega arith)))

pub order_gone : (n t : ℕ) (l : List Waiter) → All (Known n) l → without t (map index_in l) ≡ map index_in (keep (is_other (suc t)) l)
order_gone n t [] k = refl
order_gone n t (x ∷ l) k = same x.task k.0.0 ∙ go (eqb (suc t) x.task) (order_gone n t l k.1)
  where
    go : (b : Bool) → without t (map index_in l) ≡ map index_in (keep (is_other (suc t)) l)
        → cons_if (not b) (index_in x) (without t (map index_in l)) ≡ map index_in (cons_if (not b) x (keep (is_other (suc t)) l))
    go true h = h
    go false h = ap (λ (z : List ℕ). index_in x ∷ z) h

    same : (u : ℕ) → u ≢ 0 → cons_if (not (eqb t (index u))) (index_in x) (without t (map index_in l)) ≡ cons_if (not (eqb (suc t) u)) (index_in x) (without t (map index_in l))
    same zero h = absurd (h refl)
    same (suc u) h = ap (λ (b : Bool). cons_if (not b) (index_in x) (without t (map index_in l))) (eqb_suc t u)

-- ---- one task more, the last
pub order_snoc : (e : Waiter) (l : List Waiter) → map index_in (l ++ (e ∷ [])) ≡ map index_in l ++ (index_in e ∷ [])
order_snoc e [] = refl
order_snoc e (x ∷ l) = ap (λ (z : List ℕ). index_in x ∷ z) (order_snoc e l)
