-- Wait queues: places told apart, and what leaving and joining do to the tasks that wait at a place. Assumes nothing.
use mathlib.Core.Path.{◌≡◌, refl, sym, ap, ◌∙◌}
use mathlib.Core.Logic.{◌≢◌}
use mathlib.Core.Bool.{Bool, true, false, and-false}
use mathlib.Core.List.{List, [], ◌∷◌, ◌++◌, append-nil}
use Prim.Native.Nat.{ℕ, zero, suc}
use lib.Dec.{eqb}
use Rattle.model.specs.Lists.{cons_if}
use Rattle.model.specs.State.{TaskEntry, Waiter, Place, Side, on_sem, receiving, sending, place, side_number, same_side, same_place}
use Rattle.model.specs.Waits.{stands_at, is_other, waiters_in, standing, leave, join}
use Rattle.model.proofs.Lists.{eq_of, and_left, and_right, both, eqb_same, eqb_no, keep_append, keep_comm, Distinct, distinct_keep, leave_other}
use Rattle.model.proofs.Order.{standing_leaves, standing_came}

-- ---- places
abbrev side_at : ℕ → Side
side_at zero = on_sem
side_at (suc zero) = receiving
side_at (suc (suc n)) = sending

side_back : (d : Side) → side_at (side_number d) ≡ d
side_back on_sem = refl
side_back receiving = refl
side_back sending = refl

pub side_of : (a b : Side) → same_side a b ≡ true → b ≡ a
side_of a b h = sym (side_back b) ∙ ap side_at (sym (eq_of (side_number a) (side_number b) h)) ∙ side_back a

pub place_of : (p r : Place) → same_place p r ≡ true → r ≡ p
place_of p r h =
    let a : r.side ≡ p.side = side_of p.side r.side (and_left (same_side p.side r.side) (eqb p.number r.number) h) in
    let b : r.number ≡ p.number = sym (eq_of p.number r.number (and_right (same_side p.side r.side) (eqb p.number r.number) h)) in
    λ i. record { side = a i; number = b i }

pub apart : (p r : Place) → same_place r p ≡ false → (x : Waiter) → stands_at p x ≡ true → stands_at r x ≡ false
apart p r h x k = ap (same_place r) (place_of p x.place k) ∙ h

pub unlike : (d d' : Side) (q n : ℕ) → q ≢ n → same_place (place d q) (place d' n) ≡ false
unlike d d' q n h = rw (eqb_no q n h) (and-false (same_side d d'))

pub alike : (p : Place) → same_place p p ≡ true
alike p = both (eqb_same (side_number p.side)) (eqb_same p.number)

-- ---- leaving and joining
module _ (ws : List Waiter) where
  -- the first at a place, in either order
  module _ (b : Bool) (ts : List TaskEntry) (p : Place) {e : Waiter} {l : List Waiter} (d : Distinct ws) (h : standing b ts (waiters_in ws p) ≡ e ∷ l) where
    pub leave_here : standing b ts (waiters_in (leave e.task ws) p) ≡ l
    leave_here = ap (standing b ts) (keep_comm (stands_at p) (is_other e.task) ws) ∙ standing_leaves b ts (waiters_in ws p) (distinct_keep (stands_at p) ws d) h

    pub leave_elsewhere : (r : Place) → same_place r p ≡ false → waiters_in (leave e.task ws) r ≡ waiters_in ws r
    leave_elsewhere r a = leave_other (stands_at p) (stands_at r) ws e d (apart p r a) (standing_came b ts (waiters_in ws p) h)

  pub join_here : (e : Waiter) (p : Place) → stands_at p e ≡ true → waiters_in (join e ws) p ≡ waiters_in ws p ++ (e ∷ [])
  join_here e p h = keep_append (stands_at p) ws (e ∷ []) ∙ ap (λ (b : Bool). waiters_in ws p ++ cons_if b e []) h

  pub join_elsewhere : (e : Waiter) (p : Place) → stands_at p e ≡ false → waiters_in (join e ws) p ≡ waiters_in ws p
  join_elsewhere e p h = keep_append (stands_at p) ws (e ∷ []) ∙ ap (λ (b : Bool). waiters_in ws p ++ cons_if b e []) h ∙ append-nil (waiters_in ws p)
