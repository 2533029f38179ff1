-- Nobody waits at an object without a number; in which order those who wait stand. Assumes nothing.
use Prim.Native.Nat.{ℕ}
use mathlib.Core.Path.{◌≡◌, refl, sym, ap, ◌∙◌}
use mathlib.Core.Bool.{Bool, false, ◌&&◌, and-false}
use mathlib.Core.List.{List, [], ◌∷◌, map}
use native.Mathlib.Omega.{arith}
use lib.ListN.{get_or}
use types.Run.{OneOf}
use denote.Enum.Declared.{tag_of}
use Rattle.model.specs.Lists.{All, cons_if, keep}
use Rattle.model.specs.State.{Waiter, State, place, sem_at, queue_at, same_side}
use Rattle.model.specs.declared.Side.{Side}
use Rattle.model.specs.declared.Side.TheVariants.{OnSem as on_sem, Receiving as receiving, Sending as sending}
use Rattle.model.specs.contracts.Side.{the_type as side_type}
use Rattle.model.specs.Waits.{stands_at, by_priority, standing, order_of, wait_queue}
use Rattle.model.specs.Conditions.{Plain, Sound}
use Rattle.model.proofs.Lists.{eqb_no}
use Rattle.model.proofs.Order.{standing_nobody}
use Rattle.tasks.specs.Ends.{task_in}

nobody_at : (d : Side) (l : List Waiter) → All Plain l → keep (stands_at (place d 0)) l ≡ []
nobody_at d [] h = refl
nobody_at d (e ∷ l) h =
    let z : stands_at (place d 0) e ≡ false = ap (λ (b : Bool). same_side d e.place.side && b) (eqb_no 0 e.place.number (λ q. h.0.0 (sym q))) ∙ and-false (same_side d e.place.side) in
    ap (λ (b : Bool). cons_if b e (keep (stands_at (place d 0)) l)) z ∙ nobody_at d l h.1

pub no_waiter : (m : State) → Sound m → (d : Side) (n k : ℕ) → n ≡ 0 → 0 ≡ get_or (map task_in (wait_queue m (place d n))) k 0
no_waiter m s d n k e =
    let b = order_of m d 0 in
    ap (λ (l : List Waiter). get_or (map task_in l) k 0) (sym (standing_nobody b m.fixed.tasks) ∙ ap (standing b m.fixed.tasks) (sym (nobody_at d m.waits s.fit.waits.plain)))
    ∙ ap (λ (j : ℕ). get_or (map task_in (wait_queue m (place d j))) k 0) (sym e)

-- ---- which order holds on a side, by what a match found the side to be
module _ (m : State) where
  pub order_on_sem : (d : Side) (n : ℕ) → OneOf (0 ∷ []) (tag_of side_type d) → {b : Bool} → b ≡ by_priority (sem_at m n).attribute → b ≡ order_of m d n
  order_on_sem on_sem n t e = e
  order_on_sem receiving n t e = absurd (omega arith)
  order_on_sem sending n t e = absurd (omega arith)

  pub order_receiving : (d : Side) (n : ℕ) → OneOf (1 ∷ []) (tag_of side_type d) → false ≡ order_of m d n
  order_receiving on_sem n t = absurd (omega arith)
  order_receiving receiving n t = refl
  order_receiving sending n t = absurd (omega arith)

  pub order_sending : (d : Side) (n : ℕ) → OneOf (2 ∷ []) (tag_of side_type d) → {b : Bool} → b ≡ by_priority (queue_at m n).attribute → b ≡ order_of m d n
  order_sending on_sem n t e = absurd (omega arith)
  order_sending receiving n t e = absurd (omega arith)
  order_sending sending n t e = e
