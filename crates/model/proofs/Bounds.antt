-- The task numbers in an answer are small: at most the number of tasks. Assumes nothing.
use Prim.Native.Nat.{ℕ, ◌≤◌}
use native.Mathlib.Omega.{arith}
use mathlib.Core.Path.{◌≡◌, refl, sym, subst}
use mathlib.Core.Bool.{Bool}
use mathlib.Core.List.{List, [], ◌∷◌}
use lib.ListN.{length}
use Rattle.itron.specs.Codes.{Code, ok, waiting, error}
use Rattle.itron.specs.Limits.{max_tasks}
use Rattle.model.specs.Lists.{All}
use Rattle.model.specs.State.{Waiter, Place, State}
use Rattle.model.specs.Answers.{Answer, Out, released_of, say, tells}
use Rattle.model.specs.Waits.{standing, waiters_at, order_of, wait_queue, first_task, stands_at, freed}
use Rattle.model.specs.Rooms.{Asks}
use Rattle.model.specs.Calls.{Op, Call, asks, step}
use Rattle.model.specs.Conditions.{Known, Fit}
use Rattle.model.proofs.Lists.{all_keep}
use Rattle.model.proofs.Order.{standing_all}
use Rattle.model.proofs.Cover.{Endings, lawful, ends}

-- the task numbers in an answer
pub record Small (a : Answer) : Type 0 where
  pub released : (released_of a.released).task ≤ max_tasks
  pub first : a.info.first ≤ max_tasks
  pub second : a.info.second ≤ max_tasks

first_small : (n : ℕ) (l : List Waiter) → n ≤ max_tasks → All (Known n) l → first_task l ≤ max_tasks
first_small n [] h k = omega arith
first_small n (e ∷ l) h k = let b = k.0.1 in omega arith

-- who waits at a place has a small number
waiter_small : (s : State) → Fit s → (b : Bool) (p : Place) → first_task (standing b s.fixed.tasks (waiters_at s p)) ≤ max_tasks
waiter_small s f b p =
    let n = length s.fixed.tasks in
    first_small n (standing b s.fixed.tasks (waiters_at s p)) f.waits.tasks (standing_all b s.fixed.tasks (Known n) (waiters_at s p) (all_keep (Known n) (stands_at p) s.waits f.waits.known))

-- an answer that releases nobody, and one that releases the first at a place
quiet : (c : Code) (w : ℕ) → Small (say c w [])
quiet c w = record { released = omega arith; first = omega arith; second = omega arith }

wakes : (s : State) → Fit s → (p : Place) (e : Waiter) (l : List Waiter) → wait_queue s p ≡ e ∷ l → (w h : ℕ) → Small (say ok w (freed e h))
wakes s f p e l q w h = record { released = subst (λ (x : List Waiter). first_task x ≤ max_tasks) q (waiter_small s f (order_of s p.side p.number) p); first = omega arith; second = omega arith }

small_ends : (s : State) → Fit s → (op : Op) → Endings s (λ (t : ℕ) (x : Asks) (o : Out). x ≡ asks op → Small o.answer)
small_ends s f op = record {
  refused = λ t x e o y. quiet (error e) 0;
  tells = λ t x r o y. subst (λ (z : Asks). Small (tells (z.told s))) (sym y)
      (record { released = omega arith; first = (lawful op).tells_first s max_tasks (waiter_small s f); second = (lawful op).tells_second s max_tasks (waiter_small s f) });
  gives = λ t x s' w k v y. quiet ok w;
  wakes = λ t x s' p e l w h k v g y. wakes s f p e l g w h;
  waits = λ t x e h c z p b v y. quiet waiting 0;
}

pub small : (s : State) → Fit s → (c : Call) → Small (step s c).answer
small s f c = ends s (λ (t : ℕ) (x : Asks) (o : Out). x ≡ asks c.op → Small o.answer) (small_ends s f c.op) c refl
