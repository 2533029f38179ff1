-- Taking turns (document 01): a task that waits with k tasks ahead is released by the (k+1)th accepted call of the opposite kind on its object after it joined,
-- where those who wait stand as they came (request T-10).
use Rattle.std.specs.Prelude.{◌≡◌, Bool, true, false, List, [], ◌∷◌, ◌++◌, map, ℕ, ◌≤◌, length, drop}
use Rattle.std.proofs.Math.Option.{Option, none, some}
use Rattle.model.specs.Lists.{total}
use Rattle.model.specs.State.{Place, Waiter, State, same_place}
use Rattle.model.specs.Answers.{Released}
use Rattle.model.specs.Waits.{order_of, waiters_at}
use Rattle.model.specs.Calls.{Call, asks}
use Rattle.model.specs.History.{Event, event, after, history}

abbrev pub count_if : Bool → ℕ
count_if true = 1
count_if false = 0

abbrev pub count_at : Place → Option Place → ℕ
count_at p none = 0
count_at p (some r) = count_if (same_place p r)

-- 1 where an event is an accepted call of the opposite kind to those who wait at p, else 0
abbrev pub serves : Place → Event → ℕ
serves p e = count_at p ((asks e.call.op).serves e.answer.code)

abbrev pub tasks_of : List Released → List ℕ
tasks_of rs = map (λ (r : Released). r.task) rs

-- those who wait at p stand as they came
abbrev pub FirstCome : State → Place → Type 0
FirstCome s p = order_of s p.side p.number ≡ false

-- e waits at p in the state s with the tasks `ahead` before it
pub record InTurn (s : State) (p : Place) (e : Waiter) (ahead : List Waiter) : Type 0 where
  -- after any calls of which no more than k = length ahead were accepted and of the opposite kind, it still waits, with as many fewer ahead
  pub still : (cs : List Call) → total (serves p) (history s cs) ≤ length ahead
      → (m : List Waiter) × (waiters_at (after s cs) p ≡ drop (total (serves p) (history s cs)) ahead ++ e ∷ m)
  -- and the one that follows exactly k of them, the (k+1)th, releases it and nobody else
  pub served : (cs : List Call) (c : Call) → total (serves p) (history s cs) ≡ length ahead → serves p (event (after s cs) c) ≡ 1
      → tasks_of (event (after s cs) c).answer.released ≡ e.task ∷ []
