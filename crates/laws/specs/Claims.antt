-- What is claimed of every run of the program. Definitions only.
use Rattle.std.specs.Prelude.{◌≤◌, ◌≡◌, List, ◌∷◌, ◌++◌, map, pos, neg_ℤ, length, drop}
use Rattle.model.specs.State.{Place, Waiter}
use Rattle.model.specs.Waits.{waiters_at}
use Rattle.model.specs.Calls.{Call}
use Rattle.model.specs.Lists.{total}
use Rattle.model.specs.History.{event, after, history}
use Rattle.model.specs.Demand3.{Demand3}
use Rattle.model.specs.Turns.{serves}
use Rattle.model.specs.Denials.{DeniedSince}
use Rattle.model.specs.declared.Outcome.TheVariants as Outcome
use Rattle.kernel.specs.declared.state.State.{State}
use Rattle.kernel.specs.declared.state.Answer.{Answer}
use Rattle.kernel.specs.View.{view_of}
use Rattle.kernel.specs.Promises.{Does}
use Rattle.laws.specs.Runs.{Built, taken, Said, said_in, Ran}

-- demand 3 of a run from s₀ by the calls cs to s with the answers l
pub record Whole (s₀ s : State) (cs : List Call) (l : List Said) : Type 0 where
  -- the claim, about the model's history of these calls and the state that the program gave
  pub demand : Demand3 (view_of s₀) (history (view_of s₀) cs) (view_of s)
  -- that state is the one after the history
  pub state : view_of s ≡ after (view_of s₀) cs
  -- and the history's answers are those that the program gave
  pub answers : l ≡ map said_in (history (view_of s₀) cs)

-- taking turns: e waits at p in the state s₁ with the tasks `ahead` before it
pub record TakesTurns (s₁ : State) (p : Place) (e : Waiter) (ahead : List Waiter) : Type 0 where
  -- while no more than k = length ahead calls of the opposite kind were accepted, it waits, with as many fewer ahead
  pub still : (cs : List Call) (s : State) (l : List Said) → Ran s₁ cs s l → total (serves p) (history (view_of s₁) cs) ≤ length ahead
      → (m : List Waiter) × (waiters_at (view_of s) p ≡ drop (total (serves p) (history (view_of s₁) cs)) ahead ++ e ∷ m)
  -- the (k+1)th releases it
  pub served : (cs : List Call) (s : State) (l : List Said) → Ran s₁ cs s l → total (serves p) (history (view_of s₁) cs) ≡ length ahead
      → (c : Call) (r : Answer) → Does s c r → serves p (event (view_of s) c) ≡ 1 → r.released.task ≡ e.task

-- "E_OACV exactly when denied": of a call c in the state s, after the entries that the table b took and the calls cs from the closed table s₀ on, answered r
pub record DeniesExactly {t : State} (b : Built t) (s₀ s : State) (cs : List Call) (c : Call) (r : Answer) : Type 0 where
  -- who gets E_OACV (-27) is denied: the earlier checks pass, and the pattern of the last accepted set-vector, or else of the entry, does not admit the caller's running domain
  pub only : r.outcome ≡ Outcome.Code (neg_ℤ (pos 27)) → DeniedSince (taken b) (history (view_of s₀) cs) (view_of s) c.caller c.op
  -- and who is denied gets it
  pub always : DeniedSince (taken b) (history (view_of s₀) cs) (view_of s) c.caller c.op → r.outcome ≡ Outcome.Code (neg_ℤ (pos 27))
