-- An answer as the program gives it (document 01): a code or "waiting", the word if any, at most one released task with its word. Assumes nothing.
use mathlib.Core.Path.{◌≡◌, refl, subst}
use mathlib.Core.Logic.{◌≢◌}
use mathlib.Core.List.{List, [], ◌∷◌}
use Prim.Native.Nat.{ℕ, ◌≤◌}
use native.Mathlib.Omega.{arith}
use lib.IntN.{pos}
use lib.ListN.{length}
use Rattle.itron.specs.Codes.{ok, waiting, error}
use Rattle.itron.specs.declared.error.Error.{Error as Refusal}
use Rattle.model.specs.declared.Outcome.TheVariants as Outcome
use Rattle.model.specs.Lists.{All}
use Rattle.model.specs.State.{Place, Waiter, State}
use Rattle.model.specs.Answers.{Released, Out, outcome_of, released_of, reply_of}
use Rattle.model.specs.Waits.{waiters_at, order_of, wait_queue, stands_at}
use Rattle.model.specs.Rooms.{Asks}
use Rattle.model.specs.Calls.{Call, step}
use Rattle.model.specs.Conditions.{Known, Fit}
use Rattle.model.proofs.Lists.{all_keep}
use Rattle.model.proofs.Order.{standing_all}
use Rattle.model.proofs.Cover.{Endings, ends}
use Rattle.model.proofs.Answers.{answers, refuses, with}

-- ---- what the laws of Answers say, as the program shows it
-- "Where there is no word or no released task, the number is 0"
pub shows_done : (w : ℕ) → reply_of (answers ok w []) ≡ record { outcome = Outcome.Code (pos 0); word = w; released = record { task = 0; word = 0 } }
shows_done w = refl

pub shows_release : (w v : ℕ) (e : Waiter) → reply_of (answers ok w (with e v)) ≡ record { outcome = Outcome.Code (pos 0); word = w; released = record { task = e.task; word = v } }
shows_release w v e = refl

pub shows_waiting : reply_of (answers waiting 0 []) ≡ record { outcome = Outcome.Waiting; word = 0; released = record { task = 0; word = 0 } }
shows_waiting = refl

-- "Each refusal .. gives back .. word 0, no released task"
pub shows_refusal : (e : Refusal) → reply_of (refuses e) ≡ record { outcome = outcome_of (error e); word = 0; released = record { task = 0; word = 0 } }
shows_refusal e = refl

-- ---- "at most one released task": no call releases two, and 0 stands for none
pub record Shows (rs : List Released) : Type 0 where
  pub few : length rs ≤ 1
  pub none : (released_of rs).task ≡ 0 → rs ≡ []

abbrev ShowsLaw : ℕ → Asks → Out → Type 0
ShowsLaw t x o = Shows o.answer.released

module _ (s : State) (f : Fit s) where
  nobody : Shows []
  nobody = record { few = omega arith; none = λ h. refl }

  numbered : (p : Place) (e : Waiter) (l : List Waiter) → wait_queue s p ≡ e ∷ l → e.task ≢ 0
  numbered p e l h =
      let n = length s.fixed.tasks in
      let k = standing_all (order_of s p.side p.number) s.fixed.tasks (Known n) (waiters_at s p) (all_keep (Known n) (stands_at p) s.waits f.waits.known) in
      (subst (All (Known n)) h k).0.0

  one : (p : Place) (e : Waiter) (l : List Waiter) → wait_queue s p ≡ e ∷ l → (w : ℕ) → Shows (with e w)
  one p e l h w = record { few = omega arith; none = λ z. absurd (numbered p e l h z) }

  shows_ends : Endings s ShowsLaw
  shows_ends = record {
    refused = λ t x e o. nobody;
    tells = λ t x r o. nobody;
    gives = λ t x s' w k v. nobody;
    wakes = λ t x s' p e l w h k v f. one p e l f h;
    waits = λ t x e h c z p b v. nobody;
  }

  pub shows : (c : Call) → Shows (step s c).answer.released
  shows c = ends s ShowsLaw shows_ends c
