-- Demand 3 and taking turns hold of every run of the program. Assumes nothing.
use Prim.Native.Nat.{ℕ, ◌^◌, ◌%◌, ◌≤◌}
use mathlib.Core.Path.{◌≡◌, refl, sym, ap, ◌∙◌, subst}
use mathlib.Core.Bool.{Bool, true, false, ◌&&◌}
use mathlib.Core.List.{List, [], ◌∷◌, ◌++◌, map}
use mathlib.Core.Option.{Option, none, some}
use lib.IntN.{ℤ, pos, negsuc}
use lib.Dec.{leb}
use lib.ListN.{length, drop}
use Rattle.access.specs.Patterns.{admitted}
use Rattle.itron.specs.declared.error.Error.{Error as Refusal}
use Rattle.itron.specs.Limits.{max_domains}
use Rattle.model.specs.State as Model
use Rattle.model.specs.State.{Place, Waiter, no_queue, running_at}
use Rattle.model.specs.Answers.{done}
use Rattle.model.specs.Waits.{waiters_at}
use Rattle.model.specs.Table.{Entry, task, sem, queue, region, fresh, fresh_by, enter, enter_by, add, check_entry, close, close_by, shut}
use Rattle.model.specs.Units.{unit_ok}
use Rattle.model.specs.Calls.{Call, step}
use Rattle.model.specs.Lists.{total}
use Rattle.model.specs.History.{event, after, history}
use Rattle.model.specs.Conditions.{NoWords, Sound}
use Rattle.model.specs.Demand3.{Demand3, JustClosed}
use Rattle.model.specs.Denials.{Ready}
use Rattle.model.specs.Turns.{serves, tasks_of, FirstCome, InTurn}
use Rattle.model.specs.declared.Released.{Released}
use Rattle.model.specs.Answers as Answers
use Rattle.model.proofs.Lists.{all_any}
use Rattle.model.proofs.Refers.{refer_state}
use Rattle.model.proofs.Table.{sound_fresh, sound_enter}
use Rattle.model.proofs.Owners.{above_nobody}
use Rattle.model.proofs.Demand3.{demand3}
use Rattle.model.proofs.Turns.{in_turn}
use Rattle.kernel.specs.declared.state.State.{State}
use Rattle.kernel.specs.declared.state.Answer.{Answer}
use Rattle.kernel.specs.declared.state.Entered.{Entered}
use Rattle.kernel.specs.View.{view_of}
use Rattle.kernel.specs.Valid.{Valid}
use Rattle.kernel.specs.Answers.{answer_of}
use Rattle.kernel.specs.Promises.{Enters, Does}
use Rattle.laws.specs.Runs.{Built, begun, entered, Said, said_by, said_in, Ran, start, calls, refers}
use Rattle.laws.specs.Claims.{Whole, TakesTurns}

-- ---- before the closing nobody waits, nothing is buffered and every task is at level 0: the table is open, and the condition says the rest
pub record Idle (s : Model.State) : Type 0 where
  pub is_open : s.fixed.closed ≡ false
  pub sound : Sound s

open_add : (s : Model.State) (i : Entry) → s.fixed.closed ≡ false → (add s i).fixed.closed ≡ false
open_add s (task d p) h = h
open_add s (sem d a b m v) h = h
open_add s (queue d a c v) h = h
open_add s (region d a b z v) h = h

pub idle_enter : (s : Model.State) (i : Entry) → Idle s → Idle (enter s i).state
unfolding enter
idle_enter s i k = record { is_open = go (check_entry s i); sound = sound_enter s i k.sound }
  where
    go : (o : Option Refusal) → (enter_by s i o).state.fixed.closed ≡ false
    go (some e) = k.is_open
    go none = open_add s i k.is_open

open_fresh : (n : ℤ) (unit : ℕ) → (fresh n unit).state.fixed.closed ≡ false
unfolding fresh
open_fresh (negsuc k) unit = refl
open_fresh (pos n) unit = go (leb n max_domains && unit_ok unit)
  where
    go : (b : Bool) → (fresh_by b n unit).state.fixed.closed ≡ false
    go true = refl
    go false = refl

pub idle_fresh : (n : ℤ) (unit : ℕ) → Idle (fresh n unit).state
idle_fresh n unit = record { is_open = open_fresh n unit; sound = sound_fresh n unit }

idle : {s : State} → Built s → Idle (view_of s)
idle (begun n unit r g) = subst (λ (m : Model.State). Idle m) (sym g.seen) (idle_fresh n unit)
idle (entered s b i r g) = subst (λ (m : Model.State). Idle m) (sym g.seen) (idle_enter (view_of s) i (idle b))

-- a table that was built closes with E_OK
pub closes : {s : State} → Built s → close (view_of s) ≡ done (shut (view_of s))
unfolding close
closes {s} b = ap (λ (c : Bool). close_by c (view_of s)) (idle b).is_open

-- so it is with a table just closed
pub idle_closed : (s : Model.State) → Idle s → JustClosed (close s).state
unfolding close
idle_closed s k = subst (λ (c : Bool). JustClosed (close_by c s).state) (sym k.is_open) (record { no_waits = k.sound.quiet k.is_open; no_words = λ q. all_any NoWords no_queue refl s.queues q (k.sound.empty k.is_open); outside = k.sound.outside k.is_open })

pub just_closed : {s : State} {r : Entered} → Built s → Enters s (close (view_of s)) r → JustClosed (view_of r.state)
just_closed {s} b g = subst (λ (m : Model.State). JustClosed m) (sym g.seen) (idle_closed (view_of s) (idle b))

-- ---- a run is the model's run
pub state_of_lem : {s₀ s : State} {cs : List Call} {l : List Said} → Ran s₀ cs s l → view_of s ≡ after (view_of s₀) cs
unfolding after
state_of_lem start = refl
state_of_lem (calls cs s l h c r d) = d.seen ∙ ap (λ (m : Model.State). (step m c).state) (state_of_lem h)
state_of_lem {s₀} (refers cs s l h c g r d) = ap view_of d.kept ∙ state_of_lem h ∙ sym (refer_state (after (view_of s₀) cs) c.caller c.op g)

-- what an answer says is what the rules' answer to the same call says
says : {s s₁ : State} {cs : List Call} {l : List Said} → Ran s₁ cs s l → (c : Call) (r : Answer) → r ≡ answer_of (step (view_of s) c) → said_by r ≡ said_in (event (after (view_of s₁) cs) c)
says h c r e = ap said_by e ∙ ap (λ (m : Model.State). said_in (event m c)) (state_of_lem h)

pub answers_of : {s₀ s : State} {cs : List Call} {l : List Said} → Ran s₀ cs s l → l ≡ map said_in (history (view_of s₀) cs)
unfolding history
answers_of start = refl
answers_of (calls cs s l h c r d) =
    let e = says h c r d.same in
    let b = answers_of h in
    λ j. e j ∷ b j
answers_of (refers cs s l h c g r d) =
    let e = says h c r d.same in
    let b = answers_of h in
    λ j. e j ∷ b j

-- demand 3: whatever the table and the calls
pub whole : {s s' : State} {r : Entered} {cs : List Call} {l : List Said} → Built s → Enters s (close (view_of s)) r → Ran r.state cs s' l → Whole r.state s' cs l
whole {r} {cs} b g h =
    let m = view_of r.state in
    record {
      demand = subst (λ (x : Model.State). Demand3 m (history m cs) x) (sym (state_of_lem h)) (demand3 m (just_closed b g) cs);
      state = state_of_lem h;
      answers = answers_of h;
    }

-- taking turns: from any state of the program, where those who wait stand as they came
pub turns : {s₁ : State} → Valid s₁ → (p : Place) → FirstCome (view_of s₁) p → (e : Waiter) (ahead behind : List Waiter) → waiters_at (view_of s₁) p ≡ ahead ++ e ∷ behind → TakesTurns s₁ p e ahead
turns {s₁} v p u e ahead behind w = record { still = still; served = served }
  where
    t : InTurn (view_of s₁) p e ahead
    t = in_turn (view_of s₁) v.sound.fit.waits.distinct p u e ahead behind w

    still : (cs : List Call) (s : State) (l : List Said) → Ran s₁ cs s l → total (serves p) (history (view_of s₁) cs) ≤ length ahead
        → (m : List Waiter) × (waiters_at (view_of s) p ≡ drop (total (serves p) (history (view_of s₁) cs)) ahead ++ e ∷ m)
    still cs s l h n = let x = t.still cs n in (x.0, ap (λ (m : Model.State). waiters_at m p) (state_of_lem h) ∙ x.1)

    one : (rs : List Released) → tasks_of rs ≡ e.task ∷ [] → (Answers.released_of rs).task ≡ e.task
    one [] q = cc
    one (x ∷ rs) q = cc

    served : (cs : List Call) (s : State) (l : List Said) → Ran s₁ cs s l → total (serves p) (history (view_of s₁) cs) ≡ length ahead
        → (c : Call) (r : Answer) → Does s c r → serves p (event (view_of s) c) ≡ 1 → r.released.task ≡ e.task
    served cs s l h n c r d o =
        let m = state_of_lem h in
        ap (λ (x : Answer). x.released.task) d.same
        ∙ ap (λ (x : Model.State). (Answers.released_of (step x c).answer.released).task) m
        ∙ one (step (after (view_of s₁) cs) c).answer.released (t.served cs c n (subst (λ (x : Model.State). serves p (event x c) ≡ 1) m o))

-- ---- "Bits for domains above n are accepted and admit nobody": they decide nothing for whoever can call, in any state of the program
pub nobody_above : {s : State} → Valid s → (t p : ℕ) → Ready (view_of s) t → admitted (p % 2 ^ (view_of s).fixed.count) (running_at (view_of s) t) ≡ admitted p (running_at (view_of s) t)
nobody_above {s} v t p r = above_nobody (view_of s) t p v.sound r
