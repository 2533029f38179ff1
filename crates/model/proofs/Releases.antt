-- A release belongs to a wait, proved of every list of calls. Assumes nothing.
use mathlib.Core.Path.{◌≡◌, refl, ap, subst}
use mathlib.Core.Logic.{inl, inr}
use mathlib.Core.Bool.{Bool, true, false, not}
use mathlib.Core.List.{List, [], ◌∷◌}
use mathlib.Core.Option.{Option, some}
use Prim.Native.Nat.{ℕ}
use Rattle.itron.specs.Codes.{ok}
use Rattle.model.specs.Lists.{cons_if, All, Some, Each}
use Rattle.model.specs.State.{Place, Waiter, State}
use Rattle.model.specs.Answers.{Released, Out}
use Rattle.model.specs.Waits.{stands_at, is_other, waiters_in, waiters_at, order_of, wait_queue, leave}
use Rattle.model.specs.Acts.{own, refer, set_vector}
use Rattle.model.specs.Rooms.{Asks}
use Rattle.model.specs.Semaphores.{signal, acquire}
use Rattle.model.specs.Queues.{send, receive, forced_send}
use Rattle.model.specs.Calls.{Op, on_semaphore, on_queue, on_level, Call, asks, step}
use Rattle.model.specs.History.{event, after, history}
use Rattle.model.specs.Releases.{served_by, WaitsAt, WaitsNot, EndsWait, Once, ReleasesWaiters}
use Rattle.model.proofs.Lists.{no_both, eqb_same}
use Rattle.model.proofs.Order.{standing_came}
use Rattle.model.proofs.WaitQueues.{place_of}
use Rattle.model.proofs.Cover.{Endings, ends}
use Rattle.model.proofs.Steps.{waiters_are_lem}

-- ---- the place that the rules let an accepted call serve is the one that the claim names
served_is : (op : Op) → (asks op).serves ok ≡ served_by op
served_is (on_semaphore n (own signal)) = refl
served_is (on_semaphore n (own (acquire p))) = refl
served_is (on_semaphore n refer) = refl
served_is (on_semaphore n (set_vector v)) = refl
served_is (on_queue n (own (send p w))) = refl
served_is (on_queue n (own (receive p))) = refl
served_is (on_queue n (own (forced_send w))) = refl
served_is (on_queue n refer) = refl
served_is (on_queue n (set_vector v)) = refl
served_is (on_level c) = refl

-- ---- who stands first in a wait queue waits there; who has left does not wait
waits_there : (ws : List Waiter) (p : Place) (e : Waiter) → Some (λ (x : Waiter). x ≡ e) (waiters_in ws p) → WaitsAt (some p) e.task ws
waits_there [] p e h = h
waits_there (x ∷ ws) p e h = go (stands_at p x) refl h (waits_there ws p e)
  where
    go : (b : Bool) → stands_at p x ≡ b → Some (λ (x : Waiter). x ≡ e) (cons_if b x (waiters_in ws p)) → (Some (λ (x : Waiter). x ≡ e) (waiters_in ws p) → WaitsAt (some p) e.task ws) → WaitsAt (some p) e.task (x ∷ ws)
    go true z (inl y) ih = inl (ap (λ (w : Waiter). w.task) y, place_of p x.place z)
    go true z (inr k) ih = inr (ih k)
    go false z k ih = inr (ih k)

first_waits : (s : State) (p : Place) (e : Waiter) (l : List Waiter) → wait_queue s p ≡ e ∷ l → WaitsAt (some p) e.task s.waits
first_waits s p e l h = waits_there s.waits p e (standing_came (order_of s p.side p.number) s.fixed.tasks (waiters_at s p) h)

left : (t : ℕ) (ws : List Waiter) → WaitsNot t (leave t ws)
left t [] = tt
left t (x ∷ ws) = go (is_other t x) refl (left t ws)
  where
    go : (b : Bool) → is_other t x ≡ b → WaitsNot t (leave t ws) → WaitsNot t (cons_if b x (leave t ws))
    go true z k = ((λ y. no_both z (rw y (ap not (eqb_same t)))), k)
    go false z k = k

-- ---- one call
-- of a task released by a call that gives o: the call is done, where the task waited before it, and that it does not wait after it
abbrev Leaves : State → Option Place → Out → Released → Type 0
Leaves s p o r = (o.answer.code ≡ ok) × (WaitsAt p r.task s.waits × WaitsNot r.task o.state.waits)

abbrev ReleaseLaw : State → ℕ → Asks → Out → Type 0
ReleaseLaw s t x o = All (Leaves s (x.serves ok) o) o.answer.released × Once o.answer.released

release_ends : (s : State) → Endings s (ReleaseLaw s)
release_ends s = record {
  refused = λ t x e o. (tt, tt);
  tells = λ t x r o. (tt, tt);
  gives = λ t x s' w k v. (tt, tt);
  wakes = λ t x s' p e l w h k v f. (((refl, (rw v (first_waits s p e l f), rw k.waits (left e.task s.waits))), tt), (tt, tt));
  waits = λ t x e h c z p b v. (tt, tt);
}

pub release_law : (s : State) (c : Call) → All (Leaves s (served_by c.op) (step s c)) (step s c).answer.released × Once (step s c).answer.released
release_law s c = subst (λ (p : Option Place). All (Leaves s p (step s c)) (step s c).answer.released × Once (step s c).answer.released) (served_is c.op) (ends s (ReleaseLaw s) (release_ends s) c)

-- ---- the whole list
pub releases : (s₀ : State) → s₀.waits ≡ [] → (cs : List Call) → Each ReleasesWaiters (history s₀ cs)
unfolding after history
releases s₀ j [] = tt
releases s₀ j (c ∷ cs) = (record { each = by_history (step s c).answer.released (release_law s c).0; once = (release_law s c).1 }, releases s₀ j cs)
  where
    s : State
    s = after s₀ cs

    by_history : (rs : List Released) → All (Leaves s (served_by c.op) (step s c)) rs → All (EndsWait (event s c) (history s₀ cs)) rs
    by_history [] k = tt
    by_history (r ∷ rs) k = (
      record {
        done = k.0.0;
        waited = subst (WaitsAt (served_by c.op) r.task) (waiters_are_lem s₀ j cs) k.0.1.0;
        ended = subst (WaitsNot r.task) (waiters_are_lem s₀ j (c ∷ cs)) k.0.1.1;
      },
      by_history rs k.1,
    )
