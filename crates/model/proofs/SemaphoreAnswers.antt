-- What a call on a semaphore that passes the checks answers (document 01, "Calls on an open gateway"): its sentences, each by plain facts of the state before. Assumes nothing.
use mathlib.Core.Path.{◌≡◌, refl, sym, ap, ◌∙◌, subst}
use mathlib.Core.Bool.{Bool, true, false}
use mathlib.Core.List.{List, [], ◌∷◌}
use Prim.Native.Nat.{ℕ, zero, suc, ◌≤◌, ◌<◌}
use native.Mathlib.Omega.{arith}
use lib.Dec.{leb}
use lib.IntN.{ℤ}
use Rattle.itron.specs.Codes.{ok, waiting}
use Rattle.itron.specs.declared.error.Error.TheVariants.{Qovr as e_qovr, Tmout as e_tmout}
use Rattle.model.specs.State.{Vector, Waiter, State, place, on_sem, sem_at, no}
use Rattle.model.specs.Answers.{Answer}
use Rattle.model.specs.Waits.{Patience, polling, forever, wait_queue}
use Rattle.model.specs.Acts.{own, refer, set_vector}
use Rattle.model.specs.Semaphores.{signal, acquire, signal_by, acquire_by}
use Rattle.model.specs.Calls.{on_semaphore, call, step}
use Rattle.model.proofs.Tests.{holds, fails, le_tells}
use Rattle.model.proofs.Answers.{Passes, answers, refuses, with, acts, first, ReferTells}

-- "With waiters, the first is released with E_OK .. Otherwise at max: E_QOVR. Otherwise count plus 1."
module _ (s : State) (t n : ℤ) (p : Passes s t (on_semaphore n (own signal))) where
  signal_by_lem : (l : List Waiter) (full : Bool) → wait_queue s (place on_sem (no n)) ≡ l → leb (sem_at s (no n)).max (sem_at s (no n)).count ≡ full
      → (step s (call t (on_semaphore n (own signal)))).answer ≡ (signal_by s.waits s.sems (no n) l full).answer
  signal_by_lem l full h k = acts s t (on_semaphore n (own signal)) p ∙ (λ i. (signal_by s.waits s.sems (no n) (h i) (k i)).answer)

  pub signal_releases : (e : Waiter) (l : List Waiter) → wait_queue s (place on_sem (no n)) ≡ e ∷ l → (step s (call t (on_semaphore n (own signal)))).answer ≡ answers ok 0 (with e 0)
  signal_releases e l h = signal_by_lem (e ∷ l) _ h refl

  pub signal_counts_lem : wait_queue s (place on_sem (no n)) ≡ [] → (sem_at s (no n)).count < (sem_at s (no n)).max → (step s (call t (on_semaphore n (own signal)))).answer ≡ answers ok 0 []
  signal_counts_lem h k = signal_by_lem [] false h (fails (le_tells (sem_at s (no n)).max (sem_at s (no n)).count) (λ z. omega arith))

  pub signal_at_max : wait_queue s (place on_sem (no n)) ≡ [] → (sem_at s (no n)).max ≤ (sem_at s (no n)).count → (step s (call t (on_semaphore n (own signal)))).answer ≡ refuses e_qovr
  signal_at_max h k = signal_by_lem [] true h (holds (le_tells _ _) k)

-- "Count above 0: minus 1, E_OK. Otherwise poll gives E_TMOUT; wait .. answers "waiting"."
module _ (s : State) (t n : ℤ) (a : Patience) (p : Passes s t (on_semaphore n (own (acquire a)))) where
  acquire_by_lem : (k : ℕ) → (sem_at s (no n)).count ≡ k → (step s (call t (on_semaphore n (own (acquire a))))).answer ≡ (acquire_by s.waits s.sems (no t) (no n) a k).answer
  acquire_by_lem k h = acts s t (on_semaphore n (own (acquire a))) p ∙ ap (λ (x : ℕ). (acquire_by s.waits s.sems (no t) (no n) a x).answer) h

  pub acquire_grants : 0 < (sem_at s (no n)).count → (step s (call t (on_semaphore n (own (acquire a))))).answer ≡ answers ok 0 []
  acquire_grants h = go (sem_at s (no n)).count refl h
    where
      go : (k : ℕ) → (sem_at s (no n)).count ≡ k → 0 < k → (step s (call t (on_semaphore n (own (acquire a))))).answer ≡ answers ok 0 []
      go zero e z = absurd (omega arith)
      go (suc k) e z = acquire_by_lem (suc k) e

pub poll_times_out : (s : State) (t n : ℤ) → Passes s t (on_semaphore n (own (acquire polling))) → (sem_at s (no n)).count ≡ 0 → (step s (call t (on_semaphore n (own (acquire polling))))).answer ≡ refuses e_tmout
poll_times_out s t n p h = acquire_by_lem s t n polling p 0 h

pub wait_waits : (s : State) (t n : ℤ) → Passes s t (on_semaphore n (own (acquire forever))) → (sem_at s (no n)).count ≡ 0 → (step s (call t (on_semaphore n (own (acquire forever))))).answer ≡ answers waiting 0 []
wait_waits s t n p h = acquire_by_lem s t n forever p 0 h

-- "Set-vector. All four patterns are replaced": by whom the checks let pass, always
pub set_semaphore_done : (s : State) (t n : ℤ) (v : Vector) → Passes s t (on_semaphore n (set_vector v)) → (step s (call t (on_semaphore n (set_vector v)))).answer ≡ answers ok 0 []
set_semaphore_done s t n v p = acts s t (on_semaphore n (set_vector v)) p

-- "Semaphore: first waiter (0 if none), count, vector."
pub refer_semaphore : (s : State) (t n : ℤ) → Passes s t (on_semaphore n refer)
    → ReferTells (step s (call t (on_semaphore n refer))).answer (wait_queue s (place on_sem (no n))) [] (sem_at s (no n)).count (sem_at s (no n)).vector
refer_semaphore s t n p = subst (λ (a : Answer). ReferTells a (wait_queue s (place on_sem (no n))) [] (sem_at s (no n)).count (sem_at s (no n)).vector) (sym (acts s t (on_semaphore n refer) p))
    (record { code = refl; word = refl; released = refl; first = first (wait_queue s (place on_sem (no n))); second = refl; counted = refl; patterns = refl })
