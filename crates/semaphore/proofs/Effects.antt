-- What the calls on a semaphore do, by what they find. Assumes nothing.
use Prim.Native.Nat.{ℕ, suc, ◌+◌, ◌-◌, ◌≤◌, ◌<◌}
use native.Mathlib.Numerals.{add-one}
use native.Mathlib.Omega.{arith}
use mathlib.Core.Path.{◌≡◌, refl, sym, ap, ◌∙◌}
use mathlib.Core.Bool.{Bool, true, false}
use mathlib.Core.List.{List, []}
use lib.Dec.{leb}
use borrow.Author.Tests.{le-leb, lt-leb}
use Rattle.itron.specs.Codes.{number_of}
use Rattle.itron.specs.declared.error.Error.TheVariants.{Qovr as e_qovr}
use Rattle.model.specs.Lists.{put}
use Rattle.model.specs.State.{TaskEntry, Waiter, place}
use Rattle.model.specs.Waits.{by_priority, or_waits}
use Rattle.model.specs.Semaphores.{sem_in, set_count, waiters_of, signal_by, on_signal, acquire_by, on_acquire}
use Rattle.model.specs.declared.sem.Semaphore.{Semaphore}
use Rattle.model.specs.declared.Info.{Info}
use Rattle.model.specs.declared.Reply.{Reply}
use Rattle.model.specs.declared.Patience.{Patience}
use Rattle.model.specs.declared.Side.TheVariants.{OnSem as on_sem}
use Rattle.tasks.specs.declared.state.Tasks.{Tasks}
use Rattle.tasks.specs.declared.task.Wait.TheVariants.{OnSem}
use Rattle.tasks.specs.declared.wait.Ended.{Ended}
use Rattle.tasks.specs.View.{entries_of, waits_of, waiter_of}
use Rattle.tasks.specs.Held as TasksHeld
use Rattle.tasks.specs.Ends.{woken_of, ended_of}
use Rattle.tasks.proofs.Firsts.{Waits}
use Rattle.tasks.proofs.Rooms.{gives_by, refuses_by, wakes_by, waits_by}
use Rattle.semaphore.specs.declared.state.Semaphores.{Semaphores}
use Rattle.tasks.specs.declared.effect.Effect.{Effect}
use Rattle.tasks.specs.Effects.{refused_with, done_with, ended_with}
use Rattle.semaphore.specs.View.{sems_of}
use Rattle.semaphore.specs.Form.{sems_as}
use Rattle.semaphore.specs.Held.{Held}
use Rattle.semaphore.specs.Effects.{effect_as}

abbrev pub effect : Reply → Info → Tasks → Semaphores → Effect Semaphores
effect r i t s = record { reply = r; info = i; tasks = t; records = s }

abbrev with_count : Semaphore → ℕ → Semaphore
with_count x n = record { domain = x.domain; attribute = x.attribute; max = x.max; count = n; vector = x.vector }

module _ {t : Tasks} {s : Semaphores} (ht : TasksHeld.Held t) (h : Held s) (k : ℕ) where
  abbrev es : List TaskEntry
  es = entries_of t

  abbrev ws : List Waiter
  ws = waits_of t

  abbrev xs : List Semaphore
  xs = sems_of s

  abbrev full : Semaphore → Bool
  full x = leb x.max x.count

  pub signal_wakes_lem : {i w : ℕ} → Waits t (by_priority (sem_in xs (suc k)).attribute) (place on_sem (suc k)) i w → (e : Ended) → e ≡ woken_of es ws i 0 0 → ended_with e s ≡ effect_as es (on_signal es ws xs (suc k))
  signal_wakes_lem y e q =
      wakes_by sems_as effect ht h.form y 0 0 e q
      ∙ ap (λ (l : List Waiter). effect_as es (signal_by ws xs (suc k) l (full (sem_in xs (suc k))))) (sym y.list)

  module _ (x : Semaphore) (is : x ≡ sem_in xs (suc k)) where
    -- the semaphores with another count
    counts : (n m : ℕ) → n ≡ m → sems_as (put xs (suc k) (with_count x n)) ≡ sems_as (set_count xs (suc k) m)
    counts n m e = λ i. sems_as (put xs (suc k) (with_count (is i) (e i)))

    module _ (e : waiters_of es ws xs (suc k) ≡ []) where
      signals : (b : Bool) → full x ≡ b → effect_as es (signal_by ws xs (suc k) [] b) ≡ effect_as es (on_signal es ws xs (suc k))
      signals b f =
          let g : b ≡ full (sem_in xs (suc k)) = sym f ∙ ap full is in
          λ i. effect_as es (signal_by ws xs (suc k) (sym e i) (g i))

      pub signal_full_lem : x.max ≤ x.count → refused_with t s (number_of e_qovr) ≡ effect_as es (on_signal es ws xs (suc k))
      signal_full_lem l = refuses_by sems_as effect ht h.form e_qovr ∙ signals true (le-leb x.max x.count l)

      pub signal_counts_lem : x.count < x.max → done_with t (sems_as (put xs (suc k) (with_count x (x.count + 1)))) 0 ≡ effect_as es (on_signal es ws xs (suc k))
      signal_counts_lem l =
          let c : x.count + 1 ≡ suc (sem_in xs (suc k)).count = add-one x.count ∙ ap (λ (y : Semaphore). suc y.count) is in
          gives_by sems_as effect ht (counts (x.count + 1) (suc (sem_in xs (suc k)).count) c) 0 ∙ signals false (lt-leb x.max x.count l)

    module _ (task : ℕ) (p : Patience) where
      acquires : (n : ℕ) → x.count ≡ n → effect_as es (acquire_by ws xs (suc task) (suc k) p n) ≡ effect_as es (on_acquire ws xs (suc task) (suc k) p)
      acquires n e = ap (λ (m : ℕ). effect_as es (acquire_by ws xs (suc task) (suc k) p m)) (sym e ∙ ap (λ (y : Semaphore). y.count) is)

      pub acquire_takes : 0 < x.count → done_with t (sems_as (put xs (suc k) (with_count x (x.count - 1)))) 0 ≡ effect_as es (on_acquire ws xs (suc task) (suc k) p)
      acquire_takes l =
          gives_by sems_as effect ht (counts (x.count - 1) (x.count - 1) refl) 0 ∙ acquires (suc (x.count - 1)) (omega arith)

      pub acquire_waits_lem : x.count ≤ 0 → (e : Ended) → e ≡ ended_of es (or_waits {R = ℕ} ws [] p (waiter_of (suc task) (OnSem k))) → ended_with e s ≡ effect_as es (on_acquire ws xs (suc task) (suc k) p)
      acquire_waits_lem l e q = waits_by sems_as effect ht h.form p (waiter_of (suc task) (OnSem k)) e q ∙ acquires 0 (omega arith)
