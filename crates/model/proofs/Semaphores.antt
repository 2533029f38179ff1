-- The semaphores' room: what each call on one does, by cases, and how it can end. Assumes nothing.
use mathlib.Core.Path.{◌≡◌, refl, ap}
use mathlib.Core.Logic.{◌≢◌}
use mathlib.Core.Bool.{Bool, true, false}
use mathlib.Core.List.{List, [], ◌∷◌}
use mathlib.Core.Option.{none}
use Prim.Native.Nat.{ℕ, zero, suc, ◌+◌, ◌≤◌}
use native.Mathlib.Omega.{arith}
use lib.Dec.{leb}
use lib.ListN.{length}
use Rattle.access.specs.Vectors.{pattern_of}
use Rattle.itron.specs.Codes.{error, waiting}
use Rattle.itron.specs.declared.error.Error.{Error as Refusal}
use Rattle.itron.specs.declared.error.Error.TheVariants.{Qovr as e_qovr, Tmout as e_tmout}
use Rattle.model.specs.Lists.{All}
use Rattle.model.specs.State.{Vector, TaskEntry, Sem, Waiter, State, Place, Side, receiving, sending, on_sem, place, waiter, no_sem, zero_vector}
use Rattle.model.specs.Answers.{Effect, effect, say, when_ok}
use Rattle.model.specs.Waits.{Patience, polling, forever, waiters_in, by_priority, order_of, join, refusal, wakes, gives}
use Rattle.model.specs.Acts.{Act, own, refer, set_vector, of_own, operation_of}
use Rattle.model.specs.Rooms.{act_on}
use Rattle.model.specs.Semaphores.{SemaphoreCall, signal, acquire, operation, sem_in, set_count, waiters_of, begins, serves, signal_by, acquire_by, does, room}
use Rattle.model.specs.SemaphoreClaims.{pattern_for, signal_in, grant_in}
use Rattle.model.specs.Conditions.{Plain, Registered}
use Rattle.model.proofs.Lists.{at_put_same, at_put_keep}
use Rattle.model.proofs.Order.{standing_none}
use Rattle.model.proofs.Endings.{SameBut, same_all, same_put, Ends}
use Rattle.model.proofs.Endings as Endings
use Rattle.model.proofs.Rooms.{room_of, is_at, is_at_lem, RoomLaws}

-- which room it is
abbrev tag : ℕ
tag = room_of on_sem

-- ---- "Signal .. [is] normal operation 1. Poll, wait .. are normal operation 2. Set-vector is management, refer is reference"
pub governs : (v : Vector) (a : Act SemaphoreCall) → pattern_of v (operation_of operation a) ≡ pattern_for v a
governs v (own signal) = refl
governs v (own (acquire p)) = refl
governs v refer = refl
governs v (set_vector w) = refl

-- ---- what no own call changes, and what no call changes
abbrev pub entry : Sem → Sem
entry x = record { domain = x.domain; attribute = x.attribute; max = x.max; count = 0; vector = x.vector }

abbrev pub bare : Sem → Sem
bare x = record { domain = x.domain; attribute = x.attribute; max = x.max; count = 0; vector = zero_vector }

-- ---- in which order those who wait for one stand
abbrev pub order_on : List Sem → Side → ℕ → Bool
order_on xs on_sem i = by_priority (sem_in xs i).attribute
order_on xs receiving i = false
order_on xs sending i = false

abbrev pub order : List Sem → Place → Bool
order xs p = order_on xs p.side p.number

pub order_at : (s : State) (p : Place) → room_of p.side ≡ tag → order s.sems p ≡ order_of s p.side p.number
order_at s p h = go p.side h
  where
    go : (d : Side) → room_of d ≡ tag → order_on s.sems d p.number ≡ order_of s d p.number
    go on_sem e = refl
    go receiving e = refl
    go sending e = absurd (let z : ◌≡◌ {A = ℕ} 1 0 = e in omega arith)

module _ (ts : List TaskEntry) (ws : List Waiter) (xs : List Sem) (t i : ℕ) where
  -- a claim about a call and what it gives holds if it holds in each of these cases
  pub record Cases (P : SemaphoreCall → Effect Sem → Type 0) : Type 0 where
    pub signal_wakes : (e : Waiter) (l : List Waiter) → waiters_of ts ws xs i ≡ e ∷ l → P signal (wakes ws xs e 0 0)
    pub signal_full : waiters_of ts ws xs i ≡ [] → leb (sem_in xs i).max (sem_in xs i).count ≡ true → P signal (refusal ws xs e_qovr)
    pub signal_counts : waiters_of ts ws xs i ≡ [] → leb (sem_in xs i).max (sem_in xs i).count ≡ false → P signal (gives ws (set_count xs i (suc (sem_in xs i).count)) 0)
    pub acquires : (p : Patience) (k : ℕ) → (sem_in xs i).count ≡ suc k → P (acquire p) (gives ws (set_count xs i k) 0)
    pub poll_fails : (sem_in xs i).count ≡ 0 → P (acquire polling) (refusal ws xs e_tmout)
    pub acquire_waits : (sem_in xs i).count ≡ 0 → P (acquire forever) (effect (say waiting 0 []) (join (waiter t on_sem i 0) ws) xs)

  module _ (P : SemaphoreCall → Effect Sem → Type 0) (cs : Cases P) where
    pub cover : (c : SemaphoreCall) → P c (does ts ws xs t i c)
    cover signal = go (waiters_of ts ws xs i) (leb (sem_in xs i).max (sem_in xs i).count) refl refl
      where
        go : (l : List Waiter) (full : Bool) → waiters_of ts ws xs i ≡ l → leb (sem_in xs i).max (sem_in xs i).count ≡ full → P signal (signal_by ws xs i l full)
        go (e ∷ l) full h r = cs.signal_wakes e l h
        go [] true h r = cs.signal_full h r
        go [] false h r = cs.signal_counts h r
    cover (acquire p) = go p (sem_in xs i).count refl
      where
        go : (p : Patience) (k : ℕ) → (sem_in xs i).count ≡ k → P (acquire p) (acquire_by ws xs t i p k)
        go p (suc k) h = cs.acquires p k h
        go polling zero h = cs.poll_fails h
        go forever zero h = cs.acquire_waits h

  abbrev EndsSo : SemaphoreCall → Effect Sem → Type 0
  EndsSo c o = Ends Sem ts ws xs t (is_at tag i) (order xs) (SameBut no_sem entry i xs) (begins t i c) (serves i c) o

  pub ends : (c : SemaphoreCall) → Ends Sem ts ws xs t (is_at tag i) (order xs) (SameBut no_sem entry i xs) (begins t i c) (serves i c) (does ts ws xs t i c)
  ends c = cover EndsSo (record {
    signal_wakes = λ e l h. Endings.wakes xs (place on_sem i) e l 0 0 (same_all no_sem entry i xs) (is_at_lem tag i (place on_sem i) refl refl) refl h;
    signal_full = λ h r. Endings.refused e_qovr (λ q. let z : ◌≡◌ {A = ℕ} 0 1 = cc in omega arith);
    signal_counts = λ h r. Endings.gives _ 0 (same_put no_sem entry i xs _ refl) (standing_none (by_priority (sem_in xs i).attribute) ts (waiters_in ws (place on_sem i)) h);
    acquires = λ p k h. Endings.gives _ 0 (same_put no_sem entry i xs _ refl) tt;
    poll_fails = λ h. Endings.refused e_tmout (λ q. let z : ◌≡◌ {A = ℕ} 0 1 = cc in omega arith);
    acquire_waits = λ h. Endings.waits (waiter t on_sem i 0) refl (is_at_lem tag i (place on_sem i) refl refl) refl tt;
  }) c

  -- count + grants = count before + accepted signals
  module _ (h : i ≢ 0) (r : i ≤ length xs) where
    set_count_lem : (k : ℕ) → (sem_in (set_count xs i k) i).count ≡ k
    set_count_lem k = ap (λ (x : Sem). x.count) (at_put_same no_sem xs i _ h r)

    abbrev CountLaw : SemaphoreCall → Effect Sem → Type 0
    CountLaw c o = (sem_in o.records i).count + when_ok 0 (grant_in o.answer.released c) o.answer.code ≡ (sem_in xs i).count + when_ok 0 (signal_in c) o.answer.code

    pub counts : (a : Act SemaphoreCall) → (sem_in (act_on room ts ws xs t i a).records i).count + when_ok 0 (of_own 0 (grant_in (act_on room ts ws xs t i a).answer.released) a) (act_on room ts ws xs t i a).answer.code
        ≡ (sem_in xs i).count + when_ok 0 (of_own 0 signal_in a) (act_on room ts ws xs t i a).answer.code
    counts refer = refl
    counts (set_vector v) = ap (λ (k : ℕ). k + 0) (at_put_keep (λ (x : Sem). x.count) no_sem xs i i _ refl)
    counts (own c) = cover CountLaw (record {
      signal_wakes = λ e l q. refl;
      signal_full = λ q u. refl;
      signal_counts = λ q u. rw (set_count_lem (suc (sem_in xs i).count)) (omega arith);
      acquires = λ p k q. rw (set_count_lem k) (omega arith);
      poll_fails = λ q. refl;
      acquire_waits = λ q. refl;
    }) c

-- ---- the room
pub begins_mine : (t i : ℕ) (c : SemaphoreCall) → All (λ (e : Waiter). is_at tag i e.place ≡ true) (begins t i c)
begins_mine t i signal = tt
begins_mine t i (acquire p) = (is_at_lem tag i (place on_sem i) refl refl, tt)

pub begins_plain : (s : State) (t i : ℕ) → i ≢ 0 → i ≤ length s.sems → (c : SemaphoreCall) → All (λ (e : Waiter). Plain e × Registered s e) (begins t i c)
begins_plain s t i h r signal = tt
begins_plain s t i h r (acquire p) = (((h, refl), r), tt)

pub serves_no : (i : ℕ) (e : Refusal) (c : SemaphoreCall) → serves i c (error e) ≡ none
serves_no i e signal = refl
serves_no i e (acquire p) = refl

abbrev pub laws : RoomLaws room
laws = record {
  tag = tag;
  fixed_with = λ s ws xs. refl;
  waits_with = λ s ws xs. refl;
  records_with = λ s ws xs. refl;
  same_with = λ s ws. refl;
  entry = entry;
  bare = bare;
  bare_entry = λ x. refl;
  bare_vector = λ x v. refl;
  vector_entry = λ x. refl;
  vector_set = λ x v. refl;
  order = order;
  order_at = order_at;
  ends = ends;
  begun = begins_mine;
  plain = begins_plain;
  unserved = serves_no;
  told_first = λ ts ws xs i m h. h (by_priority (sem_in xs i).attribute) (place on_sem i);
  told_second = λ ts ws xs i m h. omega arith;
}
