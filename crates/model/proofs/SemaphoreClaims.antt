-- What one semaphore sees of a call: count + grants = start + accepted signals, and what all states have in common of it. Assumes nothing.
use mathlib.Core.Path.{◌≡◌, refl, sym, ap, ◌∙◌, subst, subst₂}
use mathlib.Core.Logic.{◌≢◌, ◌⊎◌, inl, inr}
use mathlib.Core.List.{List, [], ◌∷◌}
use Prim.Native.Nat.{ℕ, suc, ◌+◌, ◌≤◌}
use native.Mathlib.Omega.{arith}
use lib.ListN.{length}
use borrow.Author.Tests.{leb-false}
use Rattle.itron.specs.Codes.{Code}
use Rattle.model.specs.Lists.{All}
use Rattle.model.specs.State.{TaskEntry, Sem, Waiter, on_sem, State, place, no_sem, sem_at}
use Rattle.model.specs.Answers.{when_ok}
use Rattle.model.specs.Waits.{waiters_in, by_priority}
use Rattle.model.specs.Acts.{Act, own, refer, set_vector}
use Rattle.model.specs.Rooms.{act_on}
use Rattle.model.specs.Semaphores.{SemaphoreCall, sem_in, set_count, waiters_of, room}
use Rattle.model.specs.SemaphoreClaims.{asked_of, by_semaphore, signals, grants, Counted}
use Rattle.model.specs.Calls.{Op, on_semaphore, on_queue, on_level, Call, step}
use Rattle.model.specs.Conditions.{SemEntryFits, Within, Spent}
use Rattle.model.specs.History.{event, seen_by, vector_by, after, history}
use Rattle.model.proofs.Lists.{Distinct, at_put_same, at_put_keep}
use Rattle.model.proofs.Order.{standing_none, standing_first}
use Rattle.model.proofs.Rooms.{is_at_lem, stranger, stranger_level}
use Rattle.model.proofs.Semaphores.{bare, laws, cover, counts}
use Rattle.model.proofs.Queues as QueueRoom
use Rattle.model.proofs.Cover.{Whose, mine, foreign, sees, entries_stay, all_stay, vector_law}

-- ---- whose a call is, as the semaphores see it
pub whose : (op : Op) → Whose room laws asked_of op
whose (on_semaphore n a) = mine n a refl (λ i. refl)
whose (on_queue n a) = foreign (stranger room laws.tag QueueRoom.laws (λ h. let z : ◌≡◌ {A = ℕ} 1 0 = h in omega arith) (λ s ws xs. refl) n a) (λ i. refl)
whose (on_level c) = foreign (stranger_level room laws.tag (λ s ls. refl) c) (λ i. refl)

-- ---- an entry is kept as given: no call changes a semaphore's owner, attribute or limit, or the number of semaphores
pub entries_law : (s : State) (c : Call) → ((i : ℕ) → bare (sem_at (step s c).state i) ≡ bare (sem_at s i)) × (length (step s c).state.sems ≡ length s.sems)
entries_law s c = entries_stay room laws asked_of whose s c

-- so each still fits
pub entries_step : (s : State) (n : ℕ) → All (SemEntryFits n) s.sems → (c : Call) → All (SemEntryFits n) (step s c).state.sems
entries_step s n f c = all_stay room laws asked_of whose s (SemEntryFits n) f c

-- its vector is the last one set on it
pub set_law : (s : State) (i : ℕ) (c : Call) → (sem_at (step s c).state i).vector ≡ vector_by (asked_of i c.op) (step s c).answer.code (sem_at s i).vector
set_law s i c = vector_law room laws asked_of whose s i c

-- ---- one call: count + grants = count before + accepted signals
unseen : (x y : ℕ) (k : Code) → y ≡ x → y + when_ok 0 0 k ≡ x + when_ok 0 0 k
unseen x y k e = ap (λ (z : ℕ). z + when_ok 0 0 k) e

pub count_law : (s : State) (i : ℕ) (c : Call)
    → (sem_at (step s c).state i).count + grants (seen_by (asked_of i) (event s c)) ≡ (sem_at s i).count + signals (seen_by (asked_of i) (event s c))
count_law s i c = sees room laws asked_of whose s i (λ m s'. (sem_at s' i).count + grants m ≡ (sem_at s i).count + signals m) (record {
  refused = λ t a x e. refl;
  elsewhere = λ t x a s' e f. unseen (sem_at s i).count (sem_at s' i).count a.code (ap (λ (x : Sem). x.count) e);
  here = λ t a x p. counts s.fixed.tasks s.waits s.sems t i p.numbered p.there a;
}) c

-- ---- a semaphore's count is at most its limit
within_here : (ts : List TaskEntry) (ws : List Waiter) (xs : List Sem) (t i : ℕ) → i ≢ 0 → i ≤ length xs → (sem_in xs i).count ≤ (sem_in xs i).max → (a : Act SemaphoreCall)
    → (sem_in (act_on room ts ws xs t i a).records i).count ≤ (sem_in (act_on room ts ws xs t i a).records i).max
within_here ts ws xs t i h r w refer = w
within_here ts ws xs t i h r w (set_vector v) =
    subst₂ (λ (a b : ℕ). a ≤ b) (sym (at_put_keep (λ (x : Sem). x.count) no_sem xs i i _ refl)) (sym (at_put_keep (λ (x : Sem). x.max) no_sem xs i i _ refl)) w
within_here ts ws xs t i h r w (own c) = cover ts ws xs t i (λ c o. (sem_in o.records i).count ≤ (sem_in o.records i).max) (record {
  signal_wakes = λ e l q. w;
  signal_full = λ q u. w;
  signal_counts = λ q u. set (suc (sem_in xs i).count) (leb-false _ _ u);
  acquires = λ p k q. set k (omega arith);
  poll_fails = λ q. w;
  acquire_waits = λ q. w;
}) c
  where
    set : (k : ℕ) → k ≤ (sem_in xs i).max → (sem_in (set_count xs i k) i).count ≤ (sem_in (set_count xs i k) i).max
    set k b = subst (λ (x : Sem). x.count ≤ x.max) (sym (at_put_same no_sem xs i _ h r)) b

pub within_step : (s : State) → Within s → (c : Call) → Within (step s c).state
within_step s w c i = sees room laws asked_of whose s i (λ m s'. (sem_at s' i).count ≤ (sem_at s' i).max) (record {
  refused = λ t a x e. w i;
  elsewhere = λ t x a s' e f. subst (λ (x : Sem). x.count ≤ x.max) (sym e) (w i);
  here = λ t a x p. within_here s.fixed.tasks s.waits s.sems t i p.numbered p.there (w i) a;
}) c

-- ---- who waits on a semaphore finds its count at 0
abbrev SpentIn : List Waiter → List Sem → ℕ → Type 0
SpentIn ws xs i = (waiters_in ws (place on_sem i) ≡ []) ⊎ ((sem_in xs i).count ≡ 0)

spent_same : (ws us : List Waiter) (xs ys : List Sem) (i : ℕ) → waiters_in us (place on_sem i) ≡ waiters_in ws (place on_sem i) → (sem_in ys i).count ≡ (sem_in xs i).count → SpentIn ws xs i → SpentIn us ys i
spent_same ws us xs ys i w c (inl h) = inl (w ∙ h)
spent_same ws us xs ys i w c (inr h) = inr (c ∙ h)

-- the one that is called
module _ (ts : List TaskEntry) (ws : List Waiter) (xs : List Sem) (t i : ℕ) (k : SpentIn ws xs i) where
  nobody : (m : ℕ) → (sem_in xs i).count ≡ suc m → waiters_in ws (place on_sem i) ≡ []
  nobody m h = go k
    where
      go : SpentIn ws xs i → waiters_in ws (place on_sem i) ≡ []
      go (inl e) = e
      go (inr e) = absurd (omega (arith, e, h))

  zero_now : {e : Waiter} {l : List Waiter} → waiters_of ts ws xs i ≡ e ∷ l → (sem_in xs i).count ≡ 0
  zero_now h = go k
    where
      go : SpentIn ws xs i → (sem_in xs i).count ≡ 0
      go (inl z) = absurd (standing_first (by_priority (sem_in xs i).attribute) ts (waiters_in ws (place on_sem i)) h z)
      go (inr z) = z

  spent_here : (a : Act SemaphoreCall) → SpentIn (act_on room ts ws xs t i a).waits (act_on room ts ws xs t i a).records i
  spent_here refer = k
  spent_here (set_vector v) = spent_same ws ws xs _ i refl (at_put_keep (λ (x : Sem). x.count) no_sem xs i i _ refl) k
  spent_here (own c) = cover ts ws xs t i (λ c o. SpentIn o.waits o.records i) (record {
    signal_wakes = λ e l h. inr (zero_now h);
    signal_full = λ h r. k;
    signal_counts = λ h r. inl (standing_none (by_priority (sem_in xs i).attribute) ts (waiters_in ws (place on_sem i)) h);
    acquires = λ p m h. inl (nobody m h);
    poll_fails = λ h. k;
    acquire_waits = λ h. inr h;
  }) c

pub spent_step : (s : State) → Distinct s.waits → ((i : ℕ) → Spent s i) → (i : ℕ) (c : Call) → Spent (step s c).state i
spent_step s d k i c = sees room laws asked_of whose s i (λ m s'. Spent s' i) (record {
  refused = λ t a x e. k i;
  elsewhere = λ t x a s' e f. spent_same s.waits s'.waits s.sems s'.sems i (f d (place on_sem i) (is_at_lem laws.tag i (place on_sem i) refl refl)) (ap (λ (z : Sem). z.count) e) (k i);
  here = λ t a x p. spent_here s.fixed.tasks s.waits s.sems t i (k i) a;
}) c

-- ---- the whole list
pub counted : (s₀ : State) (cs : List Call) (i : ℕ) → Counted (sem_at s₀ i).count (by_semaphore i (history s₀ cs)) (sem_at (after s₀ cs) i).count
unfolding after history
counted s₀ [] i = refl
counted s₀ (c ∷ cs) i = omega (arith, counted s₀ cs i, count_law (after s₀ cs) i c)
