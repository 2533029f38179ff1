-- Where those who wait stand as they came, a task that waits with k tasks ahead is released by the (k+1)th accepted call of the opposite kind on its object
use mathlib.Core.Path.{◌≡◌, refl, sym, ap, ◌∙◌}
use mathlib.Core.Logic.{◌⊎◌, inl, inr}
use mathlib.Core.Bool.{Bool, true, false}
use mathlib.Core.List.{List, [], ◌∷◌, ◌++◌, append_assoc, append-nil}
use mathlib.Core.Option.{Option, none, some}
use Prim.Native.Nat.{ℕ, ◌+◌, ◌≤◌}
use native.Mathlib.Nat.{add-zero}
use native.Mathlib.Omega.{arith}
use lib.ListN.{length, drop, length-drop}
use lib.Seq.{drop-drop, drop-length}
use Rattle.itron.specs.Codes.{ok, waiting, error}
use Rattle.model.specs.Lists.{cons_if, total}
use Rattle.model.specs.State.{Place, Waiter, State, Side, on_sem, receiving, sending, Sem, Queue, place, set_waits, sem_at, queue_at, same_place}
use Rattle.model.specs.Answers.{Answer, Out, say, tells}
use Rattle.model.specs.Waits.{stands_at, waiters_in, waiters_at, by_priority, standing, order_of, wait_queue, leave, join, freed}
use Rattle.model.specs.Rooms.{Asks}
use Rattle.model.specs.Calls.{Call, step}
use Rattle.model.specs.History.{event, after, history}
use Rattle.model.specs.Turns.{count_if, count_at, serves, tasks_of, FirstCome, InTurn}
use Rattle.model.proofs.Lists.{keep_append, Distinct, cons_ne}
use Rattle.model.proofs.WaitQueues.{place_of, leave_here, leave_elsewhere}
use Rattle.model.proofs.Endings.{Vacant}
use Rattle.model.proofs.Cover.{Endings, ends}
use Rattle.model.proofs.Steps.{distinct_after}
use Rattle.model.proofs.SemaphoreClaims as Semaphores
use Rattle.model.proofs.QueueClaims as Queues

-- ---- those who wait stand as they came at an object with attribute 0, and to receive from any queue
pub semaphore_first_come : (s : State) (i : ℕ) → (sem_at s i).attribute ≡ 0 → FirstCome s (place on_sem i)
semaphore_first_come s i h = ap by_priority h

pub senders_first_come : (s : State) (q : ℕ) → (queue_at s q).attribute ≡ 0 → FirstCome s (place sending q)
senders_first_come s q h = ap by_priority h

pub receivers_first_come : (s : State) (q : ℕ) → FirstCome s (place receiving q)
receivers_first_come s q = refl

-- and by priority at an object with attribute 1
pub semaphore_by_priority : (s : State) (i : ℕ) → (sem_at s i).attribute ≡ 1 → order_of s on_sem i ≡ true
semaphore_by_priority s i h = ap by_priority h

pub senders_by_priority : (s : State) (q : ℕ) → (queue_at s q).attribute ≡ 1 → order_of s sending q ≡ true
senders_by_priority s q h = ap by_priority h

-- ---- no call changes the order at a place
order_law : (s : State) (c : Call) (d : Side) (n : ℕ) → order_of (step s c).state d n ≡ order_of s d n
order_law s c on_sem n = ap (λ (x : Sem). by_priority x.attribute) ((Semaphores.entries_law s c).0 n)
order_law s c receiving n = refl
order_law s c sending n = ap (λ (x : Queue). by_priority x.attribute) ((Queues.entries_law s c).0 n)

first_come_after : (s : State) (p : Place) → FirstCome s p → (cs : List Call) → FirstCome (after s cs) p
unfolding after
first_come_after s p f [] = f
first_come_after s p f (c ∷ cs) = order_law (after s cs) c p.side p.number ∙ first_come_after s p f cs

as_they_came : (s : State) (p : Place) → FirstCome s p → wait_queue s p ≡ waiters_at s p
as_they_came s p f = ap (λ (b : Bool). standing b s.fixed.tasks (waiters_at s p)) f

-- ---- one call
abbrev Turn : State → Place → Waiter → List Waiter → State → Answer → ℕ → Type 0
Turn s p x l s' a n =
    ((n ≡ 1) × (waiters_at s' p ≡ l) × (tasks_of a.released ≡ x.task ∷ []))
    ⊎ ((n ≡ 0) × ((m : List Waiter) × (waiters_at s' p ≡ (x ∷ l) ++ m)))

abbrev TurnLaw : State → Place → ℕ → Asks → Out → Type 0
TurnLaw s p t y o = (x : Waiter) (l : List Waiter) → waiters_at s p ≡ x ∷ l → Turn s p x l o.state o.answer (count_at p (y.serves o.answer.code))

module _ (s : State) (d : Distinct s.waits) (p : Place) (u : FirstCome s p) where
  -- the waiters stay
  same : (s' : State) (a : Answer) (x : Waiter) (l : List Waiter) → waiters_at s' p ≡ waiters_at s p → waiters_at s p ≡ x ∷ l → Turn s p x l s' a 0
  same s' a x l e h = inr (refl, ([], e ∙ h ∙ sym (append-nil (x ∷ l))))

  -- they stay, and the place served, if any, is empty
  vacant : (s' : State) (a : Answer) (r : Option Place) (x : Waiter) (l : List Waiter) → Vacant s.waits r → waiters_at s' p ≡ waiters_at s p → waiters_at s p ≡ x ∷ l → Turn s p x l s' a (count_at p r)
  vacant s' a none x l z e h = same s' a x l e h
  vacant s' a (some r) x l z e h = go (same_place p r) refl
    where
      go : (b : Bool) → same_place p r ≡ b → Turn s p x l s' a (count_if b)
      go true f = absurd (cons_ne h (ap (waiters_at s) (sym (place_of p r f)) ∙ z))
      go false f = same s' a x l e h

  -- the first at the place served is released
  first : (s' : State) (a : Answer) (r : Place) (e : Waiter) (k : List Waiter) (x : Waiter) (l : List Waiter) → wait_queue s r ≡ e ∷ k
      → waiters_at s' p ≡ waiters_in (leave e.task s.waits) p → tasks_of a.released ≡ e.task ∷ [] → waiters_at s p ≡ x ∷ l
      → Turn s p x l s' a (count_if (same_place p r))
  first s' a r e k x l f v g h = go (same_place p r) refl
    where
      go : (b : Bool) → same_place p r ≡ b → Turn s p x l s' a (count_if b)
      go true j =
          let z : x ∷ l ≡ e ∷ k = sym h ∙ sym (as_they_came s p u) ∙ ap (wait_queue s) (sym (place_of p r j)) ∙ f in
          let zx : x ≡ e = cc in
          let zl : k ≡ l = cc in
          inl (refl, v ∙ leave_here s.waits false s.fixed.tasks p d (h ∙ z) ∙ zl, g ∙ ap (λ (y : Waiter). y.task ∷ []) (sym zx))
      go false j = same s' a x l (v ∙ leave_elsewhere s.waits (order_of s r.side r.number) s.fixed.tasks r d f p j) h

  -- another joins, somewhere, and the place served, if any, is empty
  joins : (e : Waiter) (a : Answer) (x : Waiter) (l : List Waiter) → waiters_at s p ≡ x ∷ l → Turn s p x l (set_waits s (join e s.waits)) a 0
  joins e a x l h = inr (refl, (cons_if (stands_at p e) e [], keep_append (stands_at p) s.waits (e ∷ []) ∙ ap (λ (m : List Waiter). m ++ cons_if (stands_at p e) e []) h))

  vacant_joins : (e : Waiter) (a : Answer) (r : Option Place) (x : Waiter) (l : List Waiter) → Vacant s.waits r → waiters_at s p ≡ x ∷ l → Turn s p x l (set_waits s (join e s.waits)) a (count_at p r)
  vacant_joins e a none x l z h = joins e a x l h
  vacant_joins e a (some r) x l z h = go (same_place p r) refl
    where
      go : (b : Bool) → same_place p r ≡ b → Turn s p x l (set_waits s (join e s.waits)) a (count_if b)
      go true f = absurd (cons_ne h (ap (waiters_at s) (sym (place_of p r f)) ∙ z))
      go false f = joins e a x l h

  turn_ends : Endings s (TurnLaw s p)
  turn_ends = record {
    refused = λ t y e o x l h. rw o (same s (say (error e) 0 []) x l refl h);
    tells = λ t y r o x l h. rw o (same s (tells (y.told s)) x l refl h);
    gives = λ t y s' w k v x l h. vacant s' (say ok w []) (y.serves ok) x l v (ap (λ (ws : List Waiter). waiters_in ws p) k.waits) h;
    wakes = λ t y s' r e m w z k v f x l h. rw v (first s' (say ok w (freed e z)) r e m x l f (ap (λ (ws : List Waiter). waiters_in ws p) k.waits) refl h);
    waits = λ t y e c i z f b v x l h. vacant_joins e (say waiting 0 []) (y.serves waiting) x l v h;
  }

  pub turn_law : (c : Call) (x : Waiter) (l : List Waiter) → waiters_at s p ≡ x ∷ l → Turn s p x l (step s c).state (step s c).answer (serves p (event s c))
  turn_law c = ends s (TurnLaw s p) turn_ends c

-- ---- the whole list
module _ (s : State) (d : Distinct s.waits) (p : Place) (u : FirstCome s p) (e : Waiter) (ahead behind : List Waiter) (h : waiters_at s p ≡ ahead ++ e ∷ behind) where
  abbrev Stands : State → ℕ → Type 0
  Stands s' k = (m : List Waiter) × (waiters_at s' p ≡ drop k ahead ++ e ∷ m)

  -- from k served to k or k + 1 served
  move : (s₁ s₂ : State) (a : Answer) (k n : ℕ) (f : List Waiter) → drop k ahead ≡ f → (m : List Waiter) → waiters_at s₁ p ≡ f ++ e ∷ m → k + n ≤ length ahead
      → ((x : Waiter) (l : List Waiter) → waiters_at s₁ p ≡ x ∷ l → Turn s₁ p x l s₂ a n) → Stands s₂ (k + n)
  move s₁ s₂ a k n [] g m w r t = go (t e m w)
    where
      go : Turn s₁ p e m s₂ a n → Stands s₂ (k + n)
      go (inl z) = absurd (omega (arith, z.0, length-drop k ahead, ap length g))
      go (inr z) = (m ++ z.1.0, rw (z.0, add-zero, g) z.1.1)
  move s₁ s₂ a k n (y ∷ f) g m w r t = go (t y (f ++ e ∷ m) w)
    where
      go : Turn s₁ p y (f ++ e ∷ m) s₂ a n → Stands s₂ (k + n)
      go (inl z) =
          let one : drop (k + n) ahead ≡ f = rw z.0 (sym (drop-drop 1 k ahead) ∙ ap (drop 1) g) in
          (m, z.1 ∙ ap (λ (l : List Waiter). l ++ e ∷ m) (sym one))
      go (inr z) = (m ++ z.1.0, rw (z.0, add-zero, g) (z.1.1 ∙ append_assoc (y ∷ f) (e ∷ m) z.1.0))

  still : (cs : List Call) → total (serves p) (history s cs) ≤ length ahead → Stands (after s cs) (total (serves p) (history s cs))
  unfolding after history
  still [] r = (behind, h)
  still (c ∷ cs) r =
      let i = still cs (omega arith) in
      move (after s cs) (step (after s cs) c).state (step (after s cs) c).answer (total (serves p) (history s cs)) (serves p (event (after s cs) c)) _ refl i.0 i.1 r (turn_law (after s cs) (distinct_after s d cs) p (first_come_after s p u cs) c)

  served : (cs : List Call) (c : Call) → total (serves p) (history s cs) ≡ length ahead → serves p (event (after s cs) c) ≡ 1
      → tasks_of (event (after s cs) c).answer.released ≡ e.task ∷ []
  served cs c r o = go (turn_law (after s cs) (distinct_after s d cs) p (first_come_after s p u cs) c e i.0 (i.1 ∙ ap (λ (l : List Waiter). l ++ e ∷ i.0) none_left))
    where
      i : Stands (after s cs) (total (serves p) (history s cs))
      i = still cs (omega arith)

      none_left : drop (total (serves p) (history s cs)) ahead ≡ []
      none_left = rw r (drop-length ahead)

      go : Turn (after s cs) p e i.0 (step (after s cs) c).state (step (after s cs) c).answer (serves p (event (after s cs) c)) → tasks_of (event (after s cs) c).answer.released ≡ e.task ∷ []
      go (inl z) = z.2
      go (inr z) = absurd (omega (arith, z.0))

  pub in_turn : InTurn s p e ahead
  in_turn = record { still = still; served = served }
