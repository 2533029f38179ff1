-- What demand 3 says of a queue in priority order, and the order of every wait queue (request T-10). Assumes nothing.
use mathlib.Core.Path.{◌≡◌, refl, sym, ap, ◌∙◌, subst}
use mathlib.Core.Bool.{Bool, true, false, cond}
use mathlib.Core.List.{List, [], ◌∷◌, ◌++◌, map, head-eq_of_cons-eq, tail-eq_of_cons-eq}
use Prim.Native.Nat.{ℕ, ◌≤◌, ◌<◌}
use native.Mathlib.Omega.{arith}
use lib.Dec.{eqb, leb}
use lib.IntN.{ℤ}
use borrow.Author.Tests.{leb-true, leb-false}
use Rattle.model.specs.Lists.{All, Each, keep, cons_if, arrange}
use Rattle.model.specs.State.{Place, Queue, Waiter, State, queue_at, priority_at}
use Rattle.model.specs.Waits.{waiters_at, standing, order_of, wait_queue, senders}
use Rattle.model.specs.Demand3.{Demand3}
use Rattle.model.specs.Queues.{QueueCall}
use Rattle.model.specs.History.{History, Made}
use Rattle.model.specs.Sends.{Sent, unforced, accepted, waiting_sends, enters, entered}
use Rattle.model.specs.QueueClaims.{by_queue, Sender, sender_of, sender_in, line_of, Rising, Carried}
use Rattle.model.proofs.Lists.{cons_ne, eqb_same, eqb_no}
use Rattle.model.proofs.Order.{Ranked, ranked_arrange, in_line_lem, standing_line, standing_rises}
use Rattle.model.proofs.Allowed.{each_at}
use Rattle.model.proofs.CallOrder.{line_order}

module _ {A : Type 0} (rank : A → ℕ) where
  abbrev row : ℕ → List A → List A
  row k l = keep (λ (x : A). eqb k (rank x)) l

  -- nobody of a lower rank is there
  none_lower : (k : ℕ) (l : List A) → All (λ (x : A). k < rank x) l → row k l ≡ []
  none_lower k [] h = refl
  none_lower k (x ∷ l) h = ap (λ (b : Bool). cons_if b x (row k l)) (eqb_no k (rank x) (λ e. omega (arith, e, h.0))) ∙ none_lower k l h.1

  above : (k n : ℕ) (l : List A) → k < n → All (λ (x : A). n ≤ rank x) l → All (λ (x : A). k < rank x) l
  above k n [] h f = tt
  above k n (x ∷ l) h f = (omega (arith, h, f.0), above k n l h f.1)

  heads_row : (x : A) (l : List A) → row (rank x) (x ∷ l) ≡ x ∷ row (rank x) l
  heads_row x l = ap (λ (b : Bool). cons_if b x (row (rank x) l)) (eqb_same (rank x))

  -- of two lists by rank with the same elements of each rank in the same order, the first is no lower in one
  not_lower : (x y : A) (l m : List A) → Ranked rank (y ∷ m) → ((k : ℕ) → row k (x ∷ l) ≡ row k (y ∷ m)) → rank x < rank y → ⊥
  not_lower x y l m o f h = cons_ne (heads_row x l) (f (rank x) ∙ none_lower (rank x) (y ∷ m) (h, above (rank x) (rank y) m h o.0))

  -- two lists by rank with the same elements of each rank in the same order are the same
  same_rows : (l m : List A) → Ranked rank l → Ranked rank m → ((k : ℕ) → row k l ≡ row k m) → l ≡ m
  same_rows [] [] o q f = refl
  same_rows [] (y ∷ m) o q f = absurd (cons_ne (heads_row y m) (sym (f (rank y))))
  same_rows (x ∷ l) [] o q f = absurd (cons_ne (heads_row x l) (f (rank x)))
  same_rows (x ∷ l) (y ∷ m) o q f = λ i. first i ∷ same_rows l m o.1 q.1 rest i
    where
      alike : rank x ≡ rank y
      alike = go (leb (rank x) (rank y)) (leb (rank y) (rank x)) refl refl
        where
          go : (a b : Bool) → leb (rank x) (rank y) ≡ a → leb (rank y) (rank x) ≡ b → rank x ≡ rank y
          go true true g h = omega (arith, leb-true (rank x) (rank y) g, leb-true (rank y) (rank x) h)
          go true false g h = absurd (not_lower x y l m q f (leb-false (rank y) (rank x) h))
          go false b g h = absurd (not_lower y x m l o (λ k. sym (f k)) (leb-false (rank x) (rank y) g))

      here : row (rank x) (y ∷ m) ≡ y ∷ row (rank x) m
      here = ap (λ (b : Bool). cons_if b y (row (rank x) m)) (ap (eqb (rank x)) (sym alike) ∙ eqb_same (rank x))

      first : x ≡ y
      first = head-eq_of_cons-eq (sym (heads_row x l) ∙ f (rank x) ∙ here)

      rest : (k : ℕ) → row k l ≡ row k m
      rest k = go (eqb k (rank x)) refl
        where
          go : (b : Bool) → eqb k (rank x) ≡ b → row k l ≡ row k m
          go true e = tail-eq_of_cons-eq (ap (λ (b : Bool). cons_if b x (row k l)) (sym e) ∙ f k ∙ ap (λ (b : Bool). cons_if b y (row k m)) (ap (eqb k) (sym alike) ∙ e))
          go false e = ap (λ (b : Bool). cons_if b x (row k l)) (sym e) ∙ f k ∙ ap (λ (b : Bool). cons_if b y (row k m)) (ap (eqb k) (sym alike) ∙ e)

-- the waiting senders as they stand, by the line of each
ranked_senders : (line : ℕ → ℕ) (l : List Waiter) → Rising (map (λ (e : Waiter). line e.task) l) → Ranked (λ (y : Sender). line y.task) (map sender_of l)
ranked_senders line [] h = tt
ranked_senders line (e ∷ l) h = (each l h.0, ranked_senders line l h.1)
  where
    each : (l : List Waiter) → All (λ (n : ℕ). line e.task ≤ n) (map (λ (u : Waiter). line u.task) l) → All (λ (y : Sender). line e.task ≤ line y.task) (map sender_of l)
    each [] k = tt
    each (u ∷ l) k = (k.0, each l k.1)

-- ---- of a queue in priority order
module _ {domain : ℕ → ℤ} {priority : ℕ → ℕ} {x : Queue} {h : List (Made QueueCall)} {buffer : List ℕ} {senders : List Waiter} (d : Carried domain priority x h buffer senders) (ordered : x.attribute ≡ 1) where
  -- "stand by priority, and equals in order of arrival": the waiting senders, first to last, are all whose send waits, arranged by priority
  pub senders_stand : map sender_of senders ≡ arrange (λ (y : Sender). priority y.task) (map sender_in (waiting_sends h))
  senders_stand =
      same_rows (λ (y : Sender). line_of priority x y.task) (map sender_of senders) (arrange (λ (y : Sender). line_of priority x y.task) (map sender_in (waiting_sends h)))
      (ranked_senders (line_of priority x) senders d.in_lines) (ranked_arrange (λ (y : Sender). line_of priority x y.task) (map sender_in (waiting_sends h)))
      (λ k. d.senders_are k ∙ sym (in_line_lem (λ (y : Sender). line_of priority x y.task) k (map sender_in (waiting_sends h))))
      ∙ ap (λ (n : ℕ). arrange (λ (y : Sender). cond (eqb n 1) (priority y.task) 0) (map sender_in (waiting_sends h))) ordered

  -- with a call, wherever it stands in the list, no send that is not forced enters or passes while a more urgent one waits
  pub urgent_goes : (a g : List (Made QueueCall)) (m : Made QueueCall) → h ≡ a ++ (m ∷ g) → All (λ (y : Sent). All (λ (z : Sent). priority y.task ≤ priority z.task) (waiting_sends g)) (keep unforced (enters m g))
  urgent_goes a g m e =
      subst (λ (n : ℕ). All (λ (y : Sent). All (λ (z : Sent). cond (eqb n 1) (priority y.task) 0 ≤ cond (eqb n 1) (priority z.task) 0) (waiting_sends g)) (keep unforced (enters m g))) ordered
      (each_at (λ (m : Made QueueCall) (g : List (Made QueueCall)). All (λ (y : Sent). All (λ (z : Sent). line_of priority x y.task ≤ line_of priority x z.task) (waiting_sends g)) (keep unforced (enters m g))) a m g (subst (Each _) e d.urgent_first))

-- ---- every wait queue, of semaphores and receivers too: the same tasks as those who wait there, in the order that holds
module _ (s : State) (p : Place) where
  pub stand_as_they_came : order_of s p.side p.number ≡ false → wait_queue s p ≡ waiters_at s p
  stand_as_they_came f = ap (λ (b : Bool). standing b s.fixed.tasks (waiters_at s p)) f

  module _ (f : order_of s p.side p.number ≡ true) where
    -- the more urgent first
    pub stand_by_priority : Rising (map (λ (e : Waiter). priority_at s e.task) (wait_queue s p))
    stand_by_priority = subst (λ (b : Bool). Rising (map (λ (e : Waiter). priority_at s e.task) (standing b s.fixed.tasks (waiters_at s p)))) (sym f) (standing_rises true s.fixed.tasks (waiters_at s p))

    -- equals as they came, and nobody left out
    pub equals_as_they_came : (k : ℕ) → keep (λ (e : Waiter). eqb k (priority_at s e.task)) (wait_queue s p) ≡ keep (λ (e : Waiter). eqb k (priority_at s e.task)) (waiters_at s p)
    equals_as_they_came k = subst (λ (b : Bool). keep (λ (e : Waiter). eqb k (priority_at s e.task)) (standing b s.fixed.tasks (waiters_at s p)) ≡ keep (λ (e : Waiter). eqb k (priority_at s e.task)) (waiters_at s p)) (sym f) (standing_line true s.fixed.tasks k (waiters_at s p))

-- ---- and of demand 3 itself
module _ {s₀ s : State} {h : History} (d : Demand3 s₀ h s) (q : ℕ) (ordered : (queue_at s₀ q).attribute ≡ 1) where
  pub demand_stands : map sender_of (senders s q) ≡ arrange (λ (y : Sender). priority_at s₀ y.task) (map sender_in (waiting_sends (by_queue q h)))
  demand_stands = senders_stand (d.queues q) ordered

  pub demand_urgent : (a g : List (Made QueueCall)) (m : Made QueueCall) → by_queue q h ≡ a ++ (m ∷ g) → All (λ (y : Sent). All (λ (z : Sent). priority_at s₀ y.task ≤ priority_at s₀ z.task) (waiting_sends g)) (keep unforced (enters m g))
  demand_urgent = urgent_goes (d.queues q) ordered

  pub demand_line : (k : ℕ) → keep (λ (y : Sent). eqb k (priority_at s₀ y.task)) (keep unforced (entered (by_queue q h) ++ waiting_sends (by_queue q h))) ≡ keep (λ (y : Sent). eqb k (priority_at s₀ y.task)) (keep unforced (accepted (by_queue q h)))
  demand_line k =
      let line : ℕ → Sent → Bool = λ n y. eqb k (cond (eqb n 1) (priority_at s₀ y.task) 0) in
      subst (λ (n : ℕ). keep (line n) (keep unforced (entered (by_queue q h) ++ waiting_sends (by_queue q h))) ≡ keep (line n) (keep unforced (accepted (by_queue q h)))) ordered (line_order (d.queues q) refl k)
