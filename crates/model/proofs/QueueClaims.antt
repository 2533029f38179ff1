-- What one data queue sees of a call, and its part of demand 3 after any list of calls. Assumes nothing.
use mathlib.Core.Path.{◌≡◌, refl, sym, ap, ◌∙◌, subst, subst₂}
use mathlib.Core.Logic.{◌≢◌, inl}
use mathlib.Core.Bool.{Bool, true, false, cond, not}
use mathlib.Core.List.{List, [], ◌∷◌, ◌++◌, map, append-nil}
use mathlib.Core.Option.{Option, none, some}
use Prim.Native.Nat.{ℕ, suc}
use native.Mathlib.Omega.{arith}
use lib.ListN.{length, length-append}
use lib.Dec.{eqb, ltb, T}
use lib.IntN.{ℤ}
use borrow.Author.Tests.{ltb-true}
use Rattle.access.specs.Domains.{running_of}
use Rattle.access.specs.Patterns.{admitted}
use Rattle.itron.specs.Codes.{Code, ok, waiting, error}
use Rattle.model.specs.Lists.{at, keep, cons_if, any_of, All, Each}
use Rattle.model.specs.State.{Vector, Place, Queue, receiving, sending, Waiter, State, place, no_task, queue_at, domain_at, priority_at, running_at, waiter, set_waits, no}
use Rattle.model.specs.Answers.{Effect, Released, Out, out, say, when_ok, when_waiting, when_accepted}
use Rattle.model.specs.Waits.{stands_at, is_other, absent, join, waiters_at, by_priority, receivers, senders}
use Rattle.model.specs.Acts.{Act, own, refer, set_vector, of_own}
use Rattle.model.specs.Rooms.{check, act_on, Asks, on_object}
use Rattle.model.specs.Queues as Queues
use Rattle.model.specs.Queues.{QueueCall, send, receive, forced_send, set_buffer, room}
use Rattle.model.specs.Sends.{Sent, send_in, send_of, word_of, not_shown, waiting_sends, buffered}
use Rattle.model.specs.QueueClaims.{asked_of, by_queue, Sender, sender_of, sender_in, line_of, Rising, may_send, may_receive, SentAllowed, began, IsReceive, Came, TakenIn, TakenAllowed, Carried}
use Rattle.model.specs.Calls.{Op, on_semaphore, on_queue, on_level, Call, asks, step}
use Rattle.model.specs.Conditions.{QueuesFit, QueueEntryFits}
use Rattle.model.specs.ExtendedCalls.{ExtendedCall}
use Rattle.model.specs.History.{History, event, Made, seen_by, extended_of, after, history, asked_if, of_asked, vector_since, vector_by, joined, without, pending}
use Rattle.model.specs.LevelClaims.{running_when}
use Rattle.model.specs.Demand3.{JustClosed}
use Rattle.model.proofs.Lists.{absent_keep, all_keep, all_snoc, keep_append, keep_comm, keep_neither, map_append, map_keep, eq_of, eqb_same, eqb_sym, and_left, and_right, no_both, Distinct}
use Rattle.model.proofs.Order.{standing_line, standing_rises}
use Rattle.model.proofs.WaitQueues.{place_of}
use Rattle.model.proofs.Fits.{queues_put, buffer_fits}
use Rattle.model.proofs.Rooms.{room_of, is_at_lem, Calls, Passed, passed, stranger, stranger_level}
use Rattle.model.proofs.Semaphores as SemaphoreRoom
use Rattle.model.proofs.Queues.{bare, laws, cover, fine_here, qview_eq, qview_of, QueueOk, via}
use Rattle.model.proofs.Sends.{Moves, Held, none_yet, one_more, in_order_held, all_placed, in_call_order_lem}
use Rattle.model.proofs.Placing.{refused_moves, elsewhere_moves, act_moves}
use Rattle.model.proofs.Cover.{Whose, mine, foreign, sees, keeps_records, entries_stay, all_stay, vector_law, Endings, ends}
use Rattle.model.proofs.Steps.{distinct_law, fixed_law, waiters_are_lem}
use Rattle.model.proofs.LevelClaims.{Tally, tally_start, tally_step, level_since_lem}

-- ---- whose a call is, as the queues see it
pub whose : (op : Op) → Whose room laws asked_of op
whose (on_queue n a) = mine n a refl (λ i. refl)
whose (on_semaphore n a) = foreign (stranger room laws.tag SemaphoreRoom.laws (λ h. let z : ◌≡◌ {A = ℕ} 0 1 = h in omega arith) (λ s ws xs. refl) n a) (λ i. refl)
whose (on_level c) = foreign (stranger_level room laws.tag (λ s ls. refl) c) (λ i. refl)

-- ---- an entry is kept as given: no call changes a queue's owner, attribute or capacity, or the number of queues
pub entries_law : (s : State) (c : Call) → ((q : ℕ) → bare (queue_at (step s c).state q) ≡ bare (queue_at s q)) × (length (step s c).state.queues ≡ length s.queues)
entries_law s c = entries_stay room laws asked_of whose s c

-- so each still fits
pub entries_step : (s : State) (n : ℕ) → All (QueueEntryFits n) s.queues → (c : Call) → All (QueueEntryFits n) (step s c).state.queues
entries_step s n f c = all_stay room laws asked_of whose s (QueueEntryFits n) f c

-- its vector is the last one set on it
pub set_law : (s : State) (q : ℕ) (c : Call) → (queue_at (step s c).state q).vector ≡ vector_by (asked_of q c.op) (step s c).answer.code (queue_at s q).vector
set_law s q c = vector_law room laws asked_of whose s q c

-- ---- one call leaves each queue fine
pub fine_law : (s : State) → Distinct s.waits → (q : ℕ) → QueueOk (qview_of s q) → (c : Call) → QueueOk (qview_of (step s c).state q)
fine_law s d q k c = sees room laws asked_of whose s q (λ m s'. QueueOk (qview_of s' q)) (record {
  refused = λ t a x e. k;
  elsewhere = λ t x a s' e f. via (qview_eq (ap (λ (z : Queue). z.capacity) e) (ap (λ (z : Queue). z.buffer) e) (f d (place sending q) (is_at_lem laws.tag q (place sending q) refl refl)) (f d (place receiving q) (is_at_lem laws.tag q (place receiving q) refl refl))) k;
  here = λ t a x p. fine_here s.fixed.tasks s.waits s.queues t q p.numbered p.there d k a;
}) c

-- ---- the limits of the queues are kept
queues_here : (s : State) → QueuesFit s.queues → (t n : ℕ) (a : Act QueueCall) → QueuesFit (act_on room s.fixed.tasks s.waits s.queues t n a).records
queues_here s f t n refer = f
queues_here s f t n (set_vector v) = queues_put f n _ refl (buffer_fits f n)
queues_here s f t n (own c) = cover s.fixed.tasks s.waits s.queues t n (λ c o. QueuesFit o.records) (record {
  send_passes = λ q w e l h. f;
  send_stores = λ q w h r. stored w r;
  send_fails = λ w h r. f;
  send_waits = λ w h r. f;
  receives = λ q x b h r. queues_put f n _ refl (let c = buffer_fits f n in let d : length (queue_at s n).buffer ≡ suc (length b) = ap length h in omega arith);
  receive_refills = λ q x b e l h r. queues_put f n _ refl (let c = buffer_fits f n in let d : length (queue_at s n).buffer ≡ suc (length b) = ap length h in rw (length-append b (e.word ∷ [])) (omega arith));
  receive_passes = λ q e l h r. f;
  receive_fails = λ h r. f;
  receive_waits = λ h r. f;
  force_misused = λ w h. f;
  force_passes = λ w e l z h. f;
  force_stores = λ w h r. stored w r;
  force_drops = λ w z b h r g. queues_put f n _ refl (let c = buffer_fits f n in let d : length (queue_at s n).buffer ≡ suc (length b) = ap length g in rw (length-append b (w ∷ [])) (omega arith));
}) c
  where
    stored : (w : ℕ) → ltb (length (queue_at s n).buffer) (queue_at s n).capacity ≡ true → QueuesFit (set_buffer s.queues n ((queue_at s n).buffer ++ (w ∷ [])))
    stored w r = queues_put f n _ refl (let b = ltb-true (length (queue_at s n).buffer) (queue_at s n).capacity r in rw (length-append (queue_at s n).buffer (w ∷ [])) (omega arith))

pub queues_step : (s : State) → QueuesFit s.queues → (c : Call) → QueuesFit (step s c).state.queues
queues_step s f = keeps_records room laws asked_of whose s QueuesFit f (λ t n a p. queues_here s f t n a)

-- ---- what holds after any calls
pub record Inv (s₀ : State) (s : State) (h : History) : Type 0 where
  pub distinct : Distinct s.waits
  pub fine : (q : ℕ) → QueueOk (qview_of s q)
  pub fixed : s.fixed ≡ s₀.fixed
  pub capacity : (q : ℕ) → (queue_at s q).capacity ≡ (queue_at s₀ q).capacity
  pub attribute : (q : ℕ) → (queue_at s q).attribute ≡ (queue_at s₀ q).attribute
  pub vectors : (q : ℕ) → (queue_at s q).vector ≡ vector_since (queue_at s₀ q).vector (by_queue q h)
  pub levels : Tally s h
  pub came : (q : ℕ) → All (λ (e : Waiter). Came (domain_at s₀) (queue_at s₀ q).vector e.task (by_queue q h)) (receivers s q)

module _ (s₀ s : State) (h : History) (i : Inv s₀ s h) where
  -- who is admitted by the state is admitted by the history
  runs_as : (q t : ℕ) → running_at s t ≡ running_when (domain_at s₀) t (by_queue q h)
  runs_as q t = let k = level_since_lem (asked_of q) t i.levels in λ j. running_of (at no_task (i.fixed j).tasks t).domain (k j)

  admitted_since : (q t : ℕ) (f : Vector → ℕ) → admitted (f (queue_at s q).vector) (running_at s t) ≡ true → T (admitted (f (vector_since (queue_at s₀ q).vector (by_queue q h))) (running_when (domain_at s₀) t (by_queue q h)))
  admitted_since q t f m = let d = runs_as q t in subst T (λ j. admitted (f (i.vectors q j)) (d j)) (rw m tt)

  may_send_lem : (q t : ℕ) → admitted (queue_at s q).vector.normal1 (running_at s t) ≡ true → T (may_send (domain_at s₀) (queue_at s₀ q).vector t (by_queue q h))
  may_send_lem q t m = admitted_since q t (λ (v : Vector). v.normal1) m

  may_receive_lem : (q t : ℕ) → admitted (queue_at s q).vector.normal2 (running_at s t) ≡ true → T (may_receive (domain_at s₀) (queue_at s₀ q).vector t (by_queue q h))
  may_receive_lem q t m = admitted_since q t (λ (v : Vector). v.normal2) m

  module _ (q : ℕ) where
    abbrev Arrived : ℕ → List (Made QueueCall) → Type 0
    Arrived t l = Came (domain_at s₀) (queue_at s₀ q).vector t l

    -- ---- where the waiting receivers came from
    still : (m : Made QueueCall) (l : List Waiter) → m.answer.code ≡ waiting → absent m.caller l ≡ true
        → All (λ (e : Waiter). Arrived e.task (by_queue q h)) l → All (λ (e : Waiter). Arrived e.task (m ∷ by_queue q h)) l
    still m [] w f k = tt
    still m (x ∷ l) w f k = (
      subst (λ (b : Bool). cond b (of_asked ⊥ IsReceive m.asked × T (may_receive (domain_at s₀) (queue_at s₀ q).vector x.task (by_queue q h))) (Arrived x.task (by_queue q h))) (sym other) k.0,
      still m l w (and_right (is_other m.caller x) (absent m.caller l) f) k.1,
    )
      where
        flip : (b : Bool) → not b ≡ true → b ≡ false
        flip true e = sym e
        flip false e = refl

        other : began x.task m ≡ false
        other = rw w (eqb_sym x.task m.caller ∙ flip _ (and_left (is_other m.caller x) (absent m.caller l) f))

    -- the wait that begins at the queue's receiving side is a receive's
    abbrev Receives : ℕ → Option (Act QueueCall) → Type 0
    Receives t a = of_asked ⊥ IsReceive a × T (may_receive (domain_at s₀) (queue_at s₀ q).vector t (by_queue q h))

    begun_here : (t : ℕ) (n : ℤ) (a : Act QueueCall) → check room s t (no n) a ≡ none → All (λ (e : Waiter). stands_at (place receiving q) e ≡ true → Receives t (asked_if (eqb q (no n)) a)) ((on_object room n a).begins t)
    begun_here t n (own (send b w)) p = ((λ z. absurd (no_both z refl)), tt)
    begun_here t n (own (receive b)) p = (
      (λ z. (
        subst (λ (k : Bool). of_asked ⊥ IsReceive (asked_if k (own (receive b)))) (sym z) tt,
        may_receive_lem q t (rw (eq_of q (no n) z) (passed room s t (no n) (own (receive b)) p).may),
      )),
      tt,
    )
    begun_here t n (own (forced_send w)) p = ((λ z. absurd (no_both z refl)), tt)
    begun_here t n refer p = tt
    begun_here t n (set_vector v) p = tt

    -- what another room begins is not there
    begun_elsewhere : (A : Type 0) (l : List Waiter) → All (λ (e : Waiter). room_of e.place.side ≢ laws.tag) l → All (λ (e : Waiter). stands_at (place receiving q) e ≡ true → A) l
    begun_elsewhere A [] k = tt
    begun_elsewhere A (e ∷ l) k = ((λ z. absurd (k.0 (ap (λ (p : Place). room_of p.side) (place_of (place receiving q) e.place z)))), begun_elsewhere A l k.1)

    begun : (t : ℕ) (op : Op) → (asks op).check s t ≡ none → All (λ (e : Waiter). stands_at (place receiving q) e ≡ true → Receives t (asked_of q op)) ((asks op).begins t)
    begun t op p = go (whose op)
      where
        go : Whose room laws asked_of op → All (λ (e : Waiter). stands_at (place receiving q) e ≡ true → Receives t (asked_of q op)) ((asks op).begins t)
        go (mine n a e f) =
            subst (λ (b : Option (Act QueueCall)). All (λ (e : Waiter). stands_at (place receiving q) e ≡ true → Receives t b) ((asks op).begins t)) (sym (f q))
            (subst (λ (x : Asks). All (λ (e : Waiter). stands_at (place receiving q) e ≡ true → Receives t (asked_if (eqb q (no n)) a)) (x.begins t)) (sym e)
            (begun_here t n a (subst (λ (x : Asks). x.check s t ≡ none) e p)))
        go (foreign k f) = begun_elsewhere (Receives t (asked_of q op)) ((asks op).begins t) (k.begins t)

    module _ (op : Op) where
      -- a call of task t on op that gives o
      abbrev made_by : ℕ → Out → Made QueueCall
      made_by t o = record { caller = t; asked = asked_of q op; extended = extended_of op; answer = o.answer }

      abbrev CameLaw : ℕ → Asks → Out → Type 0
      CameLaw t x o = x ≡ asks op → All (λ (e : Waiter). Arrived e.task (made_by t o ∷ by_queue q h)) (receivers o.state q)

      came_waits : (t : ℕ) (e : Waiter) → (asks op).check s t ≡ none → Calls s t → e.task ≡ t → (asks op).begins t ≡ e ∷ []
          → (m : Made QueueCall) → m.answer.code ≡ waiting → m.caller ≡ t → m.asked ≡ asked_of q op
          → All (λ (x : Waiter). Arrived x.task (m ∷ by_queue q h)) (keep (stands_at (place receiving q)) (join e s.waits))
      came_waits t e p c z b m w f g = subst (λ (l : List Waiter). All (λ (x : Waiter). Arrived x.task (m ∷ by_queue q h)) l) (sym (keep_append (stands_at (place receiving q)) s.waits (e ∷ []))) (go (stands_at (place receiving q) e) refl)
        where
          old : All (λ (x : Waiter). Arrived x.task (m ∷ by_queue q h)) (receivers s q)
          old = still m (receivers s q) w (absent_keep (stands_at (place receiving q)) m.caller s.waits (rw f c.free)) (i.came q)

          newest : began e.task m ≡ true
          newest = rw w (ap (λ (x : ℕ). eqb x m.caller) (z ∙ sym f) ∙ eqb_same m.caller)

          new : stands_at (place receiving q) e ≡ true → Arrived e.task (m ∷ by_queue q h)
          new y = let r = (subst (λ (l : List Waiter). All (λ (x : Waiter). stands_at (place receiving q) x ≡ true → Receives t (asked_of q op)) l) b (begun t op p)).0 y in
              subst (λ (k : Bool). cond k (of_asked ⊥ IsReceive m.asked × T (may_receive (domain_at s₀) (queue_at s₀ q).vector e.task (by_queue q h))) (Arrived e.task (by_queue q h)))
              (sym newest)
              (rw g r.0, rw z r.1)

          go : (k : Bool) → stands_at (place receiving q) e ≡ k → All (λ (x : Waiter). Arrived x.task (m ∷ by_queue q h)) (receivers s q ++ cons_if k e [])
          go true y = all_snoc _ (receivers s q) e old (new y)
          go false y = rw append-nil old

      came_ends : Endings s CameLaw
      came_ends = record {
        refused = λ t x e o y. i.came q;
        tells = λ t x r o y. i.came q;
        gives = λ t x s' w k v y. rw k.waits (i.came q);
        wakes = λ t x s' p e l w v k z f y. rw k.waits
            (subst (λ (l : List Waiter). All (λ (y : Waiter). Arrived y.task (by_queue q h)) l) (sym (keep_comm (stands_at (place receiving q)) (is_other e.task) s.waits))
            (all_keep _ (is_other e.task) (receivers s q) (i.came q)));
        waits = λ t x e p c z f b v y. came_waits t e (subst (λ (x : Asks). x.check s t ≡ none) y p) c z (subst (λ (x : Asks). x.begins t ≡ e ∷ []) y b)
            (made_by t (out (say waiting 0 []) (set_waits s (join e s.waits)))) refl refl refl;
      }

    -- ---- who took
    nothing : (k : Code) → when_ok {1} (Unit {0}) (Unit {0}) k
    nothing ok = tt
    nothing waiting = tt
    nothing (error e) = tt

    abbrev MayTake : ℕ → QueueCall → Type 0
    MayTake t (send a w) = Unit
    MayTake t (receive a) = T (may_receive (domain_at s₀) (queue_at s₀ q).vector t (by_queue q h))
    MayTake t (forced_send w) = Unit

    took : (t : ℕ) (y : Option ExtendedCall) (c : QueueCall) → MayTake t c → (o : Effect Queue) → o ≡ Queues.does s.fixed.tasks s.waits s.queues t q c
        → when_ok Unit (TakenIn (domain_at s₀) (queue_at s₀ q).vector (record { caller = t; asked = some (own c); extended = y; answer = o.answer }) (by_queue q h) c) o.answer.code
    took t y c m o e = subst (λ (x : Effect Queue). Took c x) (sym e) (cover s.fixed.tasks s.waits s.queues t q (λ (d : QueueCall) (x : Effect Queue). MayTake t d → Took d x) (record {
      send_passes = λ a w e l f z. (first f, tt);
      send_stores = λ a w f g z. tt;
      send_fails = λ w f g z. tt;
      send_waits = λ w f g z. tt;
      receives = λ a x b f g z. z;
      receive_refills = λ a x b e l f g z. z;
      receive_passes = λ a e l f g z. z;
      receive_fails = λ f g z. tt;
      receive_waits = λ f g z. tt;
      force_misused = λ w f z. tt;
      force_passes = λ w e l n f z. (first f, tt);
      force_stores = λ w f g z. tt;
      force_drops = λ w y b f g k z. tt;
    }) c m)
      where
        first : {e : Waiter} {l : List Waiter} → receivers s q ≡ e ∷ l → Arrived e.task (by_queue q h)
        first f = (subst (λ (l : List Waiter). All (λ (y : Waiter). Arrived y.task (by_queue q h)) l) f (i.came q)).0

        Took : QueueCall → Effect Queue → Type 0
        Took d x = when_ok Unit (TakenIn (domain_at s₀) (queue_at s₀ q).vector (record { caller = t; asked = some (own d); extended = y; answer = x.answer }) (by_queue q h) d) x.answer.code

    take_here : (t : ℕ) (a : Act QueueCall) (y : Option ExtendedCall) → Passed room s t q a
        → TakenAllowed (domain_at s₀) (queue_at s₀ q).vector (record { caller = t; asked = some a; extended = y; answer = (act_on room s.fixed.tasks s.waits s.queues t q a).answer }) (by_queue q h)
    take_here t (own (send b w)) y p = took t y (send b w) tt (Queues.does s.fixed.tasks s.waits s.queues t q (send b w)) refl
    take_here t (own (receive b)) y p = took t y (receive b) (may_receive_lem q t p.may) (Queues.does s.fixed.tasks s.waits s.queues t q (receive b)) refl
    take_here t (own (forced_send w)) y p = took t y (forced_send w) tt (Queues.does s.fixed.tasks s.waits s.queues t q (forced_send w)) refl
    take_here t refer y p = tt
    take_here t (set_vector v) y p = tt

    taken : (c : Call) → TakenAllowed (domain_at s₀) (queue_at s₀ q).vector (seen_by (asked_of q) (event s c)) (by_queue q h)
    taken c = sees room laws asked_of whose s q (λ m s'. TakenAllowed (domain_at s₀) (queue_at s₀ q).vector m (by_queue q h)) (record { refused = λ t a x e. tt; elsewhere = λ t x a s' e f. nothing a.code; here = take_here }) c

    -- ---- who sent
    abbrev Sends : ℕ → List Sent → Type 0
    Sends t l = All (λ (x : Sent). T (may_send (domain_at s₀) (queue_at s₀ q).vector t (by_queue q h))) l

    none_sent : (t : ℕ) (k : Code) → Sends t (when_accepted [] [] k)
    none_sent t ok = tt
    none_sent t waiting = tt
    none_sent t (error e) = tt

    accepted : (t : ℕ) (l : List Sent) (k : Code) → Sends t l → Sends t (when_accepted [] l k)
    accepted t l ok f = f
    accepted t l waiting f = f
    accepted t l (error e) f = tt

    sent_here : (t : ℕ) (a : Act QueueCall) → Passed room s t q a → Sends t (of_own [] (send_in (length (by_queue q h)) t) a)
    sent_here t (own (send b w)) p = (may_send_lem q t p.may, tt)
    sent_here t (own (receive b)) p = tt
    sent_here t (own (forced_send w)) p = (may_send_lem q t p.may, tt)
    sent_here t refer p = tt
    sent_here t (set_vector v) p = tt

    sent_allowed : (c : Call) → SentAllowed (domain_at s₀) (queue_at s₀ q).vector (seen_by (asked_of q) (event s c)) (by_queue q h)
    sent_allowed c = sees room laws asked_of whose s q (λ m s'. SentAllowed (domain_at s₀) (queue_at s₀ q).vector m (by_queue q h)) (record {
      refused = λ t a x e. tt;
      elsewhere = λ t x a s' e f. none_sent t a.code;
      here = λ t a x p. accepted t (of_own [] (send_in (length (by_queue q h)) t) a) (act_on room s.fixed.tasks s.waits s.queues t q a).answer.code (sent_here t a p);
    }) c

  next : (c : Call) → Inv s₀ (step s c).state (event s c ∷ h)
  next c = record {
    distinct = distinct_law s i.distinct c;
    fine = λ q. fine_law s i.distinct q (i.fine q) c;
    fixed = fixed_law s c ∙ i.fixed;
    capacity = λ q. ap (λ (x : Queue). x.capacity) ((entries_law s c).0 q) ∙ i.capacity q;
    attribute = λ q. ap (λ (x : Queue). x.attribute) ((entries_law s c).0 q) ∙ i.attribute q;
    levels = tally_step s h i.levels c;
    vectors = λ q. set_law s q c ∙ ap (vector_by (asked_of q c.op) (step s c).answer.code) (i.vectors q);
    came = λ q. ends s (CameLaw q c.op) (came_ends q c.op) c refl;
  }

inv : (s₀ : State) → JustClosed s₀ → (cs : List Call) → Inv s₀ (after s₀ cs) (history s₀ cs)
unfolding after history
inv s₀ j [] = record {
  distinct = rw j.no_waits tt;
  fine = λ q. record { idle = inl (rw j.no_waits refl); full = inl (rw j.no_waits refl) };
  fixed = refl;
  capacity = λ q. refl;
  attribute = λ q. refl;
  levels = tally_start s₀ j;
  vectors = λ q. refl;
  came = λ q. rw j.no_waits tt;
}
inv s₀ j (c ∷ cs) = next s₀ (after s₀ cs) (history s₀ cs) (inv s₀ j cs) c

-- ---- the waiting senders, by the history alone
module _ (q : ℕ) where
  abbrev senders_in : List Waiter → List Sender
  senders_in l = map sender_of (keep (stands_at (place sending q)) l)

  abbrev released : List Released → Sender → Bool
  released rs x = any_of (λ (r : Released). eqb r.task x.task) rs

  senders_without : (rs : List Released) (l : List Waiter) → senders_in (without rs l) ≡ keep (λ (x : Sender). not (released rs x)) (senders_in l)
  senders_without [] l = sym (all_kept (senders_in l))
    where
      all_kept : (l : List Sender) → keep (λ (x : Sender). not (released [] x)) l ≡ l
      all_kept [] = refl
      all_kept (x ∷ l) = ap (λ (k : List Sender). x ∷ k) (all_kept l)
  senders_without (r ∷ rs) l =
      senders_without rs (keep (is_other r.task) l)
      ∙ ap (keep (λ (x : Sender). not (released rs x)))
      (ap (map sender_of) (keep_comm (stands_at (place sending q)) (is_other r.task) l) ∙ map_keep sender_of (λ (x : Sender). not (eqb r.task x.task)) (keep (stands_at (place sending q)) l))
      ∙ keep_neither (released rs) (λ (x : Sender). eqb r.task x.task) (senders_in l)

  senders_append : (l m : List Waiter) → senders_in (l ++ m) ≡ senders_in l ++ senders_in m
  senders_append l m = ap (map sender_of) (keep_append (stands_at (place sending q)) l m) ∙ map_append sender_of (keep (stands_at (place sending q)) l) (keep (stands_at (place sending q)) m)

  -- what another room begins is no send
  no_senders : (l : List Waiter) → All (λ (e : Waiter). room_of e.place.side ≢ laws.tag) l → senders_in l ≡ []
  no_senders [] k = refl
  no_senders (e ∷ l) k = go (stands_at (place sending q) e) refl (no_senders l k.1)
    where
      go : (b : Bool) → stands_at (place sending q) e ≡ b → senders_in l ≡ [] → map sender_of (cons_if b e (keep (stands_at (place sending q)) l)) ≡ []
      go true z r = absurd (k.0 (ap (λ (p : Place). room_of p.side) (place_of (place sending q) e.place z)))
      go false z r = r

  -- the send that a call on a queue is, the number of calls before it being k
  module _ (k t : ℕ) where
    abbrev sends_in : Option (Act QueueCall) → List Sender
    sends_in o = map sender_in (of_asked [] (send_in k t) o)

    -- nothing asked, no send
    unasked : (b : Bool) (a : Act QueueCall) → of_own [] (send_in k t) a ≡ [] → [] ≡ sends_in (asked_if b a)
    unasked true a e = ap (map sender_in) (sym e)
    unasked false a e = refl

    begins_send : (n : ℤ) (w : ℕ) (c : QueueCall) → map sender_in (send_in k t c) ≡ sender_of (waiter t sending (no n) w) ∷ []
        → senders_in (waiter t sending (no n) w ∷ []) ≡ sends_in (asked_if (eqb q (no n)) (own c))
    begins_send n w c e = go (eqb q (no n))
      where
        go : (b : Bool) → map sender_of (cons_if b (waiter t sending (no n) w) []) ≡ sends_in (asked_if b (own c))
        go true = sym e
        go false = refl

    -- what a call on a queue begins
    sends_here : (n : ℤ) (a : Act QueueCall) → senders_in ((on_object room n a).begins t) ≡ sends_in (asked_if (eqb q (no n)) a)
    sends_here n (own (send p w)) = begins_send n w (send p w) refl
    sends_here n (own (receive p)) = unasked (eqb q (no n)) (own (receive p)) refl
    sends_here n (own (forced_send w)) = begins_send n w (forced_send w) refl
    sends_here n refer = unasked (eqb q (no n)) refer refl
    sends_here n (set_vector v) = unasked (eqb q (no n)) (set_vector v) refl

    senders_begun : (op : Op) → senders_in ((asks op).begins t) ≡ sends_in (asked_of q op)
    senders_begun op = go (whose op)
      where
        go : Whose room laws asked_of op → senders_in ((asks op).begins t) ≡ sends_in (asked_of q op)
        go (mine n a e f) = ap (λ (x : Asks). senders_in (x.begins t)) e ∙ sends_here n a ∙ ap sends_in (sym (f q))
        go (foreign k f) = no_senders ((asks op).begins t) (k.begins t) ∙ ap sends_in (sym (f q))

    senders_joined : (op : Op) (c : Code) → senders_in (when_waiting [] ((asks op).begins t) c) ≡ map sender_in (when_waiting [] (of_asked [] (send_in k t) (asked_of q op)) c)
    senders_joined op ok = refl
    senders_joined op (error e) = refl
    senders_joined op waiting = senders_begun op

  pub senders_pending : (h : History) → senders_in (pending h) ≡ map sender_in (waiting_sends (by_queue q h))
  senders_pending [] = refl
  senders_pending (e ∷ h) =
      let rs = e.answer.released in
      let l = waiting_sends (by_queue q h) in
      senders_append (without rs (pending h)) (joined e)
      ∙ ap (λ (k : List Sender). k ++ senders_in (joined e)) (senders_without rs (pending h) ∙ ap (keep (λ (x : Sender). not (released rs x))) (senders_pending h) ∙ sym (map_keep sender_in (λ (x : Sender). not (released rs x)) l))
      ∙ ap (λ (k : List Sender). map sender_in (keep (not_shown rs) l) ++ k) (senders_joined (length (by_queue q h)) (no e.call.caller) e.call.op e.answer.code)
      ∙ sym (map_append sender_in (keep (not_shown rs) l) (when_waiting [] (send_of (seen_by (asked_of q) e) (by_queue q h)) e.answer.code))

-- in the order in which they came
pub senders_came : (s₀ : State) → s₀.waits ≡ [] → (cs : List Call) (q : ℕ) → map sender_of (waiters_at (after s₀ cs) (place sending q)) ≡ map sender_in (waiting_sends (by_queue q (history s₀ cs)))
senders_came s₀ j cs q = ap (senders_in q) (waiters_are_lem s₀ j cs) ∙ senders_pending q (history s₀ cs)

-- the line in which a task sends is told by the table
abbrev line_at : State → ℕ → ℕ → ℕ
line_at s q t = line_of (priority_at s) (queue_at s q) t

line_stays : {s₀ s : State} {h : History} → Inv s₀ s h → (q : ℕ) → line_at s q ≡ line_at s₀ q
line_stays i q = λ j t. cond (eqb (i.attribute q j) 1) (at no_task (i.fixed j).tasks t).priority 0

-- ---- where every word is
module _ (s₀ s : State) (q : ℕ) (g : History) (i : Inv s₀ s g) (h : List (Made QueueCall))
    (words : (queue_at s q).buffer ≡ map word_of (buffered (queue_at s₀ q).capacity h)) (then : map sender_of (waiters_at s (place sending q)) ≡ map sender_in (waiting_sends h)) where
  abbrev MovesLaw : Made QueueCall → State → Type 0
  MovesLaw m s' = map sender_of (waiters_at s' (place sending q)) ≡ map sender_in (waiting_sends (m ∷ h)) → Moves (queue_at s₀ q).capacity (line_at s₀ q) m h (queue_at s' q).buffer

  -- a call on this queue, by what it finds there
  here : (t : ℕ) (a : Act QueueCall) (y : Option ExtendedCall) → Passed room s t q a → (o : Effect Queue) → o ≡ act_on room s.fixed.tasks s.waits s.queues t q a
      → Moves (queue_at s₀ q).capacity (line_at s₀ q) (record { caller = t; asked = some a; extended = y; answer = o.answer }) h (Queues.queue_in o.records q).buffer
  here t a y p o e =
      subst (λ (x : Effect Queue). Moves (queue_at s₀ q).capacity (line_at s₀ q) (record { caller = t; asked = some a; extended = y; answer = x.answer }) h (Queues.queue_in x.records q).buffer) (sym e)
      (subst₂ (λ (n : ℕ) (f : ℕ → ℕ). Moves n f (record { caller = t; asked = some a; extended = y; answer = (act_on room s.fixed.tasks s.waits s.queues t q a).answer }) h (Queues.queue_in (act_on room s.fixed.tasks s.waits s.queues t q a).records q).buffer)
      (i.capacity q) (line_stays i q)
      (act_moves s.fixed.tasks s.waits s.queues t q p.numbered p.there i.distinct (i.fine q) h y (subst (λ (n : ℕ). (queue_at s q).buffer ≡ map word_of (buffered n h)) (sym (i.capacity q)) words) then a))

  pub moved : (c : Call) → MovesLaw (seen_by (asked_of q) (event s c)) (step s c).state
  moved c = sees room laws asked_of whose s q MovesLaw (record {
    refused = λ t a y x now. refused_moves (line_at s₀ q) (queue_at s₀ q).capacity h (queue_at s q).buffer words t a y x;
    elsewhere = λ t y a s' x f now. elsewhere_moves (line_at s₀ q) (queue_at s₀ q).capacity h (queue_at s q).buffer words t y a (waiters_at s (place sending q)) (queue_at s' q).buffer then
        (ap (map sender_of) (sym (f i.distinct (place sending q) (is_at_lem laws.tag q (place sending q) refl refl))) ∙ now) (ap (λ (z : Queue). z.buffer) x);
    here = λ t a y p now. here t a y p (act_on room s.fixed.tasks s.waits s.queues t q a) refl;
  }) c

held : (s₀ : State) → JustClosed s₀ → (cs : List Call) (q : ℕ) → Held (queue_at s₀ q).capacity (line_at s₀ q) (by_queue q (history s₀ cs)) (queue_at (after s₀ cs) q).buffer
unfolding after history
held s₀ j [] q = rw (j.no_words q) (none_yet (queue_at s₀ q).capacity (line_at s₀ q))
held s₀ j (c ∷ cs) q =
    let s = after s₀ cs in
    let h = by_queue q (history s₀ cs) in
    one_more (queue_at s₀ q).capacity (line_at s₀ q) (seen_by (asked_of q) (event s c)) h (queue_at s q).buffer (queue_at (step s c).state q).buffer (held s₀ j cs q)
    (moved s₀ s q (history s₀ cs) (inv s₀ j cs) h (held s₀ j cs q).words (senders_came s₀ j.no_waits cs q) c (senders_came s₀ j.no_waits (c ∷ cs) q))

each_sent : (s₀ : State) → JustClosed s₀ → (cs : List Call) (q : ℕ) → Each (SentAllowed (domain_at s₀) (queue_at s₀ q).vector) (by_queue q (history s₀ cs))
unfolding after history
each_sent s₀ j [] q = tt
each_sent s₀ j (c ∷ cs) q = (sent_allowed s₀ (after s₀ cs) (history s₀ cs) (inv s₀ j cs) q c, each_sent s₀ j cs q)

each_taken : (s₀ : State) → JustClosed s₀ → (cs : List Call) (q : ℕ) → Each (TakenAllowed (domain_at s₀) (queue_at s₀ q).vector) (by_queue q (history s₀ cs))
unfolding after history
each_taken s₀ j [] q = tt
each_taken s₀ j (c ∷ cs) q = (taken s₀ (after s₀ cs) (history s₀ cs) (inv s₀ j cs) q c, each_taken s₀ j cs q)

-- ---- the waiting senders as they stand
module _ (s₀ : State) (j : JustClosed s₀) (cs : List Call) (q : ℕ) where
  abbrev s : State
  s = after s₀ cs

  -- in each line in call order
  senders_are_lem : (n : ℕ) → keep (λ (y : Sender). eqb n (line_at s₀ q y.task)) (map sender_of (senders s q)) ≡ keep (λ (y : Sender). eqb n (line_at s₀ q y.task)) (map sender_in (waiting_sends (by_queue q (history s₀ cs))))
  senders_are_lem n =
      subst (λ (f : ℕ → ℕ). keep (λ (y : Sender). eqb n (f y.task)) (map sender_of (senders s q)) ≡ keep (λ (y : Sender). eqb n (f y.task)) (map sender_of (waiters_at s (place sending q)))) (line_stays (inv s₀ j cs) q)
      (sym (map_keep sender_of (λ (y : Sender). eqb n (line_at s q y.task)) (senders s q))
      ∙ ap (map sender_of) (standing_line (by_priority (queue_at s q).attribute) s.fixed.tasks n (waiters_at s (place sending q)))
      ∙ map_keep sender_of (λ (y : Sender). eqb n (line_at s q y.task)) (waiters_at s (place sending q)))
      ∙ ap (keep (λ (y : Sender). eqb n (line_at s₀ q y.task))) (senders_came s₀ j.no_waits cs q)

  -- the more urgent line first
  in_lines_lem : Rising (map (λ (e : Waiter). line_at s₀ q e.task) (senders s q))
  in_lines_lem = subst (λ (f : ℕ → ℕ). Rising (map (λ (e : Waiter). f e.task) (senders s q))) (line_stays (inv s₀ j cs) q)
      (standing_rises (by_priority (queue_at s q).attribute) s.fixed.tasks (waiters_at s (place sending q)))

pub carried : (s₀ : State) → JustClosed s₀ → (cs : List Call) (q : ℕ)
    → Carried (domain_at s₀) (priority_at s₀) (queue_at s₀ q) (by_queue q (history s₀ cs)) (queue_at (after s₀ cs) q).buffer (senders (after s₀ cs) q)
carried s₀ j cs q =
    let c = (queue_at s₀ q).capacity in
    let h = by_queue q (history s₀ cs) in
    let b = (queue_at (after s₀ cs) q).buffer in
    let i = held s₀ j cs q in
    record {
      ordered = in_order_held c (line_at s₀ q) h b i;
      handed_are = i.handed_are;
      placed = all_placed c (line_at s₀ q) h b i;
      one_each = i.one_each;
      in_call_order = in_call_order_lem c (line_at s₀ q) h b i;
      senders_allowed = each_sent s₀ j cs q;
      takers_allowed = each_taken s₀ j cs q;
      senders_are = senders_are_lem s₀ j cs q;
      in_lines = in_lines_lem s₀ j cs q;
      urgent_first = i.urgent_first;
    }
