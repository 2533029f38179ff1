-- What a call that passes the checks answers and leaves (document 01, "Calls on an open gateway"; forced send: request T-05): the whole answer and the whole state, in terms of the
-- lists themselves. The object stands behind those of l, so its number is one more than these are; the caller is task k. Assumes nothing.
use mathlib.Core.Path.{◌≡◌, refl, sym, ap, ◌∙◌, subst}
use mathlib.Core.Logic.{◌≢◌}
use mathlib.Core.Bool.{Bool, true, false, not}
use mathlib.Core.List.{List, [], ◌∷◌, ◌++◌}
use Prim.Native.Nat.{ℕ, suc, ◌≤◌, ◌<◌}
use native.Mathlib.Omega.{arith}
use lib.Dec.{eqb, leb, ltb}
use borrow.Author.Tests.{leb-true, leb-false}
use lib.IntN.{pos}
use lib.ListN.{length, drop}
use Rattle.itron.specs.Codes.{ok, waiting}
use Rattle.itron.specs.declared.error.Error.TheVariants.{Iluse as e_iluse}
use Rattle.model.specs.Lists.{at, put, cons_if, keep, All}
use Rattle.model.specs.State.{Vector, TaskEntry, Sem, Queue, on_sem, receiving, sending, Place, Waiter, Fixed, State, no_sem, no_queue, same_place}
use Rattle.model.specs.Answers.{Answer, out}
use Rattle.model.specs.Waits.{Patience, forever, waiters_in, by_priority, standing, stands_at, is_other, leave}
use Rattle.model.specs.Acts.{Act, own, set_vector}
use Rattle.model.specs.Rooms.{on_records}
use Rattle.model.specs.Semaphores as Semaphores
use Rattle.model.specs.Semaphores.{SemaphoreCall, signal, acquire, signal_by, acquire_by}
use Rattle.model.specs.Queues as Queues
use Rattle.model.specs.Queues.{QueueCall, send, receive, forced_send, send_by, receive_by, force_by}
use Rattle.model.specs.Calls.{Op, on_semaphore, on_queue, call, step}
use Rattle.model.proofs.Lists.{no_both, eqb_same, keep_append, all_append, all_weaker, Distinct, keep_absent}
use Rattle.model.proofs.Order.{line_in, standing_nobody, standing_heads}
use Rattle.model.proofs.WaitQueues.{place_of, alike}
use Rattle.model.proofs.Tests.{holds, fails, le_tells, lt_tells, eq_tells}
use Rattle.model.proofs.Answers.{Passes, absent_tells, answers, refuses, with, does}
use Rattle.model.proofs.Places.{nth, all_each}

-- ---- the waiting tasks, first to last
-- nobody waits at a place
abbrev pub Nobody : Place → List Waiter → Type 0
Nobody p ws = All (λ (y : Waiter). y.place ≢ p) ws

-- e is the first who waits at a place, by the tasks ts: who came before it and waits there is less urgent, and who came behind it is not more urgent,
-- where they stand by priority; where they stand as they came, all have one line, so nobody who waits there came before it. It waits once
pub record FirstAt (b : Bool) (ts : List TaskEntry) (p : Place) (before behind : List Waiter) (e : Waiter) : Type 0 where
  pub there : e.place ≡ p
  pub ahead : All (λ (y : Waiter). y.place ≡ p → line_in b ts e < line_in b ts y) before
  pub after : All (λ (y : Waiter). y.place ≡ p → line_in b ts e ≤ line_in b ts y) behind
  pub once : All (λ (y : Waiter). e.task ≢ y.task) (before ++ behind)

nobody_found : (p : Place) (ws : List Waiter) → Nobody p ws → waiters_in ws p ≡ []
nobody_found p [] h = refl
nobody_found p (y ∷ ws) h = go (stands_at p y) refl (nobody_found p ws h.1)
  where
    go : (b : Bool) → stands_at p y ≡ b → waiters_in ws p ≡ [] → cons_if b y (waiters_in ws p) ≡ []
    go true q i = absurd (h.0 (place_of p y.place q))
    go false q i = i

-- those who wait at a place have what all have if they wait there
at_place : (P : Waiter → Type 0) (p : Place) (ws : List Waiter) → All (λ (y : Waiter). y.place ≡ p → P y) ws → All P (waiters_in ws p)
at_place P p [] h = tt
at_place P p (y ∷ ws) h = go (stands_at p y) refl (at_place P p ws h.1)
  where
    go : (b : Bool) → stands_at p y ≡ b → All P (waiters_in ws p) → All P (cons_if b y (waiters_in ws p))
    go true q i = (h.0 (place_of p y.place q), i)
    go false q i = i

module _ (b : Bool) (ts : List TaskEntry) (p : Place) where
  none_stands : (ws : List Waiter) → Nobody p ws → standing b ts (waiters_in ws p) ≡ []
  none_stands ws h = ap (standing b ts) (nobody_found p ws h) ∙ standing_nobody b ts

  first_found : (a c : List Waiter) (e : Waiter) → FirstAt b ts p a c e → (r : List Waiter) × (standing b ts (waiters_in (a ++ (e ∷ c)) p) ≡ e ∷ r)
  first_found a c e h =
      let i = standing_heads b ts (waiters_in a p) (waiters_in c p) e (at_place (λ (y : Waiter). line_in b ts e < line_in b ts y) p a h.ahead) (at_place (λ (y : Waiter). line_in b ts e ≤ line_in b ts y) p c h.after) in
      (i.0, ap (standing b ts) (keep_append (stands_at p) a (e ∷ c) ∙ ap (λ (d : Bool). waiters_in a p ++ cons_if d e (waiters_in c p)) (ap (same_place p) h.there ∙ alike p)) ∙ i.1)

others_left : (a b : List Waiter) (e : Waiter) → All (λ (y : Waiter). e.task ≢ y.task) (a ++ b) → leave e.task (a ++ (e ∷ b)) ≡ a ++ b
others_left a b e h =
    keep_append (is_other e.task) a (e ∷ b)
    ∙ ap (λ (c : Bool). keep (is_other e.task) a ++ cons_if (not c) e (keep (is_other e.task) b)) (eqb_same e.task)
    ∙ sym (keep_append (is_other e.task) a b)
    ∙ keep_absent e.task (a ++ b) (holds (absent_tells e.task (a ++ b)) h)

-- there is no third case where each task waits once
pub data Found (b : Bool) (ts : List TaskEntry) (p : Place) (ws : List Waiter) : Type 0 where
  nobody : Nobody p ws → Found b ts p ws
  first : (before behind : List Waiter) (e : Waiter) → ws ≡ before ++ (e ∷ behind) → FirstAt b ts p before behind e → Found b ts p ws

module _ (b : Bool) (ts : List TaskEntry) (p : Place) where
  -- who came before others and waits there is the first, if it is not less urgent than the first of them
  oldest_first : (y : Waiter) (ws : List Waiter) → y.place ≡ p → All (λ (x : Waiter). y.task ≢ x.task) ws → All (λ (x : Waiter). x.place ≡ p → line_in b ts y ≤ line_in b ts x) ws → Found b ts p (y ∷ ws)
  oldest_first y ws t o h = first [] ws y refl (record { there = t; ahead = tt; after = h; once = o })

  -- one who came before all of them is passed over
  passed_over : (y : Waiter) (ws a c : List Waiter) (e : Waiter) → ws ≡ a ++ (e ∷ c) → (y.place ≡ p → line_in b ts e < line_in b ts y) → All (λ (x : Waiter). y.task ≢ x.task) ws → FirstAt b ts p a c e → Found b ts p (y ∷ ws)
  passed_over y ws a c e q f o i =
      first (y ∷ a) c e (ap (λ (l : List Waiter). y ∷ l) q)
      (record { there = i.there; ahead = (f, i.ahead); after = i.after; once = ((λ z. all_each (λ (x : Waiter). y.task ≢ x.task) ws a c e q o (sym z)), i.once) })

  pub found : (ws : List Waiter) → Distinct ws → Found b ts p ws
  found [] d = nobody tt
  found (y ∷ ws) d = go (stands_at p y) refl (found ws d.1)
    where
      others : All (λ (x : Waiter). y.task ≢ x.task) ws
      others = (absent_tells y.task ws).yes d.0

      elsewhere : stands_at p y ≡ false → y.place ≢ p
      elsewhere h e = no_both (ap (same_place p) e ∙ alike p) h

      -- it waits there too: the two are compared
      compared : (a c : List Waiter) (e : Waiter) → ws ≡ a ++ (e ∷ c) → FirstAt b ts p a c e → y.place ≡ p → (t : Bool) → leb (line_in b ts y) (line_in b ts e) ≡ t → Found b ts p (y ∷ ws)
      compared a c e q i h true k =
          let z = leb-true (line_in b ts y) (line_in b ts e) k in
          oldest_first y ws h others (subst (All (λ (x : Waiter). x.place ≡ p → line_in b ts y ≤ line_in b ts x)) (sym q)
          (all_append (λ (x : Waiter). x.place ≡ p → line_in b ts y ≤ line_in b ts x) a (e ∷ c)
          (all_weaker (λ (x : Waiter). x.place ≡ p → line_in b ts e < line_in b ts x) (λ (x : Waiter). x.place ≡ p → line_in b ts y ≤ line_in b ts x) (λ x f w. omega (arith, z, f w)) a i.ahead)
          ((λ w. z), all_weaker (λ (x : Waiter). x.place ≡ p → line_in b ts e ≤ line_in b ts x) (λ (x : Waiter). x.place ≡ p → line_in b ts y ≤ line_in b ts x) (λ x f w. omega (arith, z, f w)) c i.after)))
      compared a c e q i h false k = passed_over y ws a c e q (λ w. omega (arith, leb-false (line_in b ts y) (line_in b ts e) k)) others i

      go : (t : Bool) → stands_at p y ≡ t → Found b ts p ws → Found b ts p (y ∷ ws)
      go true h (nobody i) = oldest_first y ws (place_of p y.place h) others (all_weaker (λ (x : Waiter). x.place ≢ p) (λ (x : Waiter). x.place ≡ p → line_in b ts y ≤ line_in b ts x) (λ x f w. absurd (f w)) ws i)
      go true h (first a c e q i) = compared a c e q i (place_of p y.place h) (leb (line_in b ts y) (line_in b ts e)) refl
      go false h (nobody i) = nobody (elsewhere h, i)
      go false h (first a c e q i) = passed_over y ws a c e q (λ w. absurd (elsewhere h w)) others i

-- ---- the object's record
pub put_nth : {A : Type 0} (l m : List A) (x y : A) → put (l ++ (x ∷ m)) (suc (length l)) y ≡ l ++ (y ∷ m)
put_nth [] m x y = refl
put_nth (z ∷ l) m x y = ap (λ (k : List _). z ∷ k) (put_nth l m x y)

-- a record made from the one that stood there
put_made : {A : Type 0} (d : A) (g : A → A) (l m : List A) (x : A) → put (l ++ (x ∷ m)) (suc (length l)) (g (at d (l ++ (x ∷ m)) (suc (length l)))) ≡ l ++ (g x ∷ m)
put_made d g l m x = ap (λ (y : _). put (l ++ (x ∷ m)) (suc (length l)) (g y)) (nth d x l m) ∙ put_nth l m x (g x)

-- ---- semaphores
module _ (f : Fixed) (qs : List Queue) (ls : List ℕ) (k : ℕ) (l m : List Sem) where
  -- the place of the semaphore, a call on it, and a state in which these tasks wait and its record is y
  abbrev pub at_sem : Place
  at_sem = record { side = on_sem; number = suc (length l) }

  abbrev pub ask_sem : Act SemaphoreCall → Op
  ask_sem a = on_semaphore (pos (suc (length l))) a

  abbrev pub sem_state : List Waiter → Sem → State
  sem_state ws y = record { fixed = f; waits = ws; sems = l ++ (y ∷ m); queues = qs; levels = ls }

  abbrev pub with_count : Sem → ℕ → Sem
  with_count y c = record { domain = y.domain; attribute = y.attribute; max = y.max; count = c; vector = y.vector }

  module _ (x : Sem) where
    -- in which order those who wait for it stand
    abbrev pub order : Bool
    order = by_priority x.attribute

    waiters_are : (ws : List Waiter) → Semaphores.waiters_of f.tasks ws (l ++ (x ∷ m)) (suc (length l)) ≡ standing order f.tasks (waiters_in ws at_sem)
    waiters_are ws = ap (λ (y : Sem). standing (by_priority y.attribute) f.tasks (waiters_in ws at_sem)) (nth no_sem x l m)

    -- "With waiters, the first is released with E_OK and the count stays"
    pub signal_wakes_lem : (a b : List Waiter) (e : Waiter) → FirstAt order f.tasks at_sem a b e → Passes (sem_state (a ++ (e ∷ b)) x) (pos k) (ask_sem (own signal))
        → step (sem_state (a ++ (e ∷ b)) x) (call (pos k) (ask_sem (own signal))) ≡ record { answer = answers ok 0 (with e 0); state = sem_state (a ++ b) x }
    signal_wakes_lem a b e h p =
        let s = sem_state (a ++ (e ∷ b)) x in
        let w = waiters_are (a ++ (e ∷ b)) ∙ (first_found order f.tasks at_sem a b e h).1 in
        does s (pos k) (ask_sem (own signal)) p
        ∙ (λ i. on_records Semaphores.room s (signal_by s.waits s.sems (suc (length l)) (w i) (leb (at no_sem s.sems (suc (length l))).max (at no_sem s.sems (suc (length l))).count)))
        ∙ ap (λ (ws : List Waiter). record { answer = answers ok 0 (with e 0); state = sem_state ws x }) (others_left a b e h.once)

    -- "Otherwise count plus 1"
    pub signal_raises : (ws : List Waiter) → Nobody at_sem ws → x.count < x.max → Passes (sem_state ws x) (pos k) (ask_sem (own signal))
        → step (sem_state ws x) (call (pos k) (ask_sem (own signal))) ≡ record { answer = answers ok 0 []; state = sem_state ws (with_count x (suc x.count)) }
    signal_raises ws h r p =
        let s = sem_state ws x in
        let w = waiters_are ws ∙ none_stands order f.tasks at_sem ws h in
        let y = nth no_sem x l m in
        let b = fails (le_tells x.max x.count) (λ z. omega arith) in
        does s (pos k) (ask_sem (own signal)) p
        ∙ (λ i. on_records Semaphores.room s (signal_by ws s.sems (suc (length l)) (w i) (leb (y i).max (y i).count)))
        ∙ ap (λ (t : Bool). on_records Semaphores.room s (signal_by ws s.sems (suc (length l)) [] t)) b
        ∙ ap (λ (xs : List Sem). record { answer = answers ok 0 []; state = record { fixed = f; waits = ws; sems = xs; queues = qs; levels = ls } }) (put_made no_sem (λ (y : Sem). with_count y (suc y.count)) l m x)

    -- "Count above 0: minus 1, E_OK"
    pub acquire_takes : (ws : List Waiter) (a : Patience) (c : ℕ) → x.count ≡ suc c → Passes (sem_state ws x) (pos k) (ask_sem (own (acquire a)))
        → step (sem_state ws x) (call (pos k) (ask_sem (own (acquire a)))) ≡ record { answer = answers ok 0 []; state = sem_state ws (with_count x c) }
    acquire_takes ws a c h p =
        let s = sem_state ws x in
        let y = nth no_sem x l m in
        does s (pos k) (ask_sem (own (acquire a))) p
        ∙ ap (λ (j : ℕ). on_records Semaphores.room s (acquire_by ws s.sems k (suc (length l)) a j)) (ap (λ (z : Sem). z.count) y ∙ h)
        ∙ ap (λ (xs : List Sem). record { answer = answers ok 0 []; state = record { fixed = f; waits = ws; sems = xs; queues = qs; levels = ls } }) (put_made no_sem (λ (z : Sem). with_count z c) l m x)

    -- "wait puts the caller last in the queue and answers "waiting""
    pub wait_joins : (ws : List Waiter) → x.count ≡ 0 → Passes (sem_state ws x) (pos k) (ask_sem (own (acquire forever)))
        → step (sem_state ws x) (call (pos k) (ask_sem (own (acquire forever)))) ≡ record { answer = answers waiting 0 []; state = sem_state (ws ++ (record { task = k; place = at_sem; word = 0 } ∷ [])) x }
    wait_joins ws h p =
        let s = sem_state ws x in
        let y = nth no_sem x l m in
        does s (pos k) (ask_sem (own (acquire forever))) p
        ∙ ap (λ (j : ℕ). on_records Semaphores.room s (acquire_by ws s.sems k (suc (length l)) forever j)) (ap (λ (z : Sem). z.count) y ∙ h)

    -- "Set-vector. All four patterns are replaced. Tasks that already wait stay"
    pub semaphore_set_lem : (ws : List Waiter) (v : Vector) → Passes (sem_state ws x) (pos k) (ask_sem (set_vector v))
        → step (sem_state ws x) (call (pos k) (ask_sem (set_vector v)))
        ≡ record { answer = answers ok 0 []; state = sem_state ws (record { domain = x.domain; attribute = x.attribute; max = x.max; count = x.count; vector = v }) }
    semaphore_set_lem ws v p =
        does (sem_state ws x) (pos k) (ask_sem (set_vector v)) p
        ∙ ap (λ (xs : List Sem). record { answer = answers ok 0 []; state = record { fixed = f; waits = ws; sems = xs; queues = qs; levels = ls } })
        (put_made no_sem (λ (z : Sem). record { domain = z.domain; attribute = z.attribute; max = z.max; count = z.count; vector = v }) l m x)

-- ---- data queues
module _ (f : Fixed) (xs : List Sem) (ls : List ℕ) (k : ℕ) (l m : List Queue) where
  -- where a task waits to receive from the queue and where to send to it, a call on it, and a state in which these tasks wait and its record is y
  abbrev pub to_receive : Place
  to_receive = record { side = receiving; number = suc (length l) }

  abbrev pub to_send : Place
  to_send = record { side = sending; number = suc (length l) }

  abbrev pub ask_queue : Act QueueCall → Op
  ask_queue a = on_queue (pos (suc (length l))) a

  abbrev pub queue_state : List Waiter → Queue → State
  queue_state ws y = record { fixed = f; waits = ws; sems = xs; queues = l ++ (y ∷ m); levels = ls }

  abbrev pub with_buffer : Queue → List ℕ → Queue
  with_buffer y b = record { domain = y.domain; attribute = y.attribute; capacity = y.capacity; buffer = b; vector = y.vector }

  module _ (x : Queue) where
    -- the queue with another buffer, in an answer and the state after it
    stored : (g : Queue → List ℕ) (ws : List Waiter) (a : Answer)
        → out a (record { fixed = f; waits = ws; sems = xs; queues = put (l ++ (x ∷ m)) (suc (length l)) (with_buffer (at no_queue (l ++ (x ∷ m)) (suc (length l))) (g (at no_queue (l ++ (x ∷ m)) (suc (length l))))); levels = ls })
        ≡ out a (queue_state ws (with_buffer x (g x)))
    stored g ws a = ap (λ (ys : List Queue). out a (record { fixed = f; waits = ws; sems = xs; queues = ys; levels = ls })) (put_made no_queue (λ (y : Queue). with_buffer y (g y)) l m x)

    -- a receiver that gets the word leaves
    received : (c b : List Waiter) (e : Waiter) → FirstAt false f.tasks to_receive c b e → (a : Answer) → out a (queue_state (leave e.task (c ++ (e ∷ b))) x) ≡ out a (queue_state (c ++ b) x)
    received c b e h a = ap (λ (ws : List Waiter). out a (queue_state ws x)) (others_left c b e h.once)

    module _ (a : Patience) (w : ℕ) where
      send_by_lem : (ws c : List Waiter) (t : Bool) → waiters_in ws to_receive ≡ c → ltb (length x.buffer) x.capacity ≡ t → Passes (queue_state ws x) (pos k) (ask_queue (own (send a w)))
          → step (queue_state ws x) (call (pos k) (ask_queue (own (send a w)))) ≡ on_records Queues.room (queue_state ws x) (send_by ws (l ++ (x ∷ m)) k (suc (length l)) w a c t)
      send_by_lem ws c t h r p =
          let s = queue_state ws x in
          let y = nth no_queue x l m in
          does s (pos k) (ask_queue (own (send a w))) p
          ∙ (λ j. on_records Queues.room s (send_by ws s.queues k (suc (length l)) w a (h j) (ltb (length (y j).buffer) (y j).capacity)))
          ∙ ap (λ (b : Bool). on_records Queues.room s (send_by ws s.queues k (suc (length l)) w a c b)) r

      -- "With a waiting receiver, the first gets the word and is released"
      pub send_hands : (c b : List Waiter) (e : Waiter) → FirstAt false f.tasks to_receive c b e → Passes (queue_state (c ++ (e ∷ b)) x) (pos k) (ask_queue (own (send a w)))
          → step (queue_state (c ++ (e ∷ b)) x) (call (pos k) (ask_queue (own (send a w)))) ≡ record { answer = answers ok 0 (with e w); state = queue_state (c ++ b) x }
      send_hands c b e h p = send_by_lem (c ++ (e ∷ b)) _ _ (first_found false f.tasks to_receive c b e h).1 refl p ∙ received c b e h (answers ok 0 (with e w))

      -- "Otherwise, with room, the word goes last into the buffer"
      pub send_buffers : (ws : List Waiter) → Nobody to_receive ws → length x.buffer < x.capacity → Passes (queue_state ws x) (pos k) (ask_queue (own (send a w)))
          → step (queue_state ws x) (call (pos k) (ask_queue (own (send a w)))) ≡ record { answer = answers ok 0 []; state = queue_state ws (with_buffer x (x.buffer ++ (w ∷ []))) }
      send_buffers ws h r p = send_by_lem ws [] true (nobody_found to_receive ws h) (holds (lt_tells (length x.buffer) x.capacity) r) p ∙ stored (λ (y : Queue). y.buffer ++ (w ∷ [])) ws (answers ok 0 [])

    -- "send waits with its word, last"
    pub send_joins : (ws : List Waiter) (w : ℕ) → Nobody to_receive ws → x.capacity ≤ length x.buffer → Passes (queue_state ws x) (pos k) (ask_queue (own (send forever w)))
        → step (queue_state ws x) (call (pos k) (ask_queue (own (send forever w)))) ≡ record { answer = answers waiting 0 []; state = queue_state (ws ++ (record { task = k; place = to_send; word = w } ∷ [])) x }
    send_joins ws w h r p = send_by_lem forever w ws [] false (nobody_found to_receive ws h) (fails (lt_tells (length x.buffer) x.capacity) (λ z. omega arith)) p

    -- forced send, by request T-05
    module _ (w : ℕ) where
      force_by_lem : (ws : List Waiter) (none : Bool) (c : List Waiter) (t : Bool) → eqb x.capacity 0 ≡ none → waiters_in ws to_receive ≡ c → ltb (length x.buffer) x.capacity ≡ t
          → Passes (queue_state ws x) (pos k) (ask_queue (own (forced_send w)))
          → step (queue_state ws x) (call (pos k) (ask_queue (own (forced_send w)))) ≡ on_records Queues.room (queue_state ws x) (force_by ws (l ++ (x ∷ m)) (suc (length l)) w none c t)
      force_by_lem ws none c t e h r p =
          let s = queue_state ws x in
          let y = nth no_queue x l m in
          does s (pos k) (ask_queue (own (forced_send w))) p
          ∙ (λ j. on_records Queues.room s (force_by ws s.queues (suc (length l)) w (eqb (y j).capacity 0) (h j) (ltb (length (y j).buffer) (y j).capacity)))
          ∙ (λ j. on_records Queues.room s (force_by ws s.queues (suc (length l)) w (e j) c (r j)))

      -- "on capacity 0 it is E_ILUSE, after E_OACV, even with a waiting receiver": whoever waits, and nothing changes
      pub force_refused : (ws : List Waiter) → x.capacity ≡ 0 → Passes (queue_state ws x) (pos k) (ask_queue (own (forced_send w)))
          → step (queue_state ws x) (call (pos k) (ask_queue (own (forced_send w)))) ≡ record { answer = refuses e_iluse; state = queue_state ws x }
      force_refused ws e p = force_by_lem ws true _ _ (holds (eq_tells x.capacity 0) e) refl refl p

      -- "with a waiting receiver as before"
      pub force_hands : (c b : List Waiter) (e : Waiter) → FirstAt false f.tasks to_receive c b e → x.capacity ≢ 0 → Passes (queue_state (c ++ (e ∷ b)) x) (pos k) (ask_queue (own (forced_send w)))
          → step (queue_state (c ++ (e ∷ b)) x) (call (pos k) (ask_queue (own (forced_send w)))) ≡ record { answer = answers ok 0 (with e w); state = queue_state (c ++ b) x }
      force_hands c b e h z p =
          force_by_lem (c ++ (e ∷ b)) false _ _ (fails (eq_tells x.capacity 0) z) (first_found false f.tasks to_receive c b e h).1 refl p ∙ received c b e h (answers ok 0 (with e w))

      -- "into room as before"
      pub force_buffers : (ws : List Waiter) → Nobody to_receive ws → length x.buffer < x.capacity → Passes (queue_state ws x) (pos k) (ask_queue (own (forced_send w)))
          → step (queue_state ws x) (call (pos k) (ask_queue (own (forced_send w)))) ≡ record { answer = answers ok 0 []; state = queue_state ws (with_buffer x (x.buffer ++ (w ∷ []))) }
      force_buffers ws h r p =
          force_by_lem ws false [] true (fails (eq_tells x.capacity 0) (λ z. omega arith)) (nobody_found to_receive ws h) (holds (lt_tells (length x.buffer) x.capacity) r) p
          ∙ stored (λ (y : Queue). y.buffer ++ (w ∷ [])) ws (answers ok 0 [])

      -- "into a full buffer it drops the oldest word and appends its own": whoever waits to send stays
      pub force_replaces : (ws : List Waiter) (z : ℕ) (b : List ℕ) → x.buffer ≡ z ∷ b → Nobody to_receive ws → x.capacity ≢ 0 → x.capacity ≤ length x.buffer → Passes (queue_state ws x) (pos k) (ask_queue (own (forced_send w)))
          → step (queue_state ws x) (call (pos k) (ask_queue (own (forced_send w)))) ≡ record { answer = answers ok 0 []; state = queue_state ws (with_buffer x (b ++ (w ∷ []))) }
      force_replaces ws z b e h n r p =
          force_by_lem ws false [] false (fails (eq_tells x.capacity 0) n) (nobody_found to_receive ws h) (fails (lt_tells (length x.buffer) x.capacity) (λ q. omega arith)) p
          ∙ stored (λ (y : Queue). drop 1 y.buffer ++ (w ∷ [])) ws (answers ok 0 [])
          ∙ ap (λ (y : List ℕ). out (answers ok 0 []) (queue_state ws (with_buffer x (drop 1 y ++ (w ∷ []))))) e

    -- in which order those who wait to send to it stand
    abbrev pub ranked : Bool
    ranked = by_priority x.attribute

    module _ (a : Patience) where
      by_content : (ws : List Waiter) (b : List ℕ) (c : List Waiter) → x.buffer ≡ b → standing ranked f.tasks (waiters_in ws to_send) ≡ c → Passes (queue_state ws x) (pos k) (ask_queue (own (receive a)))
          → step (queue_state ws x) (call (pos k) (ask_queue (own (receive a)))) ≡ on_records Queues.room (queue_state ws x) (receive_by ws (l ++ (x ∷ m)) k (suc (length l)) a b c)
      by_content ws b c h r p =
          let s = queue_state ws x in
          let q = nth no_queue x l m in
          let y = ap (λ (z : Queue). z.buffer) q ∙ h in
          let w = ap (λ (z : Queue). standing (by_priority z.attribute) f.tasks (waiters_in ws to_send)) q ∙ r in
          does s (pos k) (ask_queue (own (receive a))) p ∙ (λ j. on_records Queues.room s (receive_by ws s.queues k (suc (length l)) a (y j) (w j)))

      -- "A buffered word: the oldest is handed out"
      pub receive_takes : (ws : List Waiter) (w : ℕ) (b : List ℕ) → x.buffer ≡ w ∷ b → Nobody to_send ws → Passes (queue_state ws x) (pos k) (ask_queue (own (receive a)))
          → step (queue_state ws x) (call (pos k) (ask_queue (own (receive a)))) ≡ record { answer = answers ok w []; state = queue_state ws (with_buffer x b) }
      receive_takes ws w b h r p = by_content ws (w ∷ b) [] h (none_stands ranked f.tasks to_send ws r) p ∙ stored (λ (y : Queue). b) ws (answers ok w [])

      module _ (c d : List Waiter) (e : Waiter) (h : FirstAt ranked f.tasks to_send c d e) (p : Passes (queue_state (c ++ (e ∷ d)) x) (pos k) (ask_queue (own (receive a)))) where
        -- "if a sender waits, the first sender's word moves to the buffer's end and it is released"
        pub receive_refills_lem : (w : ℕ) (b : List ℕ) → x.buffer ≡ w ∷ b
            → step (queue_state (c ++ (e ∷ d)) x) (call (pos k) (ask_queue (own (receive a)))) ≡ record { answer = answers ok w (with e 0); state = queue_state (c ++ d) (with_buffer x (b ++ (e.word ∷ []))) }
        receive_refills_lem w b r =
            by_content (c ++ (e ∷ d)) (w ∷ b) _ r (first_found ranked f.tasks to_send c d e h).1 p
            ∙ stored (λ (y : Queue). b ++ (e.word ∷ [])) (leave e.task (c ++ (e ∷ d))) (answers ok w (with e 0))
            ∙ ap (λ (ws : List Waiter). record { answer = answers ok w (with e 0); state = queue_state ws (with_buffer x (b ++ (e.word ∷ []))) }) (others_left c d e h.once)

        -- "Empty buffer with a waiting sender (capacity 0): its word is handed out and it is released"
        pub receive_passes_lem : x.buffer ≡ []
            → step (queue_state (c ++ (e ∷ d)) x) (call (pos k) (ask_queue (own (receive a)))) ≡ record { answer = answers ok e.word (with e 0); state = queue_state (c ++ d) x }
        receive_passes_lem r =
            by_content (c ++ (e ∷ d)) [] _ r (first_found ranked f.tasks to_send c d e h).1 p
            ∙ ap (λ (ws : List Waiter). record { answer = answers ok e.word (with e 0); state = queue_state ws x }) (others_left c d e h.once)

    -- "receive waits, last"
    pub receive_joins : (ws : List Waiter) → x.buffer ≡ [] → Nobody to_send ws → Passes (queue_state ws x) (pos k) (ask_queue (own (receive forever)))
        → step (queue_state ws x) (call (pos k) (ask_queue (own (receive forever)))) ≡ record { answer = answers waiting 0 []; state = queue_state (ws ++ (record { task = k; place = to_receive; word = 0 } ∷ [])) x }
    receive_joins ws h r p = by_content forever ws [] [] h (none_stands ranked f.tasks to_send ws r) p

    -- "Set-vector. All four patterns are replaced. Tasks that already wait stay"
    pub queue_set_lem : (ws : List Waiter) (v : Vector) → Passes (queue_state ws x) (pos k) (ask_queue (set_vector v))
        → step (queue_state ws x) (call (pos k) (ask_queue (set_vector v)))
        ≡ record { answer = answers ok 0 []; state = queue_state ws (record { domain = x.domain; attribute = x.attribute; capacity = x.capacity; buffer = x.buffer; vector = v }) }
    queue_set_lem ws v p =
        does (queue_state ws x) (pos k) (ask_queue (set_vector v)) p
        ∙ ap (λ (ys : List Queue). record { answer = answers ok 0 []; state = record { fixed = f; waits = ws; sems = xs; queues = ys; levels = ls } })
        (put_made no_queue (λ (y : Queue). record { domain = y.domain; attribute = y.attribute; capacity = y.capacity; buffer = y.buffer; vector = v }) l m x)
