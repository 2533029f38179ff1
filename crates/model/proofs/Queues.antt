-- The data queues' room: the laws of one queue, over what is seen of it; what each call on one does, by cases, and how it can end. Assumes nothing.
use mathlib.Core.Path.{◌≡◌, refl, sym, ap, subst}
use mathlib.Core.Logic.{◌≢◌, ◌⊎◌, inl, inr}
use mathlib.Core.Bool.{Bool, true, false}
use mathlib.Core.List.{List, [], ◌∷◌, ◌++◌}
use mathlib.Core.Option.{none}
use Prim.Native.Nat.{ℕ, suc, ◌+◌, ◌≤◌, ◌<◌}
use native.Mathlib.Omega.{arith}
use lib.ListN.{length, drop, length-append}
use lib.Dec.{eqb, ltb}
use borrow.Author.Tests.{ltb-true, ltb-false}
use Rattle.access.specs.Vectors.{pattern_of}
use Rattle.itron.specs.Codes.{error, waiting}
use Rattle.itron.specs.declared.error.Error.{Error as Refusal}
use Rattle.itron.specs.declared.error.Error.TheVariants.{Oacv as e_oacv, Iluse as e_iluse, Tmout as e_tmout}
pub use Rattle.model.specs.Conditions.{QView, qview, qview_of, QueueOk}
use Rattle.model.specs.Lists.{All}
use Rattle.model.specs.State.{Vector, TaskEntry, Queue, Waiter, State, Place, Side, on_sem, receiving, sending, place, waiter, no_queue, zero_vector}
use Rattle.model.specs.Answers.{Effect, effect, say}
use Rattle.model.specs.Waits.{Patience, polling, forever, waiters_in, by_priority, order_of, leave, join, refusal, wakes, gives}
use Rattle.model.specs.Acts.{Act, own, refer, set_vector, operation_of}
use Rattle.model.specs.Rooms.{act_on}
use Rattle.model.specs.Queues.{QueueCall, send, receive, forced_send, operation, queue_in, set_buffer, has_room, senders_of, begins, serves, send_by, receive_by, force_by, does, room}
use Rattle.model.specs.QueueClaims.{pattern_for}
use Rattle.model.specs.Conditions.{Plain, Registered}
use Rattle.model.proofs.Lists.{Distinct, cons_ne, eq_of, ne_of, at_put_same, at_put_keep}
use Rattle.model.proofs.Order.{standing_none, standing_first}
use Rattle.model.proofs.WaitQueues.{alike, leave_here, leave_elsewhere, join_here, join_elsewhere}
use Rattle.model.proofs.Endings.{SameBut, same_all, same_put, Ends}
use Rattle.model.proofs.Endings as Endings
use Rattle.model.proofs.Rooms.{room_of, is_at, is_at_lem, RoomLaws}

-- which room it is
abbrev tag : ℕ
tag = room_of sending

pub qview_eq : {c c' : ℕ} {b b' : List ℕ} {x x' y y' : List Waiter} → c ≡ c' → b ≡ b' → x ≡ x' → y ≡ y' → qview c b x y ≡ qview c' b' x' y'
qview_eq p q r s = λ i. record { capacity = p i; buffer = q i; senders = r i; receivers = s i }

-- ---- the laws of one queue: what a call does to it leaves it fine
module _ (c : ℕ) (b : List ℕ) (x y : List Waiter) (k : QueueOk (qview c b x y)) where
  -- a receiver waits, so nothing is held
  pub empty : {e : Waiter} {l : List Waiter} → y ≡ e ∷ l → (b ≡ []) × (x ≡ [])
  empty h = go k.idle
    where
      go : (y ≡ []) ⊎ ((b ≡ []) × (x ≡ [])) → (b ≡ []) × (x ≡ [])
      go (inl z) = absurd (cons_ne h z)
      go (inr z) = z

  -- there is room, so no sender waits
  pub unheld : length b < c → x ≡ []
  unheld h = go k.full
    where
      go : (x ≡ []) ⊎ (c ≤ length b) → x ≡ []
      go (inl z) = z
      go (inr z) = absurd (omega arith)

  -- a word is buffered, so no receiver waits
  no_receiver : {z : ℕ} {b' : List ℕ} → b ≡ z ∷ b' → y ≡ []
  no_receiver h = go k.idle
    where
      go : (y ≡ []) ⊎ ((b ≡ []) × (x ≡ [])) → y ≡ []
      go (inl z) = z
      go (inr z) = absurd (cons_ne h z.0)

  -- a receiver gets a word; a word comes last; a sender joins
  pub pass : {e : Waiter} {l : List Waiter} → y ≡ e ∷ l → QueueOk (qview c b x l)
  pass h = record { idle = inr (empty h); full = inl (empty h).1 }

  pub store : (w : ℕ) → y ≡ [] → length b < c → QueueOk (qview c (b ++ (w ∷ [])) x y)
  store w h r = record { idle = inl h; full = inl (unheld r) }

  pub queue_up : (e : Waiter) → y ≡ [] → c ≤ length b → QueueOk (qview c b (x ++ (e ∷ [])) y)
  queue_up e h r = record { idle = inl h; full = inr r }

  -- the oldest word leaves; another comes last for it, while a sender leaves, whichever it is, or not
  pub take : (z : ℕ) (b' : List ℕ) → b ≡ z ∷ b' → x ≡ [] → QueueOk (qview c b' x y)
  take z b' h r = record { idle = inl (no_receiver h); full = inl r }

  as_long : (z w : ℕ) (b' : List ℕ) → b ≡ z ∷ b' → c ≤ length b → c ≤ length (b' ++ (w ∷ []))
  as_long z w b' h r = let g : length b ≡ suc (length b') = ap length h in rw (length-append b' (w ∷ [])) (omega arith)

  pub refill : (z w : ℕ) (b' : List ℕ) (l : List Waiter) → b ≡ z ∷ b' → (x ≡ [] → ⊥) → QueueOk (qview c (b' ++ (w ∷ [])) l y)
  refill z w b' l h r = record { idle = inl (no_receiver h); full = go k.full }
    where
      go : (x ≡ []) ⊎ (c ≤ length b) → (l ≡ []) ⊎ (c ≤ length (b' ++ (w ∷ [])))
      go (inl q) = absurd (r q)
      go (inr q) = inr (as_long z w b' h q)

  pub replace : (z w : ℕ) (b' : List ℕ) → b ≡ z ∷ b' → c ≤ length b → QueueOk (qview c (b' ++ (w ∷ [])) x y)
  replace z w b' h r = record { idle = inl (no_receiver h); full = inr (as_long z w b' h r) }

  -- a sender's word is handed out; a receiver joins
  pub direct : (l : List Waiter) → (x ≡ [] → ⊥) → QueueOk (qview c b l y)
  direct l r = record { idle = inl (go k.idle); full = go₂ k.full }
    where
      go : (y ≡ []) ⊎ ((b ≡ []) × (x ≡ [])) → y ≡ []
      go (inl z) = z
      go (inr z) = absurd (r z.1)

      go₂ : (x ≡ []) ⊎ (c ≤ length b) → (l ≡ []) ⊎ (c ≤ length b)
      go₂ (inl z) = absurd (r z)
      go₂ (inr z) = inr z

  pub await : (e : Waiter) → b ≡ [] → x ≡ [] → QueueOk (qview c b x (y ++ (e ∷ [])))
  await e h r = record { idle = inr (h, r); full = inl r }

pub via : {v v' : QView} → v' ≡ v → QueueOk v → QueueOk v'
via e k = subst QueueOk (sym e) k

-- ---- "both sends", and the forced send, "are normal operation 1 .. both receives are normal operation 2. Set-vector is management, refer is reference"
pub governs : (v : Vector) (a : Act QueueCall) → pattern_of v (operation_of operation a) ≡ pattern_for v a
governs v (own (send p w)) = refl
governs v (own (receive p)) = refl
governs v (own (forced_send w)) = refl
governs v refer = refl
governs v (set_vector w) = refl

-- ---- what no own call changes, and what no call changes
abbrev pub entry : Queue → Queue
entry x = record { domain = x.domain; attribute = x.attribute; capacity = x.capacity; buffer = []; vector = x.vector }

abbrev pub bare : Queue → Queue
bare x = record { domain = x.domain; attribute = x.attribute; capacity = x.capacity; buffer = []; vector = zero_vector }

abbrev pub view_in : List Waiter → List Queue → ℕ → QView
view_in ws xs q = qview (queue_in xs q).capacity (queue_in xs q).buffer (waiters_in ws (place sending q)) (waiters_in ws (place receiving q))

-- ---- in which order those who wait at one stand
abbrev pub order_on : List Queue → Side → ℕ → Bool
order_on xs on_sem q = false
order_on xs receiving q = false
order_on xs sending q = by_priority (queue_in xs q).attribute

abbrev pub order : List Queue → Place → Bool
order xs p = order_on xs p.side p.number

pub order_at : (s : State) (p : Place) → room_of p.side ≡ tag → order s.queues p ≡ order_of s p.side p.number
order_at s p h = go p.side h
  where
    go : (d : Side) → room_of d ≡ tag → order_on s.queues d p.number ≡ order_of s d p.number
    go on_sem e = absurd (let z : ◌≡◌ {A = ℕ} 0 1 = e in omega arith)
    go receiving e = refl
    go sending e = refl

module _ (ts : List TaskEntry) (ws : List Waiter) (xs : List Queue) (t q : ℕ) where
  -- a claim about a call and what it gives holds if it holds in each of these cases
  pub record Cases (P : QueueCall → Effect Queue → Type 0) : Type 0 where
    pub send_passes : (p : Patience) (w : ℕ) (e : Waiter) (l : List Waiter) → waiters_in ws (place receiving q) ≡ e ∷ l → P (send p w) (wakes ws xs e 0 w)
    pub send_stores : (p : Patience) (w : ℕ) → waiters_in ws (place receiving q) ≡ [] → ltb (length (queue_in xs q).buffer) (queue_in xs q).capacity ≡ true
        → P (send p w) (gives ws (set_buffer xs q ((queue_in xs q).buffer ++ (w ∷ []))) 0)
    pub send_fails : (w : ℕ) → waiters_in ws (place receiving q) ≡ [] → ltb (length (queue_in xs q).buffer) (queue_in xs q).capacity ≡ false → P (send polling w) (refusal ws xs e_tmout)
    pub send_waits : (w : ℕ) → waiters_in ws (place receiving q) ≡ [] → ltb (length (queue_in xs q).buffer) (queue_in xs q).capacity ≡ false
        → P (send forever w) (effect (say waiting 0 []) (join (waiter t sending q w) ws) xs)
    pub receives : (p : Patience) (x : ℕ) (b : List ℕ) → (queue_in xs q).buffer ≡ x ∷ b → senders_of ts ws xs q ≡ [] → P (receive p) (gives ws (set_buffer xs q b) x)
    pub receive_refills : (p : Patience) (x : ℕ) (b : List ℕ) (e : Waiter) (l : List Waiter) → (queue_in xs q).buffer ≡ x ∷ b → senders_of ts ws xs q ≡ e ∷ l
        → P (receive p) (wakes ws (set_buffer xs q (b ++ (e.word ∷ []))) e x 0)
    pub receive_passes : (p : Patience) (e : Waiter) (l : List Waiter) → (queue_in xs q).buffer ≡ [] → senders_of ts ws xs q ≡ e ∷ l → P (receive p) (wakes ws xs e e.word 0)
    pub receive_fails : (queue_in xs q).buffer ≡ [] → senders_of ts ws xs q ≡ [] → P (receive polling) (refusal ws xs e_tmout)
    pub receive_waits : (queue_in xs q).buffer ≡ [] → senders_of ts ws xs q ≡ [] → P (receive forever) (effect (say waiting 0 []) (join (waiter t receiving q 0) ws) xs)
    pub force_misused : (w : ℕ) → (queue_in xs q).capacity ≡ 0 → P (forced_send w) (refusal ws xs e_iluse)
    pub force_passes : (w : ℕ) (e : Waiter) (l : List Waiter) → (queue_in xs q).capacity ≢ 0 → waiters_in ws (place receiving q) ≡ e ∷ l → P (forced_send w) (wakes ws xs e 0 w)
    pub force_stores : (w : ℕ) → waiters_in ws (place receiving q) ≡ [] → ltb (length (queue_in xs q).buffer) (queue_in xs q).capacity ≡ true
        → P (forced_send w) (gives ws (set_buffer xs q ((queue_in xs q).buffer ++ (w ∷ []))) 0)
    pub force_drops : (w z : ℕ) (b : List ℕ) → waiters_in ws (place receiving q) ≡ [] → ltb (length (queue_in xs q).buffer) (queue_in xs q).capacity ≡ false → (queue_in xs q).buffer ≡ z ∷ b
        → P (forced_send w) (gives ws (set_buffer xs q (b ++ (w ∷ []))) 0)

  module _ (P : QueueCall → Effect Queue → Type 0) (cs : Cases P) where
    pub cover : (c : QueueCall) → P c (does ts ws xs t q c)
    cover (send p w) = go p (waiters_in ws (place receiving q)) (has_room (queue_in xs q)) refl refl
      where
        go : (p : Patience) (l : List Waiter) (room : Bool) → waiters_in ws (place receiving q) ≡ l → has_room (queue_in xs q) ≡ room → P (send p w) (send_by ws xs t q w p l room)
        go p (e ∷ l) room h k = cs.send_passes p w e l h
        go p [] true h k = cs.send_stores p w h k
        go polling [] false h k = cs.send_fails w h k
        go forever [] false h k = cs.send_waits w h k
    cover (receive p) = go p (queue_in xs q).buffer (senders_of ts ws xs q) refl refl
      where
        go : (p : Patience) (b : List ℕ) (l : List Waiter) → (queue_in xs q).buffer ≡ b → senders_of ts ws xs q ≡ l → P (receive p) (receive_by ws xs t q p b l)
        go p (x ∷ b) [] h k = cs.receives p x b h k
        go p (x ∷ b) (e ∷ l) h k = cs.receive_refills p x b e l h k
        go p [] (e ∷ l) h k = cs.receive_passes p e l h k
        go polling [] [] h k = cs.receive_fails h k
        go forever [] [] h k = cs.receive_waits h k
    cover (forced_send w) = go (eqb (queue_in xs q).capacity 0) (waiters_in ws (place receiving q)) (has_room (queue_in xs q)) refl refl refl
      where
        -- what is full and has a capacity has an oldest word
        full : (b : List ℕ) → (queue_in xs q).buffer ≡ b → (queue_in xs q).capacity ≢ 0 → waiters_in ws (place receiving q) ≡ [] → has_room (queue_in xs q) ≡ false
            → P (forced_send w) (gives ws (set_buffer xs q (drop 1 b ++ (w ∷ []))) 0)
        full [] e n h k = absurd (n (omega (arith, ltb-false (length (queue_in xs q).buffer) (queue_in xs q).capacity k, ap length e)))
        full (z ∷ b) e n h k = cs.force_drops w z b h k e

        go : (none : Bool) (l : List Waiter) (room : Bool) → eqb (queue_in xs q).capacity 0 ≡ none → waiters_in ws (place receiving q) ≡ l → has_room (queue_in xs q) ≡ room → P (forced_send w) (force_by ws xs q w none l room)
        go true l room n h k = cs.force_misused w (eq_of _ 0 n)
        go false (e ∷ l) room n h k = cs.force_passes w e l (ne_of _ 0 n) h
        go false [] true n h k = cs.force_stores w h k
        go false [] false n h k = full (queue_in xs q).buffer refl (ne_of _ 0 n) h k

  -- nobody stands in line to send, so nobody waits to
  nobody : senders_of ts ws xs q ≡ [] → waiters_in ws (place sending q) ≡ []
  nobody = standing_none (by_priority (queue_in xs q).attribute) ts (waiters_in ws (place sending q))

  abbrev EndsSo : QueueCall → Effect Queue → Type 0
  EndsSo c o = Ends Queue ts ws xs t (is_at tag q) (order xs) (SameBut no_queue entry q xs) (begins t q c) (serves q c) o

  pub ends : (c : QueueCall) → Ends Queue ts ws xs t (is_at tag q) (order xs) (SameBut no_queue entry q xs) (begins t q c) (serves q c) (does ts ws xs t q c)
  ends c = cover EndsSo (record {
    send_passes = λ p w e l h. Endings.wakes xs (place receiving q) e l 0 w (same_all no_queue entry q xs) (is_at_lem tag q (place receiving q) refl refl) refl h;
    send_stores = λ p w h r. Endings.gives _ 0 (same_put no_queue entry q xs _ refl) h;
    send_fails = λ w h r. Endings.refused e_tmout late;
    send_waits = λ w h r. Endings.waits (waiter t sending q w) refl (is_at_lem tag q (place sending q) refl refl) refl h;
    receives = λ p x b h r. Endings.gives _ x (same_put no_queue entry q xs _ refl) (nobody r);
    receive_refills = λ p x b e l h r. Endings.wakes _ (place sending q) e l x 0 (same_put no_queue entry q xs _ refl) (is_at_lem tag q (place sending q) refl refl) refl r;
    receive_passes = λ p e l h r. Endings.wakes xs (place sending q) e l e.word 0 (same_all no_queue entry q xs) (is_at_lem tag q (place sending q) refl refl) refl r;
    receive_fails = λ h r. Endings.refused e_tmout late;
    receive_waits = λ h r. Endings.waits (waiter t receiving q 0) refl (is_at_lem tag q (place receiving q) refl refl) refl tt;
    force_misused = λ w h. Endings.refused e_iluse misused;
    force_passes = λ w e l n h. Endings.wakes xs (place receiving q) e l 0 w (same_all no_queue entry q xs) (is_at_lem tag q (place receiving q) refl refl) refl h;
    force_stores = λ w h r. Endings.gives _ 0 (same_put no_queue entry q xs _ refl) h;
    force_drops = λ w z b h r f. Endings.gives _ 0 (same_put no_queue entry q xs _ refl) h;
  }) c
    where
      late : e_tmout ≢ e_oacv
      late k = let z : ◌≡◌ {A = ℕ} 0 1 = cc in omega arith

      misused : e_iluse ≢ e_oacv
      misused k = let z : ◌≡◌ {A = ℕ} 0 1 = cc in omega arith

  -- it leaves its queue fine
  module _ (h : q ≢ 0) (r : q ≤ length xs) (d : Distinct ws) (k : QueueOk (view_in ws xs q)) where
    refilled : (b : List ℕ) {l m x y : List Waiter} → l ≡ x → m ≡ y → qview (queue_in (set_buffer xs q b) q).capacity (queue_in (set_buffer xs q b) q).buffer l m ≡ qview (queue_in xs q).capacity b x y
    refilled b e f = let z = at_put_same no_queue xs q (record { domain = (queue_in xs q).domain; attribute = (queue_in xs q).attribute; capacity = (queue_in xs q).capacity; buffer = b; vector = (queue_in xs q).vector }) h r in
        qview_eq (ap (λ (x : Queue). x.capacity) z) (ap (λ (x : Queue). x.buffer) z) e f

    abbrev FineLaw : QueueCall → Effect Queue → Type 0
    FineLaw c o = QueueOk (view_in o.waits o.records q)

    pub fine_here : (a : Act QueueCall) → QueueOk (view_in (act_on room ts ws xs t q a).waits (act_on room ts ws xs t q a).records q)
    fine_here refer = k
    fine_here (set_vector v) = via (qview_eq (at_put_keep (λ (x : Queue). x.capacity) no_queue xs q q _ refl) (at_put_keep (λ (x : Queue). x.buffer) no_queue xs q q _ refl) refl refl) k
    fine_here (own c) = cover FineLaw (record {
      send_passes = λ p w e l f. passed f;
      send_stores = λ p w f g. stored w f g;
      send_fails = λ w f g. k;
      send_waits = λ w f g. via (qview_eq refl refl (join_here ws (waiter t sending q w) (place sending q) (alike (place sending q))) (join_elsewhere ws (waiter t sending q w) (place receiving q) refl))
          (queue_up _ _ _ _ k (waiter t sending q w) f (ltb-false _ _ g));
      receives = λ p x b f g. via (refilled b refl refl) (take _ _ _ _ k x b f (nobody g));
      receive_refills = λ p x b e l f g. via (refilled (b ++ (e.word ∷ [])) refl (still g)) (refill _ _ _ _ k x e.word b _ f (some g));
      receive_passes = λ p e l f g. via (qview_eq refl refl refl (still g)) (direct _ _ _ _ k _ (some g));
      receive_fails = λ f g. k;
      receive_waits = λ f g. via (qview_eq refl refl (join_elsewhere ws (waiter t receiving q 0) (place sending q) refl) (join_here ws (waiter t receiving q 0) (place receiving q) (alike (place receiving q))))
          (await _ _ _ _ k (waiter t receiving q 0) f (nobody g));
      force_misused = λ w f. k;
      force_passes = λ w e l n f. passed f;
      force_stores = λ w f g. stored w f g;
      force_drops = λ w z b f g j. via (refilled (b ++ (w ∷ [])) refl refl) (replace _ _ _ _ k z w b j (ltb-false _ _ g));
    }) c
      where
        passed : {e : Waiter} {l : List Waiter} → waiters_in ws (place receiving q) ≡ e ∷ l → QueueOk (view_in (leave e.task ws) xs q)
        passed f = via (qview_eq refl refl (leave_elsewhere ws false ts (place receiving q) d f (place sending q) refl) (leave_here ws false ts (place receiving q) d f)) (pass _ _ _ _ k f)

        -- a sender is released: the receivers stay, and there was one
        still : {e : Waiter} {l : List Waiter} → senders_of ts ws xs q ≡ e ∷ l → waiters_in (leave e.task ws) (place receiving q) ≡ waiters_in ws (place receiving q)
        still g = leave_elsewhere ws (by_priority (queue_in xs q).attribute) ts (place sending q) d g (place receiving q) refl

        some : {e : Waiter} {l : List Waiter} → senders_of ts ws xs q ≡ e ∷ l → waiters_in ws (place sending q) ≡ [] → ⊥
        some g = standing_first (by_priority (queue_in xs q).attribute) ts (waiters_in ws (place sending q)) g

        stored : (w : ℕ) → waiters_in ws (place receiving q) ≡ [] → ltb (length (queue_in xs q).buffer) (queue_in xs q).capacity ≡ true → QueueOk (view_in ws (set_buffer xs q ((queue_in xs q).buffer ++ (w ∷ []))) q)
        stored w f g = via (refilled ((queue_in xs q).buffer ++ (w ∷ [])) refl refl) (store _ _ _ _ k w f (ltb-true _ _ g))

-- ---- the room
pub begins_mine : (t q : ℕ) (c : QueueCall) → All (λ (e : Waiter). is_at tag q e.place ≡ true) (begins t q c)
begins_mine t q (send p w) = (is_at_lem tag q (place sending q) refl refl, tt)
begins_mine t q (receive p) = (is_at_lem tag q (place receiving q) refl refl, tt)
begins_mine t q (forced_send w) = (is_at_lem tag q (place sending q) refl refl, tt)

pub begins_plain : (s : State) (t q : ℕ) → q ≢ 0 → q ≤ length s.queues → (c : QueueCall) → All (λ (e : Waiter). Plain e × Registered s e) (begins t q c)
begins_plain s t q h r (send p w) = (((h, tt), r), tt)
begins_plain s t q h r (receive p) = (((h, refl), r), tt)
begins_plain s t q h r (forced_send w) = (((h, tt), r), tt)

pub serves_no : (q : ℕ) (e : Refusal) (c : QueueCall) → serves q c (error e) ≡ none
serves_no q e (send p w) = refl
serves_no q e (receive p) = refl
serves_no q e (forced_send w) = refl

abbrev pub laws : RoomLaws room
laws = record {
  tag = tag;
  fixed_with = λ s ws xs. refl;
  waits_with = λ s ws xs. refl;
  records_with = λ s ws xs. refl;
  same_with = λ s ws. refl;
  entry = entry;
  bare = bare;
  bare_entry = λ x. refl;
  bare_vector = λ x v. refl;
  vector_entry = λ x. refl;
  vector_set = λ x v. refl;
  order = order;
  order_at = order_at;
  ends = ends;
  begun = begins_mine;
  plain = begins_plain;
  unserved = serves_no;
  told_first = λ ts ws xs q m h. h (by_priority (queue_in xs q).attribute) (place sending q);
  told_second = λ ts ws xs q m h. h false (place receiving q);
}
