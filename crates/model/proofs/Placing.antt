-- What one call does to the sends on a data queue: which enter or pass, leave, are dropped and wait. Assumes nothing.
use mathlib.Core.Path.{◌≡◌, refl, sym, ap, ◌∙◌, subst}
use mathlib.Core.Logic.{◌≢◌}
use mathlib.Core.Bool.{Bool, true, false, cond, not, ◌||◌}
use mathlib.Core.List.{List, [], ◌∷◌, ◌++◌, map, append-nil, head-eq_of_cons-eq, tail-eq_of_cons-eq}
use mathlib.Core.Option.{Option, none, some}
use Prim.Native.Nat.{ℕ, zero, suc, ◌≤◌, ◌<◌}
use native.Mathlib.Omega.{arith}
use lib.Dec.{eqb, ltb}
use lib.ListN.{length, take, drop, length-map}
use borrow.Author.Tests.{ltb-true, ltb-false}
use Rattle.itron.specs.Codes.{Code, ok, waiting, error}
use Rattle.itron.specs.declared.error.Error.{Error as Refusal}
use Rattle.itron.specs.declared.error.Error.TheVariants.{Iluse as e_iluse, Tmout as e_tmout}
use Rattle.model.specs.Lists.{All, at, keep, cons_if}
use Rattle.model.specs.State.{TaskEntry, Queue, Waiter, receiving, sending, place, no_task, no_queue}
use Rattle.model.specs.Answers.{Answer, Effect, say, tells, when_waiting}
use Rattle.model.specs.Waits.{Patience, polling, forever, stands_at, is_other, absent, waiters_in, by_priority, freed}
use Rattle.model.specs.Acts.{Act, own, refer, set_vector}
use Rattle.model.specs.Rooms.{act_on}
use Rattle.model.specs.Queues.{QueueCall, send, receive, forced_send, queue_in, set_buffer, senders_of, does, told, room}
use Rattle.model.specs.ExtendedCalls.{ExtendedCall}
use Rattle.model.specs.History.{Made}
use Rattle.model.specs.Sends.{Sent, sent_as, word_of, unforced, shown, not_shown, waiting_sends, accepts, enters, handed, finds_full, buffered}
use Rattle.model.specs.QueueClaims.{Sender, sender_of, sender_in, NoneBefore, EntersFirst}
use Rattle.model.proofs.Lists.{Distinct, cons_ne, no_both, eq_of, eqb_same, and_left, and_right, at_put_same, at_put_keep, keep_comm, keep_within, keep_whole, all_keep, map_append, map_keep, map_parts, absent_keep, distinct_keep}
use Rattle.model.proofs.Order.{standing_none, standing_line, standing_least, standing_distinct}
use Rattle.model.proofs.Rooms.{ok_same, accepted_same}
use Rattle.model.proofs.Queues.{QueueOk, view_in, cover, empty, unheld}
use Rattle.model.proofs.Sends.{finds_room, finds_full_lem, in_line, Line, in_turn, ahead, first_goes, Moves}

-- ---- lists
nothing_mapped : {A B : Type 0} (f : A → B) (l : List A) → [] ≡ map f l → l ≡ []
nothing_mapped f [] h = refl
nothing_mapped f (x ∷ l) h = absurd (cons_ne refl (sym h))

-- with nobody released all stay
none_shown : (l : List Sent) → keep (not_shown []) l ≡ l
none_shown [] = refl
none_shown (x ∷ l) = ap (λ (m : List Sent). x ∷ m) (none_shown l)

waits_on : (l : List Sent) → keep (not_shown []) l ++ [] ≡ l
waits_on l = append-nil (keep (not_shown []) l) ∙ none_shown l

-- nothing enters before a more urgent one: where nothing but by force enters, and where nobody waits
none_enters : (line : ℕ → ℕ) (m : Made QueueCall) (h : List (Made QueueCall)) → keep unforced (enters m h) ≡ [] → EntersFirst line m h
none_enters line m h e = subst (All (NoneBefore line h)) (sym e) tt

none_waits : (line : ℕ → ℕ) (m : Made QueueCall) (h : List (Made QueueCall)) → waiting_sends h ≡ [] → EntersFirst line m h
none_waits line m h e = each (keep unforced (enters m h))
  where
    each : (l : List Sent) → All (NoneBefore line h) l
    each [] = tt
    each (y ∷ l) = (subst (All _) (sym e) tt, each l)

as_many : (x : List Waiter) (l : List Sent) → map sender_of x ≡ map sender_in l → length x ≡ length l
as_many x l h = sym (length-map x sender_of) ∙ ap length h ∙ length-map l sender_in

-- the first of a wait queue is released: its send is the first of its line among those that waited
module _ (line : ℕ → ℕ) (e : Waiter) (x a : List Waiter) (v : ℕ) (l : List Sent) (then : map sender_of a ≡ map sender_in l) (once : absent e.task x ≡ true) (least : All (λ (y : Waiter). line e.task ≤ line y.task) a)
    (lines : (n : ℕ) → keep (λ (y : Waiter). eqb n (line y.task)) (e ∷ x) ≡ keep (λ (y : Waiter). eqb n (line y.task)) a) where
  -- the line in which it sent
  abbrev its : ℕ
  its = line e.task

  -- the sends of a line, as their senders show them
  in_row : (n : ℕ) → map sender_of (keep (λ (y : Waiter). eqb n (line y.task)) (e ∷ x)) ≡ map sender_in (keep (in_line line n) l)
  in_row n =
      ap (map sender_of) (lines n)
      ∙ map_keep sender_of (λ (y : Sender). eqb n (line y.task)) a
      ∙ ap (keep (λ (y : Sender). eqb n (line y.task))) then
      ∙ sym (map_keep sender_in (λ (y : Sender). eqb n (line y.task)) l)

  -- it heads its own
  own_row : sender_of e ∷ map sender_of (keep (λ (y : Waiter). eqb its (line y.task)) x) ≡ map sender_in (keep (in_line line its) l)
  own_row = ap (λ (b : Bool). map sender_of (cons_if b e (keep (λ (y : Waiter). eqb its (line y.task)) x))) (sym (eqb_same its)) ∙ in_row its

  -- whose task is shown released is in that line
  shown_line : (y : Sent) → shown (freed e v) y ≡ true → in_line line its y ≡ true
  shown_line y h = ap (λ (t : ℕ). eqb its (line t)) (sym (eq_of e.task y.task (by (eqb e.task y.task) h))) ∙ eqb_same its
    where
      by : (b : Bool) → b || false ≡ true → b ≡ true
      by true k = refl
      by false k = k

  -- no other of the task waits
  unshown : (z : List Waiter) (m : List Sent) → map sender_of z ≡ map sender_in m → absent e.task z ≡ true → (keep (not_shown (freed e v)) m ≡ m) × (keep (shown (freed e v)) m ≡ [])
  unshown z [] h k = (refl, refl)
  unshown [] (y ∷ m) h k = absurd (cons_ne refl (sym h))
  unshown (u ∷ z) (y ∷ m) h k =
      let t : u.task ≡ y.task = ap (λ (w : Sender). w.task) (head-eq_of_cons-eq h) in
      let o : not (eqb e.task y.task) ≡ true = ap (λ (n : ℕ). not (eqb e.task n)) (sym t) ∙ and_left (is_other e.task u) (absent e.task z) k in
      go (eqb e.task y.task) refl o (unshown z m (tail-eq_of_cons-eq h) (and_right (is_other e.task u) (absent e.task z) k))
    where
      go : (b : Bool) → eqb e.task y.task ≡ b → not b ≡ true → (keep (not_shown (freed e v)) m ≡ m) × (keep (shown (freed e v)) m ≡ [])
          → (cons_if (not (b || false)) y (keep (not_shown (freed e v)) m) ≡ y ∷ m) × (cons_if (b || false) y (keep (shown (freed e v)) m) ≡ [])
      go true f o r = absurd (no_both o refl)
      go false f o r = (ap (λ (k : List Sent). y ∷ k) r.0, r.1)

  -- what is true of the tasks that wait is true of their sends
  by_tasks : (z : List Waiter) (m : List Sent) → map sender_of z ≡ map sender_in m → All (λ (y : Waiter). its ≤ line y.task) z → All (λ (y : Sent). its ≤ line y.task) m
  by_tasks z [] h k = tt
  by_tasks [] (y ∷ m) h k = absurd (cons_ne refl (sym h))
  by_tasks (u ∷ z) (y ∷ m) h k = (subst (λ (w : Sender). its ≤ line w.task) (head-eq_of_cons-eq h) k.0, by_tasks z m (tail-eq_of_cons-eq h) k.1)

  pub record Freed : Type 0 where
    pub send : Sent
    pub word : send.word ≡ e.word
    pub alone : keep (shown (freed e v)) l ≡ send ∷ []
    pub urgent : All (λ (z : Sent). line send.task ≤ line z.task) l
    pub first : (n : ℕ) → keep (in_line line n) (send ∷ keep (not_shown (freed e v)) l) ≡ keep (in_line line n) l

  pub first_freed : Freed
  first_freed = go (keep (in_line line its) l) refl own_row
    where
      go : (m : List Sent) → keep (in_line line its) l ≡ m → sender_of e ∷ map sender_of (keep (λ (y : Waiter). eqb its (line y.task)) x) ≡ map sender_in m → Freed
      go [] f h = absurd (cons_ne refl h)
      go (s ∷ m) f h = record {
        send = s;
        word = ap (λ (y : Sender). y.word) (sym same);
        alone = sym (keep_within (shown (freed e v)) (in_line line its) shown_line l) ∙ ap (keep (shown (freed e v))) f ∙ rw is_shown (ap (λ (k : List Sent). s ∷ k) rest.1);
        urgent = subst (λ (t : ℕ). All (λ (z : Sent). line t ≤ line z.task) l) (ap (λ (y : Sender). y.task) same) (by_tasks a l then least);
        first = λ n. by n (eqb n its) refl;
      }
        where
          same : sender_of e ≡ sender_in s
          same = head-eq_of_cons-eq h

          is_shown : shown (freed e v) s ≡ true
          is_shown = rw (ap (λ (y : Sender). y.task) same, eqb_same s.task) refl

          rest : (keep (not_shown (freed e v)) m ≡ m) × (keep (shown (freed e v)) m ≡ [])
          rest = unshown (keep (λ (y : Waiter). eqb its (line y.task)) x) m (tail-eq_of_cons-eq h) (absent_keep (λ (y : Waiter). eqb its (line y.task)) e.task x once)

          in_its : in_line line its s ≡ true
          in_its = shown_line s is_shown

          by : (n : ℕ) (b : Bool) → eqb n its ≡ b → keep (in_line line n) (s ∷ keep (not_shown (freed e v)) l) ≡ keep (in_line line n) l
          by n true k = subst (λ (n : ℕ). keep (in_line line n) (s ∷ keep (not_shown (freed e v)) l) ≡ keep (in_line line n) l) (sym (eq_of n its k))
              (rw in_its (ap (λ (z : List Sent). s ∷ z) (keep_comm (in_line line its) (not_shown (freed e v)) l ∙ ap (keep (not_shown (freed e v))) f ∙ rw is_shown rest.0) ∙ sym f))
          by n false k =
              ap (λ (b : Bool). cons_if b s (keep (in_line line n) (keep (not_shown (freed e v)) l))) (ap (eqb n) (sym (eq_of its (line s.task) in_its)) ∙ k)
              ∙ keep_within (in_line line n) (not_shown (freed e v)) (λ y f. stays y (shown (freed e v) y) refl f) l
            where
              stays : (y : Sent) (b : Bool) → shown (freed e v) y ≡ b → in_line line n y ≡ true → not b ≡ true
              stays y true g f = absurd (no_both (ap (eqb n) (eq_of its (line y.task) (shown_line y g)) ∙ f) k)
              stays y false g f = refl

module _ (line : ℕ → ℕ) (c : ℕ) (h : List (Made QueueCall)) (b : List ℕ) (words : b ≡ map word_of (buffered c h)) where
  -- a call that drops nothing
  module _ (m : Made QueueCall) (b' : List ℕ) (z : finds_full c (buffered c h) m ≡ 0) where
    moves : handed m ++ b' ≡ b ++ map word_of (enters m h) → Line line (enters m h) (waiting_sends (m ∷ h)) (waiting_sends h) (accepts m h) → EntersFirst line m h → Moves c line m h b'
    moves f t u = record {
      flow =
          f
          ∙ ap (λ (l : List ℕ). l ++ map word_of (enters m h)) words
          ∙ sym (map_append word_of (buffered c h) (enters m h))
          ∙ ap (λ (n : ℕ). map word_of (drop n (buffered c h) ++ enters m h)) (sym z);
      one = subst (λ (n : ℕ). length (take n (buffered c h)) ≡ n) (sym z) refl;
      turn = t;
      urgent = u;
    }

    -- and lets nothing enter or leave
    pub moves_none : handed m ≡ [] → enters m h ≡ [] → accepts m h ≡ [] → waiting_sends (m ∷ h) ≡ waiting_sends h → b' ≡ b → Moves c line m h b'
    moves_none g e a w s = moves
        (ap (λ (l : List ℕ). l ++ b') g ∙ s ∙ sym (append-nil b) ∙ ap (λ (l : List Sent). b ++ map word_of l) (sym e))
        (in_turn line ((λ i. e i ++ w i) ∙ sym (append-nil (waiting_sends h)) ∙ ap (λ (l : List Sent). waiting_sends h ++ l) (sym a)))
        (none_enters line m h (ap (keep unforced) e))

  -- a call that is refused
  pub refused_moves : (t : ℕ) (a : Option (Act QueueCall)) (x : Option ExtendedCall) (e : Refusal) → Moves c line (record { caller = t; asked = a; extended = x; answer = say (error e) 0 [] }) h b
  refused_moves t a x e = moves_none (record { caller = t; asked = a; extended = x; answer = say (error e) 0 [] }) b refl refl refl refl (waits_on (waiting_sends h)) refl

  -- a call on another object, which leaves this queue's buffer and senders as they were
  pub elsewhere_moves : (t : ℕ) (y : Option ExtendedCall) (a : Answer) (x : List Waiter) (b' : List ℕ) → map sender_of x ≡ map sender_in (waiting_sends h) → map sender_of x ≡ map sender_in (waiting_sends (record { caller = t; asked = none; extended = y; answer = a } ∷ h)) → b' ≡ b
      → Moves c line (record { caller = t; asked = none; extended = y; answer = a }) h b'
  elsewhere_moves t y a x b' then now s = moves_none m b' (accepted_same 0 a.code) (ok_same {A = List ℕ} [] a.code) (ok_same {A = List Sent} [] a.code) (accepted_same {A = List Sent} [] a.code) waits s
    where
      m : Made QueueCall
      m = record { caller = t; asked = none; extended = y; answer = a }

      nobody : (k : Code) → when_waiting {A = List Sent} [] [] k ≡ []
      nobody ok = refl
      nobody waiting = refl
      nobody (error e) = refl

      whole : waiting_sends (m ∷ h) ≡ keep (not_shown a.released) (waiting_sends h)
      whole = ap (λ (l : List Sent). keep (not_shown a.released) (waiting_sends h) ++ l) (nobody a.code) ∙ append-nil (keep (not_shown a.released) (waiting_sends h))

      waits : waiting_sends (m ∷ h) ≡ waiting_sends h
      waits = whole ∙ keep_whole (not_shown a.released) (waiting_sends h) (ap length (sym whole) ∙ sym (as_many x (waiting_sends (m ∷ h)) now) ∙ as_many x (waiting_sends h) then)

  -- a send whose word enters or passes while nobody waits to send
  comes : (m : Made QueueCall) (x : Sent) (b' : List ℕ) → finds_full c (buffered c h) m ≡ 0 → enters m h ≡ x ∷ [] → accepts m h ≡ x ∷ [] → waiting_sends h ≡ [] → waiting_sends (m ∷ h) ≡ [] → handed m ++ b' ≡ b ++ (x.word ∷ [])
      → Moves c line m h b'
  comes m x b' z e a w w' f = moves m b' z (f ∙ ap (λ (l : List Sent). b ++ map word_of l) (sym e)) (in_turn line ((λ i. e i ++ w' i) ∙ sym (λ i. w i ++ a i)))
      (none_waits line m h w)

-- ---- a call on the queue
module _ (ts : List TaskEntry) (ws : List Waiter) (xs : List Queue) (t q : ℕ) (hq : q ≢ 0) (r : q ≤ length xs) (d : Distinct ws) (k : QueueOk (view_in ws xs q)) (h : List (Made QueueCall)) (y : Option ExtendedCall) where
  abbrev c : ℕ
  c = (queue_in xs q).capacity

  abbrev b : List ℕ
  b = (queue_in xs q).buffer

  -- those who wait to send, and the line of each task
  abbrev order : Bool
  order = by_priority (queue_in xs q).attribute

  abbrev line : ℕ → ℕ
  line n = cond order (at no_task ts n).priority 0

  module _ (words : b ≡ map word_of (buffered c h)) (then : map sender_of (waiters_in ws (place sending q)) ≡ map sender_in (waiting_sends h)) where
    abbrev made : Act QueueCall → Answer → Made QueueCall
    made a r = record { caller = t; asked = some a; extended = y; answer = r }

    abbrev PlaceLaw : QueueCall → Effect Queue → Type 0
    PlaceLaw a o = Moves c line (made (own a) o.answer) h (queue_in o.records q).buffer

    refilled : (b' : List ℕ) → (queue_in (set_buffer xs q b') q).buffer ≡ b'
    refilled b' = ap (λ (x : Queue). x.buffer) (at_put_same no_queue xs q (record { domain = (queue_in xs q).domain; attribute = (queue_in xs q).attribute; capacity = c; buffer = b'; vector = (queue_in xs q).vector }) hq r)

    no_sends : waiters_in ws (place sending q) ≡ [] → waiting_sends h ≡ []
    no_sends z = nothing_mapped sender_in (waiting_sends h) (ap (map sender_of) (sym z) ∙ then)

    -- a send of either kind that passes to a receiver, or goes into room
    passes : (x : Sent) {e : Waiter} {l : List Waiter} → waiters_in ws (place receiving q) ≡ e ∷ l → (m : Made QueueCall) → finds_full c (buffered c h) m ≡ 0 → enters m h ≡ x ∷ [] → accepts m h ≡ x ∷ []
        → waiting_sends (m ∷ h) ≡ keep (not_shown m.answer.released) (waiting_sends h) ++ [] → handed m ≡ x.word ∷ [] → Moves c line m h b
    passes x f m z en ac wt hd =
        let y = empty c b (waiters_in ws (place sending q)) (waiters_in ws (place receiving q)) k f in
        let n = no_sends y.1 in
        comes line c h b words m x b z en ac n (wt ∙ ap (λ (l : List Sent). keep (not_shown m.answer.released) l ++ []) n)
        (ap (λ (l : List ℕ). l ++ b) hd ∙ ap (λ (l : List ℕ). (x.word ∷ []) ++ l) y.0 ∙ ap (λ (l : List ℕ). l ++ (x.word ∷ [])) (sym y.0))

    stores : (x : Sent) → ltb (length b) c ≡ true → (m : Made QueueCall) → finds_full c (buffered c h) m ≡ 0 → enters m h ≡ x ∷ [] → accepts m h ≡ x ∷ []
        → waiting_sends (m ∷ h) ≡ keep (not_shown m.answer.released) (waiting_sends h) ++ [] → handed m ≡ [] → Moves c line m h (queue_in (set_buffer xs q (b ++ (x.word ∷ []))) q).buffer
    stores x g m z en ac wt hd =
        let n = no_sends (unheld c b (waiters_in ws (place sending q)) (waiters_in ws (place receiving q)) k (ltb-true (length b) c g)) in
        comes line c h b words m x _ z en ac n (wt ∙ ap (λ (l : List Sent). keep (not_shown m.answer.released) l ++ []) n)
        (ap (λ (l : List ℕ). l ++ (queue_in (set_buffer xs q (b ++ (x.word ∷ []))) q).buffer) hd ∙ refilled (b ++ (x.word ∷ [])))

    -- a receive that hands out v: with nobody released, and with the first sender released, whose word comes last
    takes : (v : ℕ) (b' : List ℕ) → b ≡ v ∷ b' → senders_of ts ws xs q ≡ [] → (m : Made QueueCall) → finds_full c (buffered c h) m ≡ 0 → enters m h ≡ keep (shown m.answer.released) (waiting_sends h) → accepts m h ≡ []
        → waiting_sends (m ∷ h) ≡ keep (not_shown m.answer.released) (waiting_sends h) ++ [] → handed m ≡ v ∷ [] → Moves c line m h (queue_in (set_buffer xs q b') q).buffer
    takes v b' f g m z en ac wt hd =
        let n = no_sends (standing_none order ts (waiters_in ws (place sending q)) g) in
        let e = en ∙ ap (keep (shown m.answer.released)) n in
        moves line c h b words m _ z
        ((λ i. hd i ++ refilled b' i) ∙ sym f ∙ sym (append-nil b) ∙ ap (λ (l : List Sent). b ++ map word_of l) (sym e))
        (in_turn line ((λ i. e i ++ (wt ∙ ap (λ (l : List Sent). keep (not_shown m.answer.released) l ++ []) n) i) ∙ sym (λ i. n i ++ ac i)))
        (none_waits line m h n)

    releases : (v : ℕ) (b' b'' : List ℕ) (e : Waiter) (l : List Waiter) → v ∷ b'' ≡ b ++ (e.word ∷ []) → b' ≡ b'' → senders_of ts ws xs q ≡ e ∷ l → (p : Patience) → Moves c line (made (own (receive p)) (say ok v (freed e 0))) h b'
    releases v b' b'' e l f g u p =
        let a = waiters_in ws (place sending q) in
        let y = first_freed line e l a 0 (waiting_sends h) then (subst Distinct u (standing_distinct order ts a (distinct_keep (stands_at (place sending q)) ws d))).0 (standing_least order ts a u)
        (λ n. ap (keep (λ (y : Waiter). eqb n (line y.task))) (sym u) ∙ standing_line order ts n a) in
        moves line c h b words (made (own (receive p)) (say ok v (freed e 0))) b' refl
        (ap (λ (m : List ℕ). v ∷ m) g ∙ f ∙ ap (λ (n : ℕ). b ++ (n ∷ [])) (sym y.word) ∙ ap (λ (m : List Sent). b ++ map word_of m) (sym y.alone))
        (first_goes line (shown (freed e 0)) y.send (waiting_sends h) y.alone y.first)
        (all_keep (NoneBefore line h) unforced (keep (shown (freed e 0)) (waiting_sends h)) (subst (All (NoneBefore line h)) (sym y.alone) (y.urgent, tt)))

    replaces : (w z : ℕ) (b' : List ℕ) → c ≤ length b → b ≡ z ∷ b' → Moves c line (made (own (forced_send w)) (say ok 0 [])) h (queue_in (set_buffer xs q (b' ++ (w ∷ []))) q).buffer
    replaces w z b' g f =
        let l = buffered c h in
        let p = map_parts word_of (z ∷ []) b' l (sym f ∙ words) in
        let n = finds_full_lem c h b words w g in
        record {
          flow =
              refilled (b' ++ (w ∷ []))
              ∙ ap (λ (m : List ℕ). m ++ (w ∷ [])) p.1
              ∙ sym (map_append word_of (drop 1 l) (sent_as (length h) t w true ∷ []))
              ∙ ap (λ (i : ℕ). map word_of (drop i l ++ (sent_as (length h) t w true ∷ []))) (sym n);
          one = subst (λ (i : ℕ). length (take i l) ≡ i) (sym n) (sym (length-map (take 1 l) word_of) ∙ ap length (sym p.0));
          turn = ahead line refl (waits_on (waiting_sends h)) refl;
          urgent = tt;
        }

    pub own_moves : (a : QueueCall) → PlaceLaw a (does ts ws xs t q a)
    own_moves a = cover ts ws xs t q PlaceLaw (record {
      send_passes = λ p w e l f. passes (sent_as (length h) t w false) f (made (own (send p w)) (say ok 0 (freed e w))) refl refl refl refl refl;
      send_stores = λ p w f g. stores (sent_as (length h) t w false) g (made (own (send p w)) (say ok 0 [])) refl refl refl refl refl;
      send_fails = λ w f g. refused_moves line c h b words t (some (own (send polling w))) y e_tmout;
      send_waits = λ w f g. moves line c h b words (made (own (send forever w)) (say waiting 0 [])) b refl (sym (append-nil b)) (in_turn line (ap (λ (l : List Sent). l ++ (sent_as (length h) t w false ∷ [])) (none_shown (waiting_sends h))))
          tt;
      receives = λ p v b' f g. takes v b' f g (made (own (receive p)) (say ok v [])) refl refl refl refl refl;
      receive_refills = λ p v b' e l f g. releases v _ (b' ++ (e.word ∷ [])) e l (ap (λ (m : List ℕ). m ++ (e.word ∷ [])) (sym f)) (refilled (b' ++ (e.word ∷ []))) g p;
      receive_passes = λ p e l f g. releases e.word b [] e l (ap (λ (m : List ℕ). m ++ (e.word ∷ [])) (sym f)) f g p;
      receive_fails = λ f g. refused_moves line c h b words t (some (own (receive polling))) y e_tmout;
      receive_waits = λ f g. moves_none line c h b words (made (own (receive forever)) (say waiting 0 [])) b refl refl refl refl (waits_on (waiting_sends h)) refl;
      force_misused = λ w f. refused_moves line c h b words t (some (own (forced_send w))) y e_iluse;
      force_passes = λ w e l n f. passes (sent_as (length h) t w true) f (made (own (forced_send w)) (say ok 0 (freed e w))) (finds_room c h b words w (positive n f)) refl refl refl refl;
      force_stores = λ w f g. stores (sent_as (length h) t w true) g (made (own (forced_send w)) (say ok 0 [])) (finds_room c h b words w (ltb-true (length b) c g)) refl refl refl refl;
      force_drops = λ w z b' f g j. replaces w z b' (ltb-false (length b) c g) j;
    }) a
      where
        -- who waits to receive finds nothing, so a queue with a capacity has room
        positive : c ≢ 0 → {e : Waiter} {l : List Waiter} → waiters_in ws (place receiving q) ≡ e ∷ l → length b < c
        positive n f = let y = ap length (empty c b (waiters_in ws (place sending q)) (waiters_in ws (place receiving q)) k f).0 in go c n y
          where
            go : (c : ℕ) → c ≢ 0 → length b ≡ 0 → length b < c
            go zero n y = absurd (n refl)
            go (suc c) n y = omega (arith, y)

    -- a refer and a set-vector move nothing
    pub act_moves : (a : Act QueueCall) → Moves c line (made a (act_on room ts ws xs t q a).answer) h (queue_in (act_on room ts ws xs t q a).records q).buffer
    act_moves (own a) = own_moves a
    act_moves refer = moves_none line c h b words (made refer (tells (told ts ws xs q))) b refl refl refl refl (waits_on (waiting_sends h)) refl
    act_moves (set_vector v) = moves_none line c h b words (made (set_vector v) (say ok 0 [])) _ refl refl refl refl (waits_on (waiting_sends h)) (at_put_keep (λ (x : Queue). x.buffer) no_queue xs q q _ refl)
