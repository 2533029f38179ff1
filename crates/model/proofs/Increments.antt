-- Demand 3 of a list of calls and of one call more, in plain facts: whatever the list, the task, the object, the word. Assumes nothing.
use mathlib.Core.Path.{◌≡◌, refl, sym, ap, ◌∙◌, subst}
use mathlib.Core.Logic.{◌≢◌}
use mathlib.Core.Bool.{Bool, true, false, cond}
use mathlib.Core.List.{List, [], ◌∷◌, ◌++◌, map, append_assoc, append-nil, tail-eq_of_cons-eq}
use mathlib.Core.Option.{Option, none, some}
use Prim.Native.Nat.{ℕ, suc, ◌+◌, ◌≤◌, ◌<◌}
use native.Mathlib.Omega.{arith}
use lib.Dec.{eqb}
use lib.IntN.{ℤ}
use lib.ListN.{length, take}
use Rattle.itron.specs.Codes.{Code, ok, waiting, error}
use Rattle.itron.specs.declared.error.Error.{Error as Refusal}
use Rattle.model.specs.Lists.{keep, any_of, gathered}
use Rattle.model.specs.State.{Vector, on_sem, receiving, sending, Waiter, State, place, queue_at, sem_at, level_at, waiter, no}
use Rattle.model.specs.Answers.{Info, Released, when_ok}
use Rattle.model.specs.Waits.{Patience, waiters_in, waiters_at, leave}
use Rattle.model.specs.Acts.{Act, own, refer, set_vector}
use Rattle.model.specs.Semaphores.{SemaphoreCall, signal, acquire}
use Rattle.model.specs.Queues.{QueueCall, send, receive, forced_send}
use Rattle.model.specs.ExtendedCalls.{ExtendedCall, Enter, Leave}
use Rattle.model.specs.Calls.{Op, on_semaphore, on_queue, on_level, call}
use Rattle.model.specs.History.{Event, History, Made, seen_by, asked_if, joined, without}
use Rattle.model.specs.LevelClaims.{enters_by, leaves_by}
use Rattle.model.specs.SemaphoreClaims as Semaphores
use Rattle.model.specs.Sends.{Sent, word_of, shown, waiting_sends, enters, entered, words_of, handed, full_in, buffered, drops, leaves}
use Rattle.model.specs.QueueClaims as Queues
use Rattle.model.specs.Demand3.{Demand3}
use Rattle.model.proofs.Lists.{eqb_same, eqb_no, append_cancel, map_append, map_keep}
use Rattle.model.proofs.QueueClaims.{senders_pending}
use Rattle.model.proofs.Sends.{buffered_are, finds_room, finds_full_lem, words_of_lem, words_in_lem}

-- ---- no call yet: the queues are empty, the counts are those at the start, nobody waits
module _ {s₀ s : State} (d : Demand3 s₀ [] s) where
  pub first_words : (q : ℕ) → (queue_at s q).buffer ≡ []
  first_words q = (d.queues q).ordered

  pub first_count : (i : ℕ) → (sem_at s i).count ≡ (sem_at s₀ i).count
  first_count i = omega (arith, d.semaphores i)

  pub first_waits : s.waits ≡ []
  first_waits = d.waiters_are

  pub first_level : (t : ℕ) → level_at s t ≡ 0
  first_level t = omega (arith, d.levels t)

-- ---- after the calls h, which left the state s, one call of task t, which left the state s'
module _ (s₀ s s' found : State) (h : History) (t : ℤ) (v : ℕ) (info : Info) where
  abbrev pub did : Op → Code → List Released → Event
  did op k rs = record { before = found; call = call t op; answer = record { code = k; word = v; released = rs; info = info } }

  -- the claim before the call, and with it
  abbrev pub More : Op → Code → List Released → Type 0
  More op k rs = Demand3 s₀ h s × Demand3 s₀ (did op k rs ∷ h) s'

  -- ---- the words of a queue: those of its buffer, before the call and after it
  abbrev seen_q : Option (Act QueueCall) → Code → List Released → Made QueueCall
  seen_q o k rs = record { caller = no t; asked = o; extended = none; answer = (did (on_queue t refer) k rs).answer }

  module _ (q : ℕ) where
    abbrev seen : List (Made QueueCall)
    seen = Queues.by_queue q h

    -- the capacity that the table gave it
    abbrev pub room : ℕ
    room = (queue_at s₀ q).capacity

    abbrev before : List ℕ
    before = (queue_at s q).buffer

    abbrev after : List ℕ
    after = (queue_at s' q).buffer

    abbrev Moved : Made QueueCall → Type 0
    Moved y = map word_of (drops room y seen) ++ (handed y ++ after) ≡ before ++ map word_of (enters y seen)

    moved : (op : Op) (k : Code) (rs : List Released) → More op k rs → (o : Option (Act QueueCall)) → Queues.asked_of q op ≡ o → Moved (seen_q o k rs)
    moved op k rs m o e = subst (λ (x : Option (Act QueueCall)). Moved (seen_q x k rs)) e (append_cancel left (
        ap (λ (l : List ℕ). left ++ l) (sym (append_assoc (map word_of (drops room y seen)) (handed y) after))
        ∙ sym (append_assoc left (leaves room y seen) after)
        ∙ (m.1.queues q).ordered
        ∙ map_append word_of (entered seen) (enters y seen)
        ∙ ap (λ (l : List ℕ). l ++ map word_of (enters y seen)) (sym (m.0.queues q).ordered)
        ∙ append_assoc left before (map word_of (enters y seen))
        ))
      where
        y : Made QueueCall
        y = seen_q (Queues.asked_of q op) k rs

        left : List ℕ
        left = gathered (leaves room) seen

    unmoved : (k : Code) (rs : List Released) (op : Op) → More op k rs → (o : Option (Act QueueCall)) → Queues.asked_of q op ≡ o
        → handed (seen_q o ok rs) ≡ [] → enters (seen_q o ok rs) seen ≡ [] → drops room (seen_q o ok rs) seen ≡ [] → after ≡ before
    unmoved k rs op m o e f g d = go k (moved op k rs m o e)
      where
        go : (c : Code) → Moved (seen_q o c rs) → after ≡ before
        go ok z = sym (λ i. map word_of (d i) ++ (f i ++ after)) ∙ z ∙ ap (λ (l : List Sent). before ++ map word_of l) g ∙ append-nil before
        go waiting z = sym (λ i. map word_of (d i) ++ after) ∙ z ∙ append-nil before
        go (error x) z = z ∙ append-nil before

    -- a refused call, whatever it is
    pub refused_words : (op : Op) (e : Refusal) (rs : List Released) → More op (error e) rs → (queue_at s' q).buffer ≡ (queue_at s q).buffer
    refused_words op e rs m = moved op (error e) rs m _ refl ∙ append-nil before

  module _ (n : ℤ) where
    mine : (a : Act QueueCall) → Queues.asked_of (no n) (on_queue n a) ≡ some a
    mine a = ap (λ b. asked_if b a) (eqb_same (no n))

    -- a send that is done with nobody released: its word comes last; one that waits: no word moves
    pub word_stays : (p : Patience) (w : ℕ) → More (on_queue n (own (send p w))) ok [] → (queue_at s' (no n)).buffer ≡ (queue_at s (no n)).buffer ++ (w ∷ [])
    word_stays p w m = moved (no n) _ ok [] m _ (mine (own (send p w)))

    pub word_waits : (p : Patience) (w : ℕ) (rs : List Released) → More (on_queue n (own (send p w))) waiting rs → (queue_at s' (no n)).buffer ≡ (queue_at s (no n)).buffer
    word_waits p w rs m = moved (no n) _ waiting rs m _ (mine (own (send p w))) ∙ append-nil (queue_at s (no n)).buffer

    -- a send that releases a receiver: what this one is shown with goes out at the front
    pub word_passes : (p : Patience) (w : ℕ) (r : Released) → More (on_queue n (own (send p w))) ok (r ∷ []) → r.word ∷ (queue_at s' (no n)).buffer ≡ (queue_at s (no n)).buffer ++ (w ∷ [])
    word_passes p w r m = moved (no n) _ ok (r ∷ []) m _ (mine (own (send p w)))

    -- a receive that is done: its word goes out at the front; of a sender that it releases the word comes last
    freed_words : (rs : List Released) → Demand3 s₀ h s → map word_of (keep (shown rs) (waiting_sends (seen (no n)))) ≡ Queues.words_in (keep (λ (e : Waiter). any_of (λ (r : Released). eqb r.task e.task) rs) (waiters_at s (place sending (no n))))
    freed_words rs d =
        let is : Queues.Sender → Bool = λ x. any_of (λ (r : Released). eqb r.task x.task) rs in
        words_in_lem (keep (shown rs) (waiting_sends (seen (no n))))
        ∙ ap (map (λ (x : Queues.Sender). x.word)) (map_keep Queues.sender_in is (waiting_sends (seen (no n))) ∙ ap (keep is) (sym (came d)) ∙ sym (map_keep Queues.sender_of is (waiters_at s (place sending (no n)))))
        ∙ sym (words_of_lem (keep (λ (e : Waiter). is (Queues.sender_of e)) (waiters_at s (place sending (no n)))))
      where
        came : Demand3 s₀ h s → map Queues.sender_of (waiters_at s (place sending (no n))) ≡ map Queues.sender_in (waiting_sends (seen (no n)))
        came d = ap (λ (ws : List Waiter). map Queues.sender_of (waiters_in ws (place sending (no n)))) d.waiters_are ∙ senders_pending (no n) h

    pub word_taken : (p : Patience) (rs : List Released) → More (on_queue n (own (receive p))) ok rs
        → v ∷ (queue_at s' (no n)).buffer ≡ (queue_at s (no n)).buffer ++ Queues.words_in (keep (λ (e : Waiter). any_of (λ (r : Released). eqb r.task e.task) rs) (waiters_at s (place sending (no n))))
    word_taken p rs m = moved (no n) _ ok rs m _ (mine (own (receive p))) ∙ ap (λ (l : List ℕ). (queue_at s (no n)).buffer ++ l) (freed_words rs m.0)

    -- a forced send that is done: with room its word comes last; into a full buffer it drops the oldest, which there is
    buffered_is : Demand3 s₀ h s → (queue_at s (no n)).buffer ≡ map word_of (buffered (room (no n)) (seen (no n)))
    buffered_is d = buffered_are (room (no n)) (seen (no n)) (queue_at s (no n)).buffer (d.queues (no n)).handed_are (d.queues (no n)).ordered

    with_room : (w : ℕ) (rs : List Released) → length (queue_at s (no n)).buffer < (queue_at s₀ (no n)).capacity → More (on_queue n (own (forced_send w))) ok rs
        → words_of rs ++ (queue_at s' (no n)).buffer ≡ (queue_at s (no n)).buffer ++ (w ∷ [])
    with_room w rs g m =
        ap (λ (i : ℕ). map word_of (take i (buffered (room (no n)) (seen (no n)))) ++ (words_of rs ++ (queue_at s' (no n)).buffer)) (sym (finds_room (room (no n)) (seen (no n)) (queue_at s (no n)).buffer (buffered_is m.0) w g))
        ∙ moved (no n) _ ok rs m _ (mine (own (forced_send w)))

    pub force_stays : (w : ℕ) → length (queue_at s (no n)).buffer < (queue_at s₀ (no n)).capacity → More (on_queue n (own (forced_send w))) ok [] → (queue_at s' (no n)).buffer ≡ (queue_at s (no n)).buffer ++ (w ∷ [])
    force_stays w g m = with_room w [] g m

    pub force_passes_lem : (w : ℕ) (r : Released) → length (queue_at s (no n)).buffer < (queue_at s₀ (no n)).capacity → More (on_queue n (own (forced_send w))) ok (r ∷ [])
        → r.word ∷ (queue_at s' (no n)).buffer ≡ (queue_at s (no n)).buffer ++ (w ∷ [])
    force_passes_lem w r g m = with_room w (r ∷ []) g m

    pub force_drops_lem : (w : ℕ) (rs : List Released) → (queue_at s₀ (no n)).capacity ≤ length (queue_at s (no n)).buffer → More (on_queue n (own (forced_send w))) ok rs
        → (z : ℕ) × ((l : List ℕ) × (((queue_at s (no n)).buffer ≡ z ∷ l) × (words_of rs ++ (queue_at s' (no n)).buffer ≡ l ++ (w ∷ []))))
    force_drops_lem w rs g m = one (buffered c (seen (no n))) is_oldest (buffered_is m.0)
        (ap (λ (i : ℕ). map word_of (take i (buffered c (seen (no n)))) ++ (words_of rs ++ (queue_at s' (no n)).buffer)) (sym full) ∙ moved (no n) _ ok rs m _ (mine (own (forced_send w))))
      where
        c : ℕ
        c = room (no n)

        full : full_in c (buffered c (seen (no n))) (forced_send w) ≡ 1
        full = finds_full_lem c (seen (no n)) (queue_at s (no n)).buffer (buffered_is m.0) w g

        is_oldest : length (take 1 (buffered c (seen (no n)))) ≡ 1
        is_oldest = subst (λ (i : ℕ). length (take i (buffered c (seen (no n)))) ≡ i) full
            (subst (λ (o : Option (Act QueueCall)). Queues.DropsOne c (seen_q o ok rs) (seen (no n))) (mine (own (forced_send w))) (m.1.queues (no n)).one_each.0)

        one : (l : List Sent) → length (take 1 l) ≡ 1 → (queue_at s (no n)).buffer ≡ map word_of l → map word_of (take 1 l) ++ (words_of rs ++ (queue_at s' (no n)).buffer) ≡ (queue_at s (no n)).buffer ++ (w ∷ [])
            → (z : ℕ) × ((k : List ℕ) × (((queue_at s (no n)).buffer ≡ z ∷ k) × (words_of rs ++ (queue_at s' (no n)).buffer ≡ k ++ (w ∷ []))))
        one [] i f j = absurd (omega (arith, i))
        one (x ∷ l) i f j = (x.word, (map word_of l, (f, tail-eq_of_cons-eq (j ∙ ap (λ (k : List ℕ). k ++ (w ∷ [])) f))))

    -- a receive that waits, a refer, a set-vector: no word moves
    pub receive_waits_lem : (p : Patience) (rs : List Released) → More (on_queue n (own (receive p))) waiting rs → (queue_at s' (no n)).buffer ≡ (queue_at s (no n)).buffer
    receive_waits_lem p rs m = moved (no n) _ waiting rs m _ (mine (own (receive p))) ∙ append-nil (queue_at s (no n)).buffer

    pub refer_moves_none : (k : Code) (rs : List Released) → More (on_queue n refer) k rs → (queue_at s' (no n)).buffer ≡ (queue_at s (no n)).buffer
    refer_moves_none k rs m = unmoved (no n) k rs _ m _ (mine refer) refl refl refl

    pub set_moves_none : (x : Vector) (k : Code) (rs : List Released) → More (on_queue n (set_vector x)) k rs → (queue_at s' (no n)).buffer ≡ (queue_at s (no n)).buffer
    set_moves_none x k rs m = unmoved (no n) k rs _ m _ (mine (set_vector x)) refl refl refl

    -- a call on another queue, or on a semaphore
    pub another_queue : (a : Act QueueCall) (k : Code) (rs : List Released) → More (on_queue n a) k rs → (q : ℕ) → q ≢ no n → (queue_at s' q).buffer ≡ (queue_at s q).buffer
    another_queue a k rs m q z = unmoved q k rs _ m none (ap (λ b. asked_if b a) (eqb_no q (no n) z)) refl refl refl

    pub no_queue_lem : (a : Act SemaphoreCall) (k : Code) (rs : List Released) → More (on_semaphore n a) k rs → (q : ℕ) → (queue_at s' q).buffer ≡ (queue_at s q).buffer
    no_queue_lem a k rs m q = unmoved q k rs _ m none refl refl refl refl

  -- ---- the count of a semaphore
  abbrev seen_s : Option (Act SemaphoreCall) → Code → List Released → Made SemaphoreCall
  seen_s o k rs = record { caller = no t; asked = o; extended = none; answer = (did (on_queue t refer) k rs).answer }

  counts : (op : Op) (k : Code) (rs : List Released) → More op k rs → (i : ℕ) (o : Option (Act SemaphoreCall)) → Semaphores.asked_of i op ≡ o
      → (sem_at s' i).count + Semaphores.grants (seen_s o k rs) ≡ (sem_at s i).count + Semaphores.signals (seen_s o k rs)
  counts op k rs m i o e = subst (λ (x : Option (Act SemaphoreCall)). (sem_at s' i).count + Semaphores.grants (seen_s x k rs) ≡ (sem_at s i).count + Semaphores.signals (seen_s x k rs)) e
      (omega (arith, m.0.semaphores i, m.1.semaphores i))

  uncounted : (k : Code) (rs : List Released) (op : Op) → More op k rs → (i : ℕ) (o : Option (Act SemaphoreCall)) → Semaphores.asked_of i op ≡ o
      → Semaphores.grants (seen_s o ok rs) ≡ 0 → Semaphores.signals (seen_s o ok rs) ≡ 0 → (sem_at s' i).count ≡ (sem_at s i).count
  uncounted k rs op m i o e f g = go k (counts op k rs m i o e)
    where
      go : (c : Code) → (sem_at s' i).count + Semaphores.grants (seen_s o c rs) ≡ (sem_at s i).count + Semaphores.signals (seen_s o c rs) → (sem_at s' i).count ≡ (sem_at s i).count
      go ok z = omega (arith, z, f, g)
      go waiting z = omega (arith, z)
      go (error x) z = omega (arith, z)

  module _ (n : ℤ) where
    own_one : (a : Act SemaphoreCall) → Semaphores.asked_of (no n) (on_semaphore n a) ≡ some a
    own_one a = ap (λ b. asked_if b a) (eqb_same (no n))

    -- a signal that releases nobody raises it by 1, one that releases a task does not; a poll or wait that is done lowers it by 1
    pub signal_raises : More (on_semaphore n (own signal)) ok [] → (sem_at s' (no n)).count ≡ suc (sem_at s (no n)).count
    signal_raises m = omega (arith, counts _ ok [] m (no n) _ (own_one (own signal)))

    pub signal_releases : (r : Released) → More (on_semaphore n (own signal)) ok (r ∷ []) → (sem_at s' (no n)).count ≡ (sem_at s (no n)).count
    signal_releases r m = omega (arith, counts _ ok (r ∷ []) m (no n) _ (own_one (own signal)))

    pub acquire_lowers : (p : Patience) (rs : List Released) → More (on_semaphore n (own (acquire p))) ok rs → suc (sem_at s' (no n)).count ≡ (sem_at s (no n)).count
    acquire_lowers p rs m = omega (arith, counts _ ok rs m (no n) _ (own_one (own (acquire p))))

    pub acquire_waits_lem : (p : Patience) (rs : List Released) → More (on_semaphore n (own (acquire p))) waiting rs → (sem_at s' (no n)).count ≡ (sem_at s (no n)).count
    acquire_waits_lem p rs m = omega (arith, counts _ waiting rs m (no n) _ (own_one (own (acquire p))))

    -- a refer or a set-vector of it, a call on another semaphore, or on a queue
    pub refer_counts_none : (k : Code) (rs : List Released) → More (on_semaphore n refer) k rs → (sem_at s' (no n)).count ≡ (sem_at s (no n)).count
    refer_counts_none k rs m = uncounted k rs _ m (no n) _ (own_one refer) refl refl

    pub set_counts_none : (x : Vector) (k : Code) (rs : List Released) → More (on_semaphore n (set_vector x)) k rs → (sem_at s' (no n)).count ≡ (sem_at s (no n)).count
    set_counts_none x k rs m = uncounted k rs _ m (no n) _ (own_one (set_vector x)) refl refl

    pub another_semaphore : (a : Act SemaphoreCall) (k : Code) (rs : List Released) → More (on_semaphore n a) k rs → (i : ℕ) → i ≢ no n → (sem_at s' i).count ≡ (sem_at s i).count
    another_semaphore a k rs m i z = uncounted k rs _ m i none (ap (λ b. asked_if b a) (eqb_no i (no n) z)) refl refl

    pub no_semaphore : (a : Act QueueCall) (k : Code) (rs : List Released) → More (on_queue n a) k rs → (i : ℕ) → (sem_at s' i).count ≡ (sem_at s i).count
    no_semaphore a k rs m i = uncounted k rs _ m i none refl refl refl

  pub refused_count : (op : Op) (e : Refusal) (rs : List Released) → More op (error e) rs → (i : ℕ) → (sem_at s' i).count ≡ (sem_at s i).count
  refused_count op e rs m i = omega (arith, counts op (error e) rs m i _ refl)

  -- ---- the level of a task
  levels_move : (op : Op) (k : Code) (rs : List Released) → More op k rs → (u : ℕ) → level_at s' u + leaves_by u (seen_by {C = ⊥} (λ (x : Op). none) (did op k rs)) ≡ level_at s u + enters_by u (seen_by {C = ⊥} (λ (x : Op). none) (did op k rs))
  levels_move op k rs m u = omega (arith, m.0.levels u, m.1.levels u)

  -- an enter that is done raises the caller's by 1, a leave lowers it by 1
  pub enter_raises : (rs : List Released) → More (on_level Enter) ok rs → level_at s' (no t) ≡ suc (level_at s (no t))
  enter_raises rs m = go (eqb (no t) (no t)) (eqb_same (no t)) (levels_move _ ok rs m (no t))
    where
      go : (b : Bool) → b ≡ true → level_at s' (no t) + cond b 0 0 ≡ level_at s (no t) + cond b 1 0 → level_at s' (no t) ≡ suc (level_at s (no t))
      go true e z = omega (arith, z)
      go false e z = cc

  pub leave_lowers : (rs : List Released) → More (on_level Leave) ok rs → suc (level_at s' (no t)) ≡ level_at s (no t)
  leave_lowers rs m = go (eqb (no t) (no t)) (eqb_same (no t)) (levels_move _ ok rs m (no t))
    where
      go : (b : Bool) → b ≡ true → level_at s' (no t) + cond b 1 0 ≡ level_at s (no t) + cond b 0 0 → suc (level_at s' (no t)) ≡ level_at s (no t)
      go true e z = omega (arith, z)
      go false e z = cc

  -- nobody else's changes, by a refused call nobody's, and by a call on an object nobody's
  pub another_level : (op : Op) (k : Code) (rs : List Released) → More op k rs → (u : ℕ) → u ≢ no t → level_at s' u ≡ level_at s u
  another_level op k rs m u z = go (eqb u (no t)) (eqb_no u (no t) z) _ _ (levels_move op k rs m u)
    where
      go : (b : Bool) → b ≡ false → (x y : ℕ) → level_at s' u + cond b x 0 ≡ level_at s u + cond b y 0 → level_at s' u ≡ level_at s u
      go true e x y q = cc
      go false e x y q = omega (arith, q)

  unleveled : (x : ℕ) (b : Bool) (k : Code) → level_at s' x + cond b (when_ok 0 0 k) 0 ≡ level_at s x + cond b (when_ok 0 0 k) 0 → level_at s' x ≡ level_at s x
  unleveled x b k q = omega (arith, q)

  pub refused_level : (op : Op) (e : Refusal) (rs : List Released) → More op (error e) rs → (u : ℕ) → level_at s' u ≡ level_at s u
  refused_level op e rs m u = unleveled u (eqb u (no t)) (error e) (levels_move op (error e) rs m u)

  pub waiting_level : (op : Op) (rs : List Released) → More op waiting rs → (u : ℕ) → level_at s' u ≡ level_at s u
  waiting_level op rs m u = unleveled u (eqb u (no t)) waiting (levels_move op waiting rs m u)

  pub semaphore_level : (n : ℤ) (a : Act SemaphoreCall) (k : Code) (rs : List Released) → More (on_semaphore n a) k rs → (u : ℕ) → level_at s' u ≡ level_at s u
  semaphore_level n a k rs m u = unleveled u (eqb u (no t)) k (levels_move _ k rs m u)

  pub queue_level : (n : ℤ) (a : Act QueueCall) (k : Code) (rs : List Released) → More (on_queue n a) k rs → (u : ℕ) → level_at s' u ≡ level_at s u
  queue_level n a k rs m u = unleveled u (eqb u (no t)) k (levels_move _ k rs m u)

  -- entering and leaving moves no word and no count
  pub level_words : (x : ExtendedCall) (k : Code) (rs : List Released) → More (on_level x) k rs → (q : ℕ) → (queue_at s' q).buffer ≡ (queue_at s q).buffer
  level_words x k rs m q = unmoved q k rs _ m none refl refl refl refl

  pub level_count : (x : ExtendedCall) (k : Code) (rs : List Released) → More (on_level x) k rs → (i : ℕ) → (sem_at s' i).count ≡ (sem_at s i).count
  level_count x k rs m i = uncounted k rs _ m i none refl refl refl

  -- ---- who waits
  stand : (op : Op) (k : Code) (rs : List Released) → More op k rs → s'.waits ≡ without rs s.waits ++ joined (did op k rs)
  stand op k rs m = m.1.waiters_are ∙ ap (λ (l : List Waiter). without rs l ++ joined (did op k rs)) (sym m.0.waiters_are)

  -- a call that answers "waiting" puts its task last, with the place and the word of that call; any other puts nobody there
  pub sender_joins : (n : ℤ) (p : Patience) (w : ℕ) (rs : List Released) → More (on_queue n (own (send p w))) waiting rs → s'.waits ≡ without rs s.waits ++ (waiter (no t) sending (no n) w ∷ [])
  sender_joins n p w rs m = stand _ waiting rs m

  pub receiver_joins : (n : ℤ) (p : Patience) → More (on_queue n (own (receive p))) waiting [] → s'.waits ≡ s.waits ++ (waiter (no t) receiving (no n) 0 ∷ [])
  receiver_joins n p m = stand _ waiting [] m

  pub acquirer_joins : (n : ℤ) (p : Patience) → More (on_semaphore n (own (acquire p))) waiting [] → s'.waits ≡ s.waits ++ (waiter (no t) on_sem (no n) 0 ∷ [])
  acquirer_joins n p m = stand _ waiting [] m

  pub nobody_joins : (op : Op) → More op ok [] → s'.waits ≡ s.waits
  nobody_joins op m = stand op ok [] m ∙ append-nil s.waits

  pub refused_waits : (op : Op) (e : Refusal) → More op (error e) [] → s'.waits ≡ s.waits
  refused_waits op e m = stand op (error e) [] m ∙ append-nil s.waits

  -- a released task leaves, and nobody else does
  pub released_leaves : (op : Op) (r : Released) → More op ok (r ∷ []) → s'.waits ≡ leave r.task s.waits
  released_leaves op r m = stand op ok (r ∷ []) m ∙ append-nil (leave r.task s.waits)
