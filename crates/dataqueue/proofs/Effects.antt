-- What the calls on a data queue do, by what they find. Assumes nothing.
use Prim.Native.Nat.{ℕ, suc, ◌<◌, ◌≤◌}
use native.Mathlib.Omega.{arith}
use mathlib.Core.Path.{◌≡◌, refl, sym, ap, ◌∙◌}
use mathlib.Core.Bool.{Bool, true, false}
use mathlib.Core.List.{List, [], ◌∷◌, ◌++◌}
use mathlib.Core.Logic.{◌≢◌}
use lib.Dec.{eqb}
use lib.ListN.{length, get_or, drop}
use borrow.Author.Tests.{ne_eqb, lt-ltb, le-ltb}
use Rattle.itron.specs.Codes.{number_of}
use Rattle.itron.specs.declared.error.Error.TheVariants.{Iluse as e_iluse}
use Rattle.model.specs.State as Model
use Rattle.model.specs.State.{TaskEntry, Waiter, Place, place}
use Rattle.model.specs.Waits.{waiters_in, standing, by_priority, or_waits}
use Rattle.model.specs.Queues.{queue_in, set_buffer, has_room, senders_of, send_by, on_send, receive_by, on_receive, force_by, on_force}
use Rattle.model.specs.declared.Info.{Info}
use Rattle.model.specs.declared.Reply.{Reply}
use Rattle.model.specs.declared.Patience.{Patience}
use Rattle.model.specs.declared.Side.TheVariants.{Receiving as receiving, Sending as sending}
use Rattle.std.specs.Prelude.{Option, Some, None}
use Rattle.tasks.specs.declared.state.Tasks.{Tasks}
use Rattle.tasks.specs.declared.task.Wait.TheVariants.{Receiving}
use Rattle.tasks.specs.declared.wait.Ended.{Ended}
use Rattle.tasks.specs.declared.wait.First.{First}
use Rattle.tasks.specs.View.{entries_of, waits_of, waiter_of}
use Rattle.tasks.specs.Held as TasksHeld
use Rattle.tasks.specs.Ends.{first_of, woken_of, ended_of}
use Rattle.tasks.proofs.Firsts.{waits, no_first}
use Rattle.tasks.proofs.Rooms.{gives_by, refuses_by, wakes_by, waits_by}
use Rattle.dataqueue.specs.declared.state.Queue.{Queue}
use Rattle.dataqueue.specs.declared.state.Queues.{Queues}
use Rattle.tasks.specs.declared.effect.Effect.{Effect}
use Rattle.tasks.specs.Effects.{refused_with, done_with, ended_with}
use Rattle.dataqueue.specs.View.{queues_of}
use Rattle.dataqueue.specs.Form.{queues_as}
use Rattle.dataqueue.specs.Held.{Held}
use Rattle.dataqueue.proofs.Links.{record_in, record_part, record_seen, room_seen, some_seen, oldest_seen}
use Rattle.dataqueue.specs.Effects.{effect_as}

abbrev pub effect : Reply → Info → Tasks → Queues → Effect Queues
effect r i t q = record { reply = r; info = i; tasks = t; records = q }

empty : (b : List ℕ) → length b ≡ 0 → b ≡ []
empty [] e = refl
empty (x ∷ b) e = absurd (omega arith)

split : (b : List ℕ) → length b ≢ 0 → b ≡ get_or b 0 0 ∷ drop 1 b
split [] e = absurd (e refl)
split (x ∷ b) e = refl

-- who is first is a task
pub first_low : {t : Tasks} → TasksHeld.Held t → (b : Bool) (p : Place) {r : Option First} {x : First} → r ≡ first_of (standing b (entries_of t) (waiters_in (waits_of t) p)) → r ≡ Some x → x.task < length (entries_of t)
first_low h b p {r} {x} e f = (waits h b p x.task x.word (sym e ∙ f)).low

pub arrived_low : {t : Tasks} → TasksHeld.Held t → (p : Place) {r : Option First} {x : First} → r ≡ first_of (waiters_in (waits_of t) p) → r ≡ Some x → x.task < length (entries_of t)
arrived_low h p e f = first_low h false p e f

module _ {t : Tasks} {s : Queues} (ht : TasksHeld.Held t) (h : Held s) (k : ℕ) (low : k < length (queues_of s)) where
  abbrev es : List TaskEntry
  es = entries_of t

  abbrev ws : List Waiter
  ws = waits_of t

  abbrev xs : List Model.Queue
  xs = queues_of s

  abbrev buffer : List ℕ
  buffer = (queue_in xs (suc k)).buffer

  -- what the record shows of the queue
  abbrev row : Queue
  row = record_in s k

  len_seen : row.len ≡ length buffer
  len_seen = ap (λ (r : Queue). r.len) (record_seen h k low)

  capacity_seen : row.capacity ≡ (queue_in xs (suc k)).capacity
  capacity_seen = ap (λ (r : Queue). r.capacity) (record_seen h k low)

  roomy : row.len < row.capacity → has_room (queue_in xs (suc k)) ≡ true
  roomy r = lt-ltb (length buffer) (queue_in xs (suc k)).capacity (omega (arith, r, len_seen, capacity_seen))

  full : row.capacity ≤ row.len → has_room (queue_in xs (suc k)) ≡ false
  full r = le-ltb (length buffer) (queue_in xs (suc k)).capacity (omega (arith, r, len_seen, capacity_seen))

  module _ (w : ℕ) where
    pub force_misused_lem : row.capacity ≡ 0 → refused_with t s (number_of e_iluse) ≡ effect_as es (on_force ws xs (suc k) w)
    force_misused_lem c =
        refuses_by queues_as effect ht h.form e_iluse
        ∙ ap (λ (n : ℕ). effect_as es (force_by ws xs (suc k) w (eqb n 0) (waiters_in ws (place receiving (suc k))) (has_room (queue_in xs (suc k))))) (sym c ∙ capacity_seen)

    module _ (c : row.capacity ≢ 0) where
      forces : (l : List Waiter) (b : Bool) → waiters_in ws (place receiving (suc k)) ≡ l → has_room (queue_in xs (suc k)) ≡ b → effect_as es (force_by ws xs (suc k) w false l b) ≡ effect_as es (on_force ws xs (suc k) w)
      forces l b n f = let z = ne_eqb (queue_in xs (suc k)).capacity 0 (λ e. c (capacity_seen ∙ e)) in λ i. effect_as es (force_by ws xs (suc k) w (sym z i) (sym n i) (sym f i))

      pub force_wakes : {x : First} → first_of (waiters_in ws (place receiving (suc k))) ≡ Some x → (e : Ended) → e ≡ woken_of es ws x.task 0 w → ended_with e s ≡ effect_as es (on_force ws xs (suc k) w)
      force_wakes {x} f e q = let y = waits ht false (place receiving (suc k)) x.task x.word f in wakes_by queues_as effect ht h.form y 0 w e q ∙ forces (y.entry ∷ y.rest) (has_room (queue_in xs (suc k))) y.list refl

      module _ (n : first_of (waiters_in ws (place receiving (suc k))) ≡ None) where
        pub force_stores_lem : row.len < row.capacity → (q : Queues) → q ≡ queues_as (set_buffer xs (suc k) (buffer ++ (w ∷ []))) → done_with t q 0 ≡ effect_as es (on_force ws xs (suc k) w)
        force_stores_lem r q e = gives_by queues_as effect ht e 0 ∙ forces [] true (no_first _ n) (roomy r)

        pub force_drops_lem : row.capacity ≤ row.len → (q : Queues) → q ≡ queues_as (set_buffer xs (suc k) (drop 1 buffer ++ (w ∷ []))) → done_with t q 0 ≡ effect_as es (on_force ws xs (suc k) w)
        force_drops_lem r q e = gives_by queues_as effect ht e 0 ∙ forces [] false (no_first _ n) (full r)

  module _ (task : ℕ) (p : Patience) where
    pub send_wakes : (w : ℕ) {x : First} → first_of (waiters_in ws (place receiving (suc k))) ≡ Some x → (e : Ended) → e ≡ woken_of es ws x.task 0 w → ended_with e s ≡ effect_as es (on_send ws xs (suc task) (suc k) w p)
    send_wakes w {x} f e q =
        let y = waits ht false (place receiving (suc k)) x.task x.word f in
        wakes_by queues_as effect ht h.form y 0 w e q
        ∙ ap (λ (l : List Waiter). effect_as es (send_by ws xs (suc task) (suc k) w p l (has_room (queue_in xs (suc k))))) (sym y.list)

    module _ {o : Bool} (u : o ≡ by_priority row.attribute) where
      receives_by : (b : List ℕ) (l : List Waiter) → buffer ≡ b → standing o es (waiters_in ws (place sending (suc k))) ≡ l → effect_as es (receive_by ws xs (suc task) (suc k) p b l) ≡ effect_as es (on_receive es ws xs (suc task) (suc k) p)
      receives_by b l f g =
          let v : o ≡ by_priority (queue_in xs (suc k)).attribute = u ∙ ap (λ (r : Queue). by_priority r.attribute) (record_seen h k low) in
          let m : senders_of es ws xs (suc k) ≡ l = ap (λ (b : Bool). standing b es (waiters_in ws (place sending (suc k)))) (sym v) ∙ g in
          λ i. effect_as es (receive_by ws xs (suc task) (suc k) p (sym f i) (sym m i))

      module _ (z : row.len ≡ 0) where
        none : buffer ≡ []
        none = empty buffer (sym len_seen ∙ z)

        pub receive_passes_lem : {x : First} → first_of (standing o es (waiters_in ws (place sending (suc k)))) ≡ Some x → (e : Ended) → e ≡ woken_of es ws x.task x.word 0 → ended_with e s ≡ effect_as es (on_receive es ws xs (suc task) (suc k) p)
        receive_passes_lem {x} f e q =
            let y = waits ht o (place sending (suc k)) x.task x.word f in
            wakes_by queues_as effect ht h.form y y.entry.word 0 e (q ∙ ap (λ (n : ℕ). woken_of es ws x.task n 0) (sym y.word))
            ∙ receives_by [] (y.entry ∷ y.rest) none y.list

        pub receive_waits_lem : first_of (standing o es (waiters_in ws (place sending (suc k)))) ≡ None → (e : Ended) → e ≡ ended_of es (or_waits {R = ℕ} ws [] p (waiter_of (suc task) (Receiving k))) → ended_with e s ≡ effect_as es (on_receive es ws xs (suc task) (suc k) p)
        receive_waits_lem n e q = waits_by queues_as effect ht h.form p (waiter_of (suc task) (Receiving k)) e q ∙ receives_by [] [] none (no_first _ n)

      module _ (z : row.len ≢ 0) where
        abbrev v : ℕ
        v = get_or s.words row.first 0

        oldest : buffer ≡ v ∷ drop 1 buffer
        oldest = split buffer (λ e. z (len_seen ∙ e)) ∙ ap (λ (n : ℕ). n ∷ drop 1 buffer) (sym (oldest_seen h k low (omega (arith, z))))

        pub receive_takes_lem : first_of (standing o es (waiters_in ws (place sending (suc k)))) ≡ None → (q : Queues) → q ≡ queues_as (set_buffer xs (suc k) (drop 1 buffer)) → done_with t q v ≡ effect_as es (on_receive es ws xs (suc task) (suc k) p)
        receive_takes_lem n q e = gives_by queues_as effect ht e v ∙ receives_by (v ∷ drop 1 buffer) [] oldest (no_first _ n)

        pub receive_refills_lem : {x : First} → first_of (standing o es (waiters_in ws (place sending (suc k)))) ≡ Some x → (e : Ended) → e ≡ woken_of es ws x.task v 0
            → (q : Queues) → q ≡ queues_as (set_buffer xs (suc k) (drop 1 buffer ++ (x.word ∷ []))) → ended_with e q ≡ effect_as es (on_receive es ws xs (suc task) (suc k) p)
        receive_refills_lem {x} f e u q g =
            let y = waits ht o (place sending (suc k)) x.task x.word f in
            wakes_by queues_as effect ht (g ∙ ap (λ (n : ℕ). queues_as (set_buffer xs (suc k) (drop 1 buffer ++ (n ∷ [])))) (sym y.word)) y v 0 e u
            ∙ receives_by (v ∷ drop 1 buffer) (y.entry ∷ y.rest) oldest y.list

-- ---- what each call's proof is found from
pub ruleset sends = (arrived_low, send_wakes)

pub ruleset sends_forced = (arrived_low, force_misused_lem, force_wakes, force_stores_lem, force_drops_lem, room_seen, some_seen)

pub ruleset receives = (first_low, receive_passes_lem, receive_waits_lem, receive_takes_lem, some_seen, record_part)
