-- What a call on a data queue that passes the checks answers (document 01, "Calls on an open gateway"; forced send: request T-05): its sentences, each by plain facts of the state before. Assumes nothing.
use mathlib.Core.Path.{◌≡◌, refl, sym, ◌∙◌, subst}
use mathlib.Core.Logic.{◌≢◌}
use mathlib.Core.Bool.{Bool, true, false}
use mathlib.Core.List.{List, [], ◌∷◌}
use Prim.Native.Nat.{ℕ, ◌≤◌, ◌<◌}
use native.Mathlib.Omega.{arith}
use lib.Dec.{eqb, ltb}
use lib.IntN.{ℤ}
use lib.ListN.{length}
use Rattle.itron.specs.Codes.{ok, waiting}
use Rattle.itron.specs.declared.error.Error.TheVariants.{Iluse as e_iluse, Tmout as e_tmout}
use Rattle.model.specs.State.{Vector, Waiter, State, queue_at, no}
use Rattle.model.specs.Answers.{Answer}
use Rattle.model.specs.Waits.{Patience, polling, forever, senders, receivers}
use Rattle.model.specs.Acts.{own, refer, set_vector}
use Rattle.model.specs.Queues.{send, receive, forced_send, send_by, receive_by, force_by}
use Rattle.model.specs.Calls.{on_queue, call, step}
use Rattle.model.proofs.Tests.{holds, fails, lt_tells, eq_tells}
use Rattle.model.proofs.Answers.{Passes, answers, refuses, with, acts, first, ReferTells}

-- "With a waiting receiver, the first gets the word and is released. Otherwise, with room, .. Otherwise poll-send gives E_TMOUT; send waits"
module _ (s : State) (t n : ℤ) (w : ℕ) (a : Patience) (p : Passes s t (on_queue n (own (send a w)))) where
  send_by_lem : (l : List Waiter) (room : Bool) → receivers s (no n) ≡ l → ltb (length (queue_at s (no n)).buffer) (queue_at s (no n)).capacity ≡ room
      → (step s (call t (on_queue n (own (send a w))))).answer ≡ (send_by s.waits s.queues (no t) (no n) w a l room).answer
  send_by_lem l room h k = acts s t (on_queue n (own (send a w))) p ∙ (λ i. (send_by s.waits s.queues (no t) (no n) w a (h i) (k i)).answer)

  pub send_releases : (e : Waiter) (l : List Waiter) → receivers s (no n) ≡ e ∷ l → (step s (call t (on_queue n (own (send a w))))).answer ≡ answers ok 0 (with e w)
  send_releases e l h = send_by_lem (e ∷ l) _ h refl

  send_full : receivers s (no n) ≡ [] → (queue_at s (no n)).capacity ≤ length (queue_at s (no n)).buffer → (step s (call t (on_queue n (own (send a w))))).answer ≡ (send_by s.waits s.queues (no t) (no n) w a [] false).answer
  send_full h k = send_by_lem [] false h (fails (lt_tells (length (queue_at s (no n)).buffer) (queue_at s (no n)).capacity) (λ z. omega arith))

  pub send_stores_lem : receivers s (no n) ≡ [] → length (queue_at s (no n)).buffer < (queue_at s (no n)).capacity → (step s (call t (on_queue n (own (send a w))))).answer ≡ answers ok 0 []
  send_stores_lem h k = send_by_lem [] true h (holds (lt_tells _ _) k)

pub send_waits_lem : (s : State) (t n : ℤ) (w : ℕ) → Passes s t (on_queue n (own (send forever w))) → receivers s (no n) ≡ [] → (queue_at s (no n)).capacity ≤ length (queue_at s (no n)).buffer
    → (step s (call t (on_queue n (own (send forever w))))).answer ≡ answers waiting 0 []
send_waits_lem s t n w p h k = send_full s t n w forever p h k

pub send_times_out : (s : State) (t n : ℤ) (w : ℕ) → Passes s t (on_queue n (own (send polling w))) → receivers s (no n) ≡ [] → (queue_at s (no n)).capacity ≤ length (queue_at s (no n)).buffer
    → (step s (call t (on_queue n (own (send polling w))))).answer ≡ refuses e_tmout
send_times_out s t n w p h k = send_full s t n w polling p h k

-- Request T-05: forced send "with a waiting receiver as before; into room as before; into a full buffer it drops the oldest word and appends its own;
-- on capacity 0 it is E_ILUSE, after E_OACV, even with a waiting receiver"
module _ (s : State) (t n : ℤ) (w : ℕ) (p : Passes s t (on_queue n (own (forced_send w)))) where
  force_by_lem : (none : Bool) (l : List Waiter) (room : Bool) → eqb (queue_at s (no n)).capacity 0 ≡ none → receivers s (no n) ≡ l → ltb (length (queue_at s (no n)).buffer) (queue_at s (no n)).capacity ≡ room
      → (step s (call t (on_queue n (own (forced_send w))))).answer ≡ (force_by s.waits s.queues (no n) w none l room).answer
  force_by_lem none l room e h k = acts s t (on_queue n (own (forced_send w))) p ∙ (λ i. (force_by s.waits s.queues (no n) w (e i) (h i) (k i)).answer)

  pub force_misused_lem : (queue_at s (no n)).capacity ≡ 0 → (step s (call t (on_queue n (own (forced_send w))))).answer ≡ refuses e_iluse
  force_misused_lem e = force_by_lem true _ _ (holds (eq_tells _ 0) e) refl refl

  pub force_releases : (e : Waiter) (l : List Waiter) → (queue_at s (no n)).capacity ≢ 0 → receivers s (no n) ≡ e ∷ l → (step s (call t (on_queue n (own (forced_send w))))).answer ≡ answers ok 0 (with e w)
  force_releases e l z h = force_by_lem false (e ∷ l) _ (fails (eq_tells _ 0) z) h refl

  pub force_stores_lem : receivers s (no n) ≡ [] → length (queue_at s (no n)).buffer < (queue_at s (no n)).capacity → (step s (call t (on_queue n (own (forced_send w))))).answer ≡ answers ok 0 []
  force_stores_lem h k = force_by_lem false [] true (fails (eq_tells (queue_at s (no n)).capacity 0) (λ z. omega (arith, k, z))) h (holds (lt_tells _ _) k)

  -- whoever waits to send
  pub force_drops_lem : (queue_at s (no n)).capacity ≢ 0 → receivers s (no n) ≡ [] → (queue_at s (no n)).capacity ≤ length (queue_at s (no n)).buffer → (step s (call t (on_queue n (own (forced_send w))))).answer ≡ answers ok 0 []
  force_drops_lem z h k = force_by_lem false [] false (fails (eq_tells _ 0) z) h (fails (lt_tells (length (queue_at s (no n)).buffer) (queue_at s (no n)).capacity) (λ z. omega arith))

-- "A buffered word: the oldest is handed out; if a sender waits, .. it is released. Empty buffer with a waiting sender (capacity 0): its word is
-- handed out and it is released. Otherwise poll-receive gives E_TMOUT; receive waits"
module _ (s : State) (t n : ℤ) (a : Patience) (p : Passes s t (on_queue n (own (receive a)))) where
  receive_by_lem : (b : List ℕ) (l : List Waiter) → (queue_at s (no n)).buffer ≡ b → senders s (no n) ≡ l → (step s (call t (on_queue n (own (receive a))))).answer ≡ (receive_by s.waits s.queues (no t) (no n) a b l).answer
  receive_by_lem b l h k = acts s t (on_queue n (own (receive a))) p ∙ (λ i. (receive_by s.waits s.queues (no t) (no n) a (h i) (k i)).answer)

  pub receive_oldest : (x : ℕ) (b : List ℕ) → (queue_at s (no n)).buffer ≡ x ∷ b → senders s (no n) ≡ [] → (step s (call t (on_queue n (own (receive a))))).answer ≡ answers ok x []
  receive_oldest x b h k = receive_by_lem (x ∷ b) [] h k

  pub receive_releases : (x : ℕ) (b : List ℕ) (e : Waiter) (l : List Waiter) → (queue_at s (no n)).buffer ≡ x ∷ b → senders s (no n) ≡ e ∷ l → (step s (call t (on_queue n (own (receive a))))).answer ≡ answers ok x (with e 0)
  receive_releases x b e l h k = receive_by_lem (x ∷ b) (e ∷ l) h k

  pub receive_from_sender : (e : Waiter) (l : List Waiter) → (queue_at s (no n)).buffer ≡ [] → senders s (no n) ≡ e ∷ l → (step s (call t (on_queue n (own (receive a))))).answer ≡ answers ok e.word (with e 0)
  receive_from_sender e l h k = receive_by_lem [] (e ∷ l) h k

pub receive_times_out : (s : State) (t n : ℤ) → Passes s t (on_queue n (own (receive polling))) → (queue_at s (no n)).buffer ≡ [] → senders s (no n) ≡ [] → (step s (call t (on_queue n (own (receive polling))))).answer ≡ refuses e_tmout
receive_times_out s t n p h k = receive_by_lem s t n polling p [] [] h k

pub receive_waits_lem : (s : State) (t n : ℤ) → Passes s t (on_queue n (own (receive forever))) → (queue_at s (no n)).buffer ≡ [] → senders s (no n) ≡ [] → (step s (call t (on_queue n (own (receive forever))))).answer ≡ answers waiting 0 []
receive_waits_lem s t n p h k = receive_by_lem s t n forever p [] [] h k

-- "Set-vector. All four patterns are replaced": by whom the checks let pass, always
pub set_queue_done : (s : State) (t n : ℤ) (v : Vector) → Passes s t (on_queue n (set_vector v)) → (step s (call t (on_queue n (set_vector v)))).answer ≡ answers ok 0 []
set_queue_done s t n v p = acts s t (on_queue n (set_vector v)) p

-- "Queue: first waiting sender, first waiting receiver, number of buffered words, vector."
pub refer_queue : (s : State) (t n : ℤ) → Passes s t (on_queue n refer)
    → ReferTells (step s (call t (on_queue n refer))).answer (senders s (no n)) (receivers s (no n)) (length (queue_at s (no n)).buffer) (queue_at s (no n)).vector
refer_queue s t n p = subst (λ (a : Answer). ReferTells a (senders s (no n)) (receivers s (no n)) (length (queue_at s (no n)).buffer) (queue_at s (no n)).vector) (sym (acts s t (on_queue n refer) p))
    (record { code = refl; word = refl; released = refl; first = first (senders s (no n)); second = first (receivers s (no n)); counted = refl; patterns = refl })
