-- What demand 3 says of a call anywhere in a list, in plain facts: who may send and take, and whose wait a release ends. Assumes nothing.
use mathlib.Core.Path.{◌≡◌, refl, sym, ap, subst}
use mathlib.Core.Logic.{◌≢◌, ◌⊎◌, inl, inr}
use mathlib.Core.Bool.{Bool, true, false, cond, ◌&&◌}
use mathlib.Core.List.{List, [], ◌∷◌, ◌++◌}
use mathlib.Core.Option.{Option, none, some}
use Prim.Native.Nat.{ℕ}
use lib.Dec.{eqb, T}
use lib.IntN.{ℤ}
use lib.ListN.{length}
use native.Mathlib.Omega.{arith}
use Rattle.access.specs.Domains.{running_of}
use Rattle.access.specs.Patterns.{admitted}
use Rattle.itron.specs.Codes.{Code, ok, waiting, error}
use Rattle.model.specs.Lists.{All, Some, Each}
use Rattle.model.specs.State.{Vector, Side, on_sem, receiving, sending, Place, Waiter, State, queue_at, domain_at, level_at, place, no}
use Rattle.model.specs.Answers.{Released, Answer, when_waiting}
use Rattle.model.specs.Waits.{Patience}
use Rattle.model.specs.Acts.{Act, own, refer, set_vector}
use Rattle.model.specs.Semaphores.{signal, acquire}
use Rattle.model.specs.Queues.{QueueCall, send, receive, forced_send}
use Rattle.model.specs.ExtendedCalls.{ExtendedCall}
use Rattle.model.specs.Calls.{Op, on_semaphore, on_queue, on_level, call}
use Rattle.model.specs.History.{Event, History, Made, seen_by, asked_if, of_asked, vector_since, pending}
use Rattle.model.specs.LevelClaims.{level_since, running_when}
use Rattle.model.specs.Sends.{Sent, send_in}
use Rattle.model.specs.QueueClaims.{asked_of, by_queue, began, IsReceive, may_receive, SentAllowed, TakenAllowed, Came}
use Rattle.model.specs.Releases.{served_by, WaitsAt, WaitsNot, EndsWait, ReleasesWaiters}
use Rattle.model.specs.Demand3.{Demand3}
use Rattle.model.proofs.Lists.{eq_of, eqb_same, eqb_no}
use Rattle.model.proofs.Places.{all_each}
use Rattle.model.proofs.LevelClaims.{enters_alike, leaves_alike}

-- ---- a claim about every element and what was before it holds of one, wherever it stands
pub each_at : {A : Type 0} (P : A → List A → Type 0) (l : List A) (x : A) (m : List A) → Each P (l ++ x ∷ m) → P x m
each_at P [] x m k = k.0
each_at P (y ∷ l) x m k = each_at P l x m k.1

each_seen : (q : ℕ) (P : Made QueueCall → List (Made QueueCall) → Type 0) (l : History) (e : Event) (h : History) → Each P (by_queue q (l ++ e ∷ h)) → P (seen_by (asked_of q) e) (by_queue q h)
each_seen q P [] e h k = k.0
each_seen q P (y ∷ l) e h k = each_seen q P l e h k.1

is_true : (b : Bool) → T b → b ≡ true
is_true true k = refl
is_true false k = absurd k

-- the domain as which demand 3 says a task ran after the calls h, which left the state s: by its level in that state
pub ran_as : (s₀ s : State) (h : History) (domain : ℕ → ℤ) (q t : ℕ) → Demand3 s₀ h s → running_when domain t (by_queue q h) ≡ running_of (domain t) (level_at s t)
ran_as s₀ s h domain q t d = let e : level_since t (by_queue q h) ≡ level_at s t = omega (arith, d.levels t, enters_alike (asked_of q) t h, leaves_alike (asked_of q) t h) in ap (running_of (domain t)) e

-- a send of any kind
abbrev pub IsSend : QueueCall → Type 0
IsSend (send p w) = Unit
IsSend (receive p) = ⊥
IsSend (forced_send w) = Unit

-- ---- where a released receiver came from
-- a call that is not task t's, or did not answer "waiting"
abbrev NotBegun : ℕ → Event → Type 0
NotBegun t e = e.answer.code ≡ waiting → no e.call.caller ≢ t

-- a receive from the queue n
abbrev Received : ℤ → Op → Type 0
Received n op = (z : ℤ) × ((p : Patience) × ((no z ≡ no n) × (op ≡ on_queue z (own (receive p)))))

module _ (domain : ℕ → ℤ) (v : Vector) (n : ℤ) (t : ℕ) where
  not_begun : (e : Event) → NotBegun t e → began t (seen_by (asked_of (no n)) e) ≡ false
  not_begun e f = go e.answer.code f
    where
      go : (k : Code) → (k ≡ waiting → no e.call.caller ≢ t) → when_waiting false true k && eqb t (no e.call.caller) ≡ false
      go ok z = refl
      go waiting z = eqb_no t (no e.call.caller) (λ q. z refl (sym q))
      go (error x) z = refl

  older : (e : Event) (h : History) → NotBegun t e → Came domain v t (by_queue (no n) (e ∷ h)) → Came domain v t (by_queue (no n) h)
  older e h f k = subst (λ (b : Bool). cond b (of_asked ⊥ IsReceive (asked_of (no n) e.call.op) × T (may_receive domain v t (by_queue (no n) h))) (Came domain v t (by_queue (no n) h))) (not_begun e f) k

  never : (h : History) → All (NotBegun t) h → Came domain v t (by_queue (no n) h) → ⊥
  never [] f k = k
  never (e ∷ h) f k = never h f.1 (older e h f.0 k)

  received : (op : Op) → of_asked ⊥ IsReceive (asked_of (no n) op) → Received n op
  received (on_semaphore z a) k = absurd k
  received (on_level a) k = elim k [ ]
  received (on_queue z a) k = go (eqb (no n) (no z)) refl a k
    where
      go : (b : Bool) → eqb (no n) (no z) ≡ b → (a : Act QueueCall) → of_asked ⊥ IsReceive (asked_if b a) → Received n (on_queue z a)
      go true e (own (receive p)) k = (z, (p, (sym (eq_of (no n) (no z) e), refl)))
      go true e (own (send p w)) k = absurd k
      go true e (own (forced_send w)) k = absurd k
      go true e refer k = absurd k
      go true e (set_vector x) k = absurd k
      go false e a k = absurd k

  newest : (since : History) (c : Event) (then : History) → All (NotBegun t) since → c.answer.code ≡ waiting → no c.call.caller ≡ t → Came domain v t (by_queue (no n) (since ++ c ∷ then))
      → Received n c.call.op × (admitted (vector_since v (by_queue (no n) then)).normal2 (running_when domain t (by_queue (no n) then)) ≡ true)
  newest [] c then f g z k =
      let b : began t (seen_by (asked_of (no n)) c) ≡ true = rw (g, z) (eqb_same t) in
      let x = subst (λ (b : Bool). cond b (of_asked ⊥ IsReceive (asked_of (no n) c.call.op) × T (may_receive domain v t (by_queue (no n) then))) (Came domain v t (by_queue (no n) then))) b k in
      (received c.call.op x.0, is_true _ x.1)
  newest (e ∷ since) c then f g z k = newest since c then f.1 g z (older e (since ++ c ∷ then) f.0 k)

-- ---- a call of task t on the queue n, after the calls h and before the calls `later`
module _ (s₀ s found : State) (later h : History) (t n : ℤ) (a : Answer) where
  abbrev did : Op → Event
  did op = record { before = found; call = call t op; answer = a }

  -- the queue's vector after the calls before this one
  abbrev vector_then : Vector
  vector_then = vector_since (queue_at s₀ (no n)).vector (by_queue (no n) h)

  -- and the domain as which the caller ran then
  abbrev running_then : ℤ
  running_then = running_when (domain_at s₀) (no t) (by_queue (no n) h)

  abbrev Claimed : Op → Type 0
  Claimed op = Demand3 s₀ (later ++ did op ∷ h) s

  abbrev seen : Option (Act QueueCall) → Code → Made QueueCall
  seen o k = record { caller = no t; asked = o; extended = none; answer = record { code = k; word = a.word; released = a.released; info = a.info } }

  here : (x : Act QueueCall) → asked_of (no n) (on_queue n x) ≡ some x
  here x = ap (λ b. asked_if b x) (eqb_same (no n))

  -- an accepted send came from a running domain that normal operation 1 admitted
  pub sender_admitted : (x : QueueCall) → IsSend x → (a.code ≡ ok) ⊎ (a.code ≡ waiting) → Claimed (on_queue n (own x)) → admitted vector_then.normal1 running_then ≡ true
  sender_admitted x i k d = go a.code k
      (subst (λ (o : Option (Act QueueCall)). SentAllowed (domain_at s₀) (queue_at s₀ (no n)).vector (seen o a.code) (by_queue (no n) h)) (here (own x))
      (each_seen (no n) (SentAllowed (domain_at s₀) (queue_at s₀ (no n)).vector) later _ h (d.queues (no n)).senders_allowed))
    where
      one : (x : QueueCall) → IsSend x → All (λ (y : Sent). T (admitted vector_then.normal1 running_then)) (send_in (length (by_queue (no n) h)) (no t) x) → admitted vector_then.normal1 running_then ≡ true
      one (send p w) i z = is_true _ z.0
      one (receive p) i z = absurd i
      one (forced_send w) i z = is_true _ z.0

      go : (c : Code) → (c ≡ ok) ⊎ (c ≡ waiting) → SentAllowed (domain_at s₀) (queue_at s₀ (no n)).vector (seen (some (own x)) c) (by_queue (no n) h) → admitted vector_then.normal1 running_then ≡ true
      go ok j z = one x i z
      go waiting j z = one x i z
      go (error e) (inl j) z = cc
      go (error e) (inr j) z = cc

  -- a receive that is done came from a running domain that normal operation 2 admitted
  taken : (x : Act QueueCall) → Claimed (on_queue n x) → a.code ≡ ok → TakenAllowed (domain_at s₀) (queue_at s₀ (no n)).vector (seen (some x) ok) (by_queue (no n) h)
  taken x d k =
      subst (λ (c : Code). TakenAllowed (domain_at s₀) (queue_at s₀ (no n)).vector (seen (some x) c) (by_queue (no n) h)) k
      (subst (λ (o : Option (Act QueueCall)). TakenAllowed (domain_at s₀) (queue_at s₀ (no n)).vector (seen o a.code) (by_queue (no n) h)) (here x)
      (each_seen (no n) (TakenAllowed (domain_at s₀) (queue_at s₀ (no n)).vector) later _ h (d.queues (no n)).takers_allowed))

  pub taker_admitted : (p : Patience) → a.code ≡ ok → Claimed (on_queue n (own (receive p))) → admitted vector_then.normal2 running_then ≡ true
  taker_admitted p k d = is_true _ (taken (own (receive p)) d k)

  -- a task that a send releases: its newest call that answered "waiting" was a receive from this queue, by a running domain that normal operation 2 admitted then
  module _ (x : QueueCall) (i : IsSend x) (k : a.code ≡ ok) (before behind : List Released) (r : Released) (rs : a.released ≡ before ++ r ∷ behind) (d : Claimed (on_queue n (own x))) where
    came : Came (domain_at s₀) (queue_at s₀ (no n)).vector r.task (by_queue (no n) h)
    came = all_each Arrived a.released before behind r rs (go x i (taken (own x) d k))
      where
        Arrived : Released → Type 0
        Arrived y = Came (domain_at s₀) (queue_at s₀ (no n)).vector y.task (by_queue (no n) h)

        go : (x : QueueCall) → IsSend x → TakenAllowed (domain_at s₀) (queue_at s₀ (no n)).vector (seen (some (own x)) ok) (by_queue (no n) h) → All Arrived a.released
        go (send p w) i z = z
        go (receive p) i z = absurd i
        go (forced_send w) i z = z

    -- it had begun to wait
    pub taker_waited : All (NotBegun r.task) h → ⊥
    taker_waited f = never (domain_at s₀) (queue_at s₀ (no n)).vector n r.task h f came

    -- and its newest call that answered "waiting", c, was this
    pub taker_came : (since then : History) (c : Event) → h ≡ since ++ c ∷ then → All (NotBegun r.task) since → c.answer.code ≡ waiting → no c.call.caller ≡ r.task
        → (Received n c.call.op) × (admitted (vector_since (queue_at s₀ (no n)).vector (by_queue (no n) then)).normal2 (running_when (domain_at s₀) r.task (by_queue (no n) then)) ≡ true)
    taker_came since then c e f g z = newest (domain_at s₀) (queue_at s₀ (no n)).vector n r.task since c then f g z (subst (λ (l : History). Came (domain_at s₀) (queue_at s₀ (no n)).vector r.task (by_queue (no n) l)) e came)

-- ---- a call that releases a task r, after the calls h, which left the state s₁, and before the calls `later`; after it the state was s₂
module _ (s₀ s₁ s₂ s found : State) (later h : History) (t n : ℤ) (a : Answer) (before behind : List Released) (r : Released) (rs : a.released ≡ before ++ r ∷ behind) where
  abbrev released : Op → Event
  released op = record { before = found; call = call t op; answer = a }

  ends : (op : Op) → Demand3 s₀ (later ++ released op ∷ h) s → EndsWait (released op) h r
  ends op d = all_each (EndsWait (released op) h) a.released before behind r rs (each_at ReleasesWaiters later (released op) h d.releases).each

  -- it waited there
  abbrev Waited : Side → Type 0
  Waited x = Some (λ (e : Waiter). (e.task ≡ r.task) × (e.place ≡ place x (no n))) s₁.waits

  abbrev Before : Op → Type 0
  Before op = Demand3 s₀ h s₁ × Demand3 s₀ (later ++ released op ∷ h) s

  waited : (op : Op) (x : Side) → served_by op ≡ some (place x (no n)) → Before op → Waited x
  waited op x e d = subst (λ (l : List Waiter). WaitsAt (some (place x (no n))) r.task l) (sym d.0.waiters_are) (subst (λ (o : Option Place). WaitsAt o r.task (pending h)) e (ends op d.1).waited)

  -- a signal releases who waits for the semaphore, a send who waits to receive from the queue, a receive who waits to send to it
  pub signal_ends : Before (on_semaphore n (own signal)) → Waited on_sem
  signal_ends d = waited _ on_sem refl d

  pub send_ends : (x : QueueCall) → IsSend x → Before (on_queue n (own x)) → Waited receiving
  send_ends (send p w) i d = waited _ receiving refl d
  send_ends (receive p) i d = absurd i
  send_ends (forced_send w) i d = waited _ receiving refl d

  pub receive_ends : (p : Patience) → Before (on_queue n (own (receive p))) → Waited sending
  receive_ends p d = waited _ sending refl d

  -- no other call releases anybody
  pub acquire_ends : (p : Patience) → Demand3 s₀ (later ++ released (on_semaphore n (own (acquire p))) ∷ h) s → ⊥
  acquire_ends p d = (ends _ d).waited

  pub refer_ends : Demand3 s₀ (later ++ released (on_semaphore n refer) ∷ h) s ⊎ Demand3 s₀ (later ++ released (on_queue n refer) ∷ h) s → ⊥
  refer_ends (inl d) = (ends _ d).waited
  refer_ends (inr d) = (ends _ d).waited

  pub set_ends : (v : Vector) → Demand3 s₀ (later ++ released (on_semaphore n (set_vector v)) ∷ h) s ⊎ Demand3 s₀ (later ++ released (on_queue n (set_vector v)) ∷ h) s → ⊥
  set_ends v (inl d) = (ends _ d).waited
  set_ends v (inr d) = (ends _ d).waited

  pub level_ends : (x : ExtendedCall) → Demand3 s₀ (later ++ released (on_level x) ∷ h) s → ⊥
  level_ends x d = (ends _ d).waited

  -- and whom a call releases, that task waits nowhere after it
  pub waits_no_more : (op : Op) → Demand3 s₀ (released op ∷ h) s₂ → Demand3 s₀ (later ++ released op ∷ h) s → All (λ (e : Waiter). e.task ≢ r.task) s₂.waits
  waits_no_more op d f = subst (λ (l : List Waiter). WaitsNot r.task l) (sym d.waiters_are) (ends op f).ended
