-- Which answer a call gives, and when (document 01, "Calls on an open gateway"): the sentences on the checks, each by plain facts of the state before.
-- What a call that passes them answers is in SemaphoreAnswers and QueueAnswers; what it does to the state is in Effects, Steps and Turns.
use mathlib.Core.Path.{◌≡◌, refl, sym, ap, ◌∙◌}
use mathlib.Core.Logic.{◌≢◌}
use mathlib.Core.Bool.{Bool, true, false, not, ◌&&◌}
use mathlib.Core.List.{List, [], ◌∷◌}
use mathlib.Core.Option.{Option, none, some}
use Prim.Native.Nat.{ℕ, ◌<◌}
use native.Mathlib.Omega.{arith}
use lib.ListN.{length}
use lib.Dec.{eqb, leb}
use lib.IntN.{ℤ, negsuc}
use Rattle.access.proofs.Laws.{inside_admitted}
use Rattle.access.specs.Domains.{running_of}
use Rattle.access.specs.Patterns.{admitted}
use Rattle.access.specs.Vectors.{pattern_of}
use Rattle.itron.specs.Codes.{Code, ok, error}
use Rattle.itron.specs.declared.error.Error.{Error as Refusal}
use Rattle.itron.specs.declared.error.Error.TheVariants.{Sys as e_sys, Ctx as e_ctx, Id as e_id, Par as e_par, Noexs as e_noexs, Oacv as e_oacv}
use Rattle.itron.specs.Limits.{max_level}
use Rattle.model.specs.Lists.{All}
use Rattle.model.specs.State.{Vector, Waiter, State, sem_at, queue_at, domain_at, level_at, running_at, no}
use Rattle.model.specs.Answers.{Released, Answer, Out, refuse_if}
use Rattle.model.specs.Waits.{Patience, absent, first_task}
use Rattle.model.specs.Acts.{Act, own, refer, set_vector, operation_of, clear}
use Rattle.model.specs.Rooms.{Room, ready, in_range, admits, vector_at, slots_of, check}
use Rattle.model.specs.Semaphores as Semaphores
use Rattle.model.specs.Semaphores.{signal, acquire}
use Rattle.model.specs.Queues as Queues
use Rattle.model.specs.Queues.{send, receive, forced_send}
use Rattle.model.specs.ExtendedCalls as Extended
use Rattle.model.specs.ExtendedCalls.{Enter, Leave, level_check}
use Rattle.model.specs.Calls.{Op, on_semaphore, on_queue, on_level, call, asks, act_if, step}
use Rattle.model.specs.SemaphoreClaims as SemaphoreClaims
use Rattle.model.specs.QueueClaims as QueueClaims
use Rattle.model.specs.Denials.{Ready, OnObject, named, InRange, There}
use Rattle.model.proofs.Lists.{no_both}
use Rattle.model.proofs.Rooms.{own_same}
use Rattle.model.proofs.Semaphores as SemaphoreRoom
use Rattle.model.proofs.Queues as QueueRoom
use Rattle.model.proofs.Cover.{lawful}
use Rattle.model.proofs.Tests.{Tells, le_tells, eq_tells, true_tells, and_tells, not_tells, passes_on, stops_at, later, stopped}

-- ---- what the checks ask: the caller, the object's number, whether it is registered (Denials), and the pattern that governs the call
abbrev pub pattern_now : State → Op → ℕ
pattern_now s (on_semaphore n a) = SemaphoreClaims.pattern_for (sem_at s (no n)).vector a
pattern_now s (on_queue n a) = QueueClaims.pattern_for (queue_at s (no n)).vector a
pattern_now s (on_level c) = 0

-- "Signal and both sends are normal operation 1. Poll, wait and both receives are normal operation 2. Set-vector is management, refer is reference"
pub semaphore_governed : (s : State) (n : ℤ) (p : Patience) (v : Vector)
    → (pattern_now s (on_semaphore n (own signal)) ≡ (sem_at s (no n)).vector.normal1)
    × (pattern_now s (on_semaphore n (own (acquire p))) ≡ (sem_at s (no n)).vector.normal2)
    × (pattern_now s (on_semaphore n (set_vector v)) ≡ (sem_at s (no n)).vector.management)
    × (pattern_now s (on_semaphore n refer) ≡ (sem_at s (no n)).vector.reference)
semaphore_governed s n p v = (refl, refl, refl, refl)

pub queue_governed : (s : State) (n : ℤ) (p : Patience) (w : ℕ) (v : Vector)
    → (pattern_now s (on_queue n (own (send p w))) ≡ (queue_at s (no n)).vector.normal1)
    × (pattern_now s (on_queue n (own (receive p))) ≡ (queue_at s (no n)).vector.normal2)
    × (pattern_now s (on_queue n (set_vector v)) ≡ (queue_at s (no n)).vector.management)
    × (pattern_now s (on_queue n refer) ≡ (queue_at s (no n)).vector.reference)
queue_governed s n p w v = (refl, refl, refl, refl)

-- forced send: "It is normal operation 1" (request T-05)
pub force_governed : (s : State) (n : ℤ) (w : ℕ) → pattern_now s (on_queue n (own (forced_send w))) ≡ (queue_at s (no n)).vector.normal1
force_governed s n w = refl

-- the caller's running domain is admitted
abbrev pub May : State → ℕ → Op → Type 0
May s t op = admitted (pattern_now s op) (running_at s t) ≡ true

-- a call on an object that passes all of them
pub record Passes (s : State) (t : ℤ) (op : Op) : Type 0 where
  pub object : OnObject op
  pub ready : Ready s (no t)
  pub numbered : InRange s op
  pub there : There s op
  pub may : May s (no t) op

-- ---- the tests tell these facts
pub absent_tells : (t : ℕ) (l : List Waiter) → Tells (absent t l) (All (λ (e : Waiter). t ≢ e.task) l)
absent_tells t [] = record { yes = λ h. tt; no = λ h p. no_both {b = true} refl h }
absent_tells t (e ∷ l) = and_tells (not_tells (eq_tells t e.task)) (absent_tells t l)

pub ready_tells : (s : State) (t : ℕ) → Tells (s.fixed.closed && ready s t) (Ready s t)
ready_tells s t = and_tells (true_tells s.fixed.closed) (and_tells (and_tells (not_tells (eq_tells t 0)) (le_tells t _)) (absent_tells t s.waits))

range_tells : (s : State) (op : Op) → Tells (in_range (named s op).most (no (named s op).number)) (InRange s op)
range_tells s op = and_tells (not_tells (eq_tells (no (named s op).number) 0)) (le_tells (no (named s op).number) (named s op).most)

there_tells : (s : State) (op : Op) → Tells (leb (no (named s op).number) (named s op).registered) (There s op)
there_tells s op = le_tells (no (named s op).number) (named s op).registered

may_tells : (s : State) (t : ℕ) (op : Op) → Tells (admits (running_at s t) (pattern_now s op)) (May s t op)
may_tells s t op = true_tells _

-- the checks by these tests: no call on an object has others
abbrev after_there : State → ℕ → Op → Option Refusal
after_there s t op = refuse_if (not (admits (running_at s t) (pattern_now s op))) e_oacv none

abbrev after_range : State → ℕ → Op → Option Refusal
after_range s t op = refuse_if (not (leb (no (named s op).number) (named s op).registered)) e_noexs (after_there s t op)

abbrev on_number : State → ℕ → Op → Option Refusal
on_number s t op = refuse_if (not (in_range (named s op).most (no (named s op).number))) e_id (after_range s t op)

abbrev after_ready : State → ℕ → Op → Option Refusal
after_ready s t (on_semaphore n a) = on_number s t (on_semaphore n a)
after_ready s t (on_queue n a) = on_number s t (on_queue n a)
after_ready s t (on_level c) = level_check c (level_at s t)

abbrev checks : State → ℕ → Op → Option Refusal
checks s t op = refuse_if (not (s.fixed.closed && ready s t)) e_ctx (after_ready s t op)

-- a room's, where a call must meet nothing besides and p is the pattern that governs it
by_room : {C R : Type 0} (r : Room C R) (s : State) (t n : ℕ) (a : Act C) (p : ℕ) → slots_of r s n a ≡ clear → pattern_of (vector_at r s n) (operation_of r.operation a) ≡ p
    → check r s t n a
    ≡ refuse_if (not (s.fixed.closed && ready s t)) e_ctx
    (refuse_if (not (in_range r.most n)) e_id (refuse_if (not (leb n (length (r.records s)))) e_noexs (refuse_if (not (admits (running_at s t) p)) e_oacv none)))
unfolding check
by_room r s t n a p h e =
    λ i.
    refuse_if (not (s.fixed.closed && ready s t)) e_ctx
    (refuse_if (not (in_range r.most n)) e_id
    (refuse_if (not (h i).arguments) e_par
    (refuse_if (not (leb n (length (r.records s)))) e_noexs (refuse_if (not (h i).numbers) e_par (refuse_if (not (admits (running_at s t) (e i))) e_oacv (h i).misuse)))))

checks_are : (s : State) (t : ℕ) (op : Op) → (asks op).check s t ≡ checks s t op
unfolding Extended.check
checks_are s t (on_semaphore n a) = by_room Semaphores.room s t (no n) a _ (own_same clear (Semaphores.slots s.waits s.sems (no n)) (λ c. refl) a) (SemaphoreRoom.governs (sem_at s (no n)).vector a)
checks_are s t (on_queue n a) = by_room Queues.room s t (no n) a _ (own_same clear (Queues.slots s.waits s.queues (no n)) (λ c. refl) a) (QueueRoom.governs (queue_at s (no n)).vector a)
checks_are s t (on_level c) = refl

-- a call on an object goes on with its number
goes_on : (s : State) (t : ℕ) (op : Op) → OnObject op → after_ready s t op ≡ on_number s t op
goes_on s t (on_semaphore n a) o = refl
goes_on s t (on_queue n a) o = refl
goes_on s t (on_level c) o = absurd o

-- ---- the answers, all that they carry: without a refer all numbers that it tells are 0
abbrev pub answers : Code → ℕ → List Released → Answer
answers c w rs = record { code = c; word = w; released = rs; info = record { first = 0; second = 0; amount = 0; vector = record { normal1 = 0; normal2 = 0; management = 0; reference = 0 } } }

abbrev pub refuses : Refusal → Answer
refuses e = answers (error e) 0 []

-- a released task with its word
abbrev pub with : Waiter → ℕ → List Released
with e w = record { task = e.task; word = w } ∷ []

module _ (s : State) (t : ℤ) (op : Op) where
  step_by : (o : Option Refusal) → checks s (no t) op ≡ o → step s (call t op) ≡ act_if s (no t) (asks op) o
  unfolding step
  step_by o h = ap (act_if s (no t) (asks op)) (checks_are s (no t) op ∙ h)

  answer_by : (o : Option Refusal) → checks s (no t) op ≡ o → (step s (call t op)).answer ≡ (act_if s (no t) (asks op) o).answer
  answer_by o h = ap (λ (x : Out). x.answer) (step_by o h)

  -- "table not closed, or caller not a registered ready task: E_CTX"
  pub ctx_when : (Ready s (no t) → ⊥) → (step s (call t op)).answer ≡ refuses e_ctx
  ctx_when f = answer_by (some e_ctx) (stops_at (ready_tells s (no t)) e_ctx (after_ready s (no t) op) f)

  past_ready : OnObject op → Ready s (no t) → checks s (no t) op ≡ on_number s (no t) op
  past_ready o r = passes_on (ready_tells s (no t)) e_ctx (after_ready s (no t) op) r ∙ goes_on s (no t) op o

  -- a number outside 1 to the limit of its kind: E_ID
  pub id_when : OnObject op → Ready s (no t) → (InRange s op → ⊥) → (step s (call t op)).answer ≡ refuses e_id
  id_when o r f = answer_by (some e_id) (past_ready o r ∙ stops_at (range_tells s op) e_id (after_range s (no t) op) f)

  past_range : OnObject op → Ready s (no t) → InRange s op → checks s (no t) op ≡ after_range s (no t) op
  past_range o r i = past_ready o r ∙ passes_on (range_tells s op) e_id (after_range s (no t) op) i

  -- "Not registered: E_NOEXS"
  pub noexs_when : OnObject op → Ready s (no t) → InRange s op → (There s op → ⊥) → (step s (call t op)).answer ≡ refuses e_noexs
  noexs_when o r i f = answer_by (some e_noexs) (past_range o r i ∙ stops_at (there_tells s op) e_noexs (after_there s (no t) op) f)

  past_there : OnObject op → Ready s (no t) → InRange s op → There s op → checks s (no t) op ≡ after_there s (no t) op
  past_there o r i h = past_range o r i ∙ passes_on (there_tells s op) e_noexs (after_there s (no t) op) h

  -- "Caller's domain not admitted: E_OACV"
  pub oacv_when : OnObject op → Ready s (no t) → InRange s op → There s op → (May s (no t) op → ⊥) → (step s (call t op)).answer ≡ refuses e_oacv
  oacv_when o r i h f = answer_by (some e_oacv) (past_there o r i h ∙ stops_at (may_tells s (no t) op) e_oacv none f)

  -- what passes them is not refused by a check
  pub does : Passes s t op → step s (call t op) ≡ (asks op).act s (no t)
  does p = step_by none (past_there p.object p.ready p.numbered p.there ∙ passes_on (may_tells s (no t) op) e_oacv none p.may)

  pub acts : Passes s t op → (step s (call t op)).answer ≡ ((asks op).act s (no t)).answer
  acts p = ap (λ (x : Out). x.answer) (does p)

-- the host's numbers below 0 name no task and no object
pub no_such_caller : (s : State) (k : ℕ) (op : Op) → (step s (call (negsuc k) op)).answer ≡ refuses e_ctx
no_such_caller s k op = ctx_when s (negsuc k) op (λ r. r.1.0.0 refl)

-- ---- what a refer tells
-- the task that stands first in a wait queue, "0 if none"
abbrev pub First : List Waiter → ℕ → Type 0
First [] t = t ≡ 0
First (e ∷ l) t = t ≡ e.task

pub first : (l : List Waiter) → First l (first_task l)
first [] = refl
first (e ∷ l) = refl

-- the rest of its answer is E_OK, word 0 and no released task
pub record ReferTells (a : Answer) (firsts seconds : List Waiter) (amount : ℕ) (vector : Vector) : Type 0 where
  pub code : a.code ≡ ok
  pub word : a.word ≡ 0
  pub released : a.released ≡ []
  pub first : First firsts a.info.first
  pub second : First seconds a.info.second
  pub counted : a.info.amount ≡ amount
  pub patterns : a.info.vector ≡ vector

-- ---- "E_OACV exactly when denied"
abbrev pub Denied : State → ℤ → Op → Type 0
Denied s t op = OnObject op × (Ready s (no t) × (InRange s op × (There s op × (May s (no t) op → ⊥))))

-- no call on the caller's level is
unlike : (b : Bool) {e : Refusal} → e ≢ e_oacv → refuse_if b e none ≡ some e_oacv → ⊥
unlike true n q = n (cc)
unlike false n q = let z : ◌≡◌ {A = ℕ} 0 1 = cc in omega arith

judged : (s : State) (t : ℕ) (op : Op) → after_ready s t op ≡ some e_oacv → OnObject op
judged s t (on_semaphore n a) h = tt
judged s t (on_queue n a) h = tt
judged s t (on_level Enter) h = unlike (leb max_level (level_at s t)) {e = e_sys} (λ q. let z : ◌≡◌ {A = ℕ} 0 1 = cc in omega arith) h
judged s t (on_level Leave) h = unlike (eqb (level_at s t) 0) {e = e_ctx} (λ q. let z : ◌≡◌ {A = ℕ} 0 1 = cc in omega arith) h

oacv_only : (s : State) (t : ℤ) (op : Op) → (step s (call t op)).answer.code ≡ error e_oacv → Denied s t op
unfolding step
oacv_only s t op q = go (checks s (no t) op) refl (ap (λ (o : Option Refusal). (act_if s (no t) (asks op) o).answer.code) (sym (checks_are s (no t) op)) ∙ q)
  where
    go : (o : Option Refusal) → checks s (no t) op ≡ o → (act_if s (no t) (asks op) o).answer.code ≡ error e_oacv → Denied s t op
    go none h k = absurd ((lawful op).undenied s (no t) k)
    go (some e) h k =
        let f : checks s (no t) op ≡ some e_oacv = cc in
        let h₁ = later (ready_tells s (no t)) e_ctx (after_ready s (no t) op) (λ q. let z : ◌≡◌ {A = ℕ} 0 1 = cc in omega arith) f in
        let o = judged s (no t) op h₁.1 in
        let h₂ = later (range_tells s op) e_id (after_range s (no t) op) (λ q. let z : ◌≡◌ {A = ℕ} 0 1 = cc in omega arith) (sym (goes_on s (no t) op o) ∙ h₁.1) in
        let h₃ = later (there_tells s op) e_noexs (after_there s (no t) op) (λ q. let z : ◌≡◌ {A = ℕ} 0 1 = cc in omega arith) h₂.1 in
        (o, (h₁.0, (h₂.0, (h₃.0, stopped (may_tells s (no t) op) e_oacv h₃.1))))

-- ---- the admission test by the level (request T-03): at level 0 it asks the caller's own domain, above it denies nobody
module _ (s : State) (t : ℤ) (op : Op) where
  abbrev Own : Bool
  Own = admitted (pattern_now s op) (domain_at s (no t))

  own_is : level_at s (no t) ≡ 0 → admitted (pattern_now s op) (running_at s (no t)) ≡ Own
  own_is e = ap (λ (k : ℕ). admitted (pattern_now s op) (running_of (domain_at s (no t)) k)) e

  pub outside_denied : OnObject op → Ready s (no t) → InRange s op → There s op → level_at s (no t) ≡ 0 → Own ≡ false → (step s (call t op)).answer ≡ refuses e_oacv
  outside_denied o r i h e f = oacv_when s t op o r i h (λ m. no_both (sym (own_is e) ∙ m) f)

  pub outside_only : level_at s (no t) ≡ 0 → (step s (call t op)).answer.code ≡ error e_oacv → Own ≡ true → ⊥
  outside_only e q m = (oacv_only s t op q).1.1.1.1 (own_is e ∙ m)

  pub inside_never : 0 < level_at s (no t) → (step s (call t op)).answer.code ≡ error e_oacv → ⊥
  inside_never h q = (oacv_only s t op q).1.1.1.1 (inside_admitted (pattern_now s op) (domain_at s (no t)) (level_at s (no t)) h)

pub oacv_exactly : (s : State) (t : ℤ) (op : Op) → ((step s (call t op)).answer.code ≡ error e_oacv → Denied s t op) × (Denied s t op → (step s (call t op)).answer.code ≡ error e_oacv)
oacv_exactly s t op = (oacv_only s t op, λ d. ap (λ (a : Answer). a.code) (oacv_when s t op d.0 d.1.0 d.1.1.0 d.1.1.1.0 d.1.1.1.1))
