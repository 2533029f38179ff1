-- Who is denied (document 01, "E_OACV exactly when denied"): what the checks ask of a call, and by which pattern it is judged after a list of calls. Definitions only.
use Rattle.std.specs.Prelude.{◌≡◌, ◌≢◌, true, false, List, [], ◌∷◌, ℕ, ◌≤◌, length, ℤ, pos}
use Rattle.access.specs.Patterns.{admitted}
use Rattle.access.specs.Vectors.{resolved}
use Rattle.itron.specs.Limits.{max_semaphores, max_queues}
use Rattle.model.specs.Lists.{All, at}
use Rattle.model.specs.State.{Vector, Waiter, State, zero_vector, domain_at, no}
use Rattle.model.specs.Table.{Entry, task, sem, queue, region}
use Rattle.model.specs.Calls.{Op, on_semaphore, on_queue, on_level}
use Rattle.model.specs.History.{History, vector_since}
use Rattle.model.specs.LevelClaims.{running_when, by_none}
use Rattle.model.specs.SemaphoreClaims as Semaphores
use Rattle.model.specs.QueueClaims as Queues

-- ---- what the checks before E_OACV ask
-- the table is closed and the caller is a registered ready task
abbrev pub Ready : State → ℕ → Type 0
Ready s t = (s.fixed.closed ≡ true) × (((t ≢ 0) × (t ≤ length s.fixed.tasks)) × All (λ (e : Waiter). t ≢ e.task) s.waits)

-- the call is on an object; a call on the caller's level is not, and no pattern judges it
abbrev pub OnObject : Op → Type 0
OnObject (on_semaphore n a) = Unit
OnObject (on_queue n a) = Unit
OnObject (on_level c) = ⊥

-- the number of the object that a call names, the limit of its kind, and how many of the kind are registered; a call on no object names none
pub record Named : Type 0 where
  pub number : ℤ
  pub most : ℕ
  pub registered : ℕ

abbrev pub named : State → Op → Named
named s (on_semaphore n a) = record { number = n; most = max_semaphores; registered = length s.sems }
named s (on_queue n a) = record { number = n; most = max_queues; registered = length s.queues }
named s (on_level c) = record { number = pos 0; most = 0; registered = 0 }

-- a number from 1 to the limit of its kind
abbrev pub InRange : State → Op → Type 0
InRange s op = (no (named s op).number ≢ 0) × (no (named s op).number ≤ (named s op).most)

-- the object is registered, which is not so where the answer is E_NOEXS
abbrev pub There : State → Op → Type 0
There s op = no (named s op).number ≤ (named s op).registered

-- ---- the vectors that entries gave to the objects of a kind, "given or default", in order
abbrev pub sem_vectors : List Entry → List Vector
sem_vectors [] = []
sem_vectors (task d p ∷ l) = sem_vectors l
sem_vectors (sem d a b m v ∷ l) = resolved d v ∷ sem_vectors l
sem_vectors (queue d a c v ∷ l) = sem_vectors l
sem_vectors (region d a b z v ∷ l) = sem_vectors l

abbrev pub queue_vectors : List Entry → List Vector
queue_vectors [] = []
queue_vectors (task d p ∷ l) = queue_vectors l
queue_vectors (sem d a b m v ∷ l) = queue_vectors l
queue_vectors (queue d a c v ∷ l) = resolved d v ∷ queue_vectors l
queue_vectors (region d a b z v ∷ l) = queue_vectors l

-- the pattern that governs a call after the entries l and the calls h: in the vector of the last accepted set-vector on its object, or else of its entry; without an object
-- there is none
abbrev pub pattern_since : List Entry → History → Op → ℕ
pattern_since l h (on_semaphore n a) = Semaphores.pattern_for (vector_since (at zero_vector (sem_vectors l) (no n)) (Semaphores.by_semaphore (no n) h)) a
pattern_since l h (on_queue n a) = Queues.pattern_for (vector_since (at zero_vector (queue_vectors l) (no n)) (Queues.by_queue (no n) h)) a
pattern_since l h (on_level c) = 0

-- ---- a call of task t in the state s, after the entries l and the calls h: it is on an object, the earlier checks pass, and the pattern does not admit the domain as which the caller ran, its level counted from those calls
pub record DeniedSince (l : List Entry) (h : History) (s : State) (t : ℤ) (op : Op) : Type 0 where
  pub object : OnObject op
  pub ready : Ready s (no t)
  pub numbered : InRange s op
  pub there : There s op
  pub denied : admitted (pattern_since l h op) (running_when (domain_at s) (no t) (by_none h)) ≡ false
