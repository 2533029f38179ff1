-- Semaphores: their calls, their entries and what each call on one does (document 01; priority order: request T-10). Definitions only.
use Rattle.std.specs.Prelude.{Bool, true, false, ◌&&◌, List, [], ◌∷◌, ℕ, zero, suc, leb, ℤ}
use Rattle.std.proofs.Math.Option.{Option, none, some}
use Rattle.access.specs.Vectors.{resolved}
use Rattle.access.specs.Vectors.{Choice}
use Rattle.access.specs.declared.vector.Operation.{Operation}
use Rattle.access.specs.declared.vector.Operation.TheVariants.{Normal1, Normal2}
use Rattle.itron.specs.Codes.{Code}
use Rattle.itron.specs.declared.error.Error.TheVariants.{Qovr as e_qovr}
use Rattle.itron.specs.Limits.{max_count, max_semaphores}
pub use Rattle.model.specs.declared.sem.SemaphoreCall.{SemaphoreCall}
pub use Rattle.model.specs.declared.sem.SemaphoreCall.TheVariants.{Signal as signal, Acquire as acquire}
use Rattle.model.specs.declared.sem.SemaphoreRequest.{SemaphoreRequest}
use Rattle.model.specs.declared.sem.SemaphoreRequest.TheVariants as Request
use Rattle.model.specs.Lists.{at, put}
use Rattle.model.specs.State.{Vector, TaskEntry, Sem, Waiter, Place, on_sem, place, waiter, no_sem, set_waits, set_sems}
use Rattle.model.specs.Answers.{Effect, Info, when_ok}
use Rattle.model.specs.Waits.{Patience, waiters_in, is_order, by_priority, standing, first_task, refusal, wakes, or_waits, gives}
use Rattle.model.specs.Acts.{Act, own, refer, set_vector, Slots, clear}
use Rattle.model.specs.Rooms.{Room}

-- ---- the calls: signal, poll and wait (acquire)
-- signal is normal operation 1; poll and wait are normal operation 2
abbrev pub operation : SemaphoreCall → Operation
operation signal = Normal1
operation (acquire p) = Normal2

-- besides the checks of every call there are none
abbrev pub slots : List Waiter → List Sem → ℕ → SemaphoreCall → Slots
slots ws xs i c = clear

-- the wait that a call of task t begins, if it answers "waiting"
abbrev pub begins : ℕ → ℕ → SemaphoreCall → List Waiter
begins t i signal = []
begins t i (acquire p) = waiter t on_sem i 0 ∷ []

-- for who waits, the accepted call of the opposite kind is a signal
abbrev pub serves : ℕ → SemaphoreCall → Code → Option Place
serves i signal k = when_ok none (some (place on_sem i)) k
serves i (acquire p) k = none

-- what the program is asked for
abbrev pub act_of : SemaphoreRequest → Act SemaphoreCall
act_of (Request.Own c) = own c
act_of Request.Refer = refer
act_of (Request.SetVector v) = set_vector v

-- ---- the entry
-- 4. semaphore attributes other than 0 and 1 (priority order): E_RSATR
abbrev pub attribute_ok : ℕ → Bool
attribute_ok a = is_order a

-- 5. a semaphore needs 1 <= max <= 65,535 and 0 <= start <= max
abbrev pub numbers_ok : ℕ → ℕ → Bool
numbers_ok start max = leb 1 max && leb max max_count && leb start max

-- it starts at its start count
abbrev pub new_sem : ℤ → ℕ → ℕ → ℕ → Choice → Sem
new_sem d a b m v = record { domain = d; attribute = a; max = m; count = b; vector = resolved d v }

-- ---- the records
abbrev pub sem_in : List Sem → ℕ → Sem
sem_in xs i = at no_sem xs i

abbrev pub set_count : List Sem → ℕ → ℕ → List Sem
set_count xs i k = put xs i (record { domain = (sem_in xs i).domain; attribute = (sem_in xs i).attribute; max = (sem_in xs i).max; count = k; vector = (sem_in xs i).vector })

-- the wait queue of a semaphore
abbrev pub waiters_of : List TaskEntry → List Waiter → List Sem → ℕ → List Waiter
waiters_of ts ws xs i = standing (by_priority (sem_in xs i).attribute) ts (waiters_in ws (place on_sem i))

-- ---- the calls, once the checks are passed
-- with waiters, the first is released with E_OK and the count stays; otherwise at max E_QOVR; otherwise count plus 1
abbrev pub signal_by : List Waiter → List Sem → ℕ → List Waiter → Bool → Effect Sem
signal_by ws xs i (e ∷ l) full = wakes ws xs e 0 0
signal_by ws xs i [] true = refusal ws xs e_qovr
signal_by ws xs i [] false = gives ws (set_count xs i (suc (sem_in xs i).count)) 0

abbrev pub on_signal : List TaskEntry → List Waiter → List Sem → ℕ → Effect Sem
on_signal ts ws xs i = signal_by ws xs i (waiters_of ts ws xs i) (leb (sem_in xs i).max (sem_in xs i).count)

-- poll and wait by task t: count above 0: minus 1, E_OK; otherwise poll gives E_TMOUT and wait waits, the last to come
abbrev pub acquire_by : List Waiter → List Sem → ℕ → ℕ → Patience → ℕ → Effect Sem
acquire_by ws xs t i p (suc k) = gives ws (set_count xs i k) 0
acquire_by ws xs t i p zero = or_waits ws xs p (waiter t on_sem i 0)

abbrev pub on_acquire : List Waiter → List Sem → ℕ → ℕ → Patience → Effect Sem
on_acquire ws xs t i p = acquire_by ws xs t i p (sem_in xs i).count

abbrev pub does : List TaskEntry → List Waiter → List Sem → ℕ → ℕ → SemaphoreCall → Effect Sem
does ts ws xs t i signal = on_signal ts ws xs i
does ts ws xs t i (acquire p) = on_acquire ws xs t i p

-- refer: first waiter (0 if none), count, vector
abbrev pub told : List TaskEntry → List Waiter → List Sem → ℕ → Info
told ts ws xs i = record { first = first_task (waiters_of ts ws xs i); second = 0; amount = (sem_in xs i).count; vector = (sem_in xs i).vector }

abbrev pub with_vector : Sem → Vector → Sem
with_vector x v = record { domain = x.domain; attribute = x.attribute; max = x.max; count = x.count; vector = v }

-- ---- the room
abbrev pub room : Room SemaphoreCall Sem
room =
    record {
      most = max_semaphores;
      records = λ s. s.sems;
      with = λ s ws xs. set_sems (set_waits s ws) xs;
      nothing = no_sem;
      vector = λ x. x.vector;
      with_vector = with_vector;
      operation = operation;
      slots = slots;
      does = does;
      told = told;
      begins = begins;
      serves = serves;
    }
