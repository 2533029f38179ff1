-- A release belongs to a wait: whom a call may release. Definitions only.
use Rattle.std.specs.Prelude.{◌≡◌, ◌≢◌, List, [], ◌∷◌, ℕ}
use Rattle.std.proofs.Math.Option.{Option, none, some}
use Rattle.itron.specs.Codes.{ok}
use Rattle.model.specs.Lists.{All, Some}
use Rattle.model.specs.State.{Side, Place, Waiter, place, no}
use Rattle.model.specs.Answers.{Released}
use Rattle.model.specs.Acts.{of_own}
use Rattle.model.specs.Calls.{Op, on_semaphore, on_queue, on_level}
use Rattle.model.specs.History.{Event, History, pending}
use Rattle.model.specs.SemaphoreClaims as Semaphores
use Rattle.model.specs.QueueClaims as Queues

-- ---- the place whose waiting tasks a call serves; a refer, a set-vector and a call on the caller's level serve nobody
abbrev pub place_of : ℕ → Option Side → Option Place
place_of n none = none
place_of n (some d) = some (place d n)

abbrev pub served_by : Op → Option Place
served_by (on_semaphore n a) = place_of (no n) (of_own none Semaphores.served_in a)
served_by (on_queue n a) = place_of (no n) (of_own none Queues.served_in a)
served_by (on_level c) = none

-- ---- task t is among those who wait, at that place; it is not among them
abbrev pub WaitsAt : Option Place → ℕ → List Waiter → Type 0
WaitsAt none t ws = ⊥
WaitsAt (some p) t ws = Some (λ (e : Waiter). (e.task ≡ t) × (e.place ≡ p)) ws

abbrev pub WaitsNot : ℕ → List Waiter → Type 0
WaitsNot t ws = All (λ (e : Waiter). e.task ≢ t) ws

-- ---- of a call e after the calls h, and a task that its answer shows released
pub record EndsWait (e : Event) (h : History) (r : Released) : Type 0 where
  -- the call is done
  pub done : e.answer.code ≡ ok
  -- the task was waiting, at the place that the call serves
  pub waited : WaitsAt (served_by e.call.op) r.task (pending h)
  -- and waits no longer
  pub ended : WaitsNot r.task (pending (e ∷ h))

-- no task is among them twice
abbrev pub Once : List Released → Type 0
Once [] = Unit
Once (r ∷ rs) = All (λ (x : Released). x.task ≢ r.task) rs × Once rs

pub record ReleasesWaiters (e : Event) (h : History) : Type 0 where
  pub each : All (EndsWait e h) e.answer.released
  pub once : Once e.answer.released
