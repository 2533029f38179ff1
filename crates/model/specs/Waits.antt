-- The waiting tasks (document 01, "Calls on an open gateway"; priority order: request T-10). Definitions only.
use Rattle.std.specs.Prelude.{Bool, true, false, not, ◌&&◌, ◌||◌, List, [], ◌∷◌, ◌++◌, ℕ, eqb}
use Rattle.model.specs.Lists.{at, keep, arrange}
use Rattle.model.specs.State.{TaskEntry, Place, Waiter, State, Side, on_sem, receiving, sending, same_place, place, no_task, sem_at, queue_at}
use Rattle.model.specs.Answers.{Released, Effect, effect, say}
use Rattle.itron.specs.Codes.{ok, waiting, error}
use Rattle.itron.specs.declared.error.Error.{Error as Refusal}
use Rattle.itron.specs.declared.error.Error.TheVariants.{Tmout as e_tmout}
pub use Rattle.model.specs.declared.Patience.{Patience}
pub use Rattle.model.specs.declared.Patience.TheVariants.{Polling as polling, Forever as forever}

abbrev pub stands_at : Place → Waiter → Bool
stands_at p e = same_place p e.place

abbrev pub is_other : ℕ → Waiter → Bool
is_other t e = not (eqb t e.task)

-- the tasks that wait at a place, in the order in which they began to
abbrev pub waiters_in : List Waiter → Place → List Waiter
waiters_in l p = keep (stands_at p) l

abbrev pub waiters_at : State → Place → List Waiter
waiters_at s p = waiters_in s.waits p

-- ---- the attribute of an object at which tasks wait: 0, they stand as they came; 1, by priority
abbrev pub is_order : ℕ → Bool
is_order a = eqb a 0 || eqb a 1

abbrev pub by_priority : ℕ → Bool
by_priority a = eqb a 1

-- of tasks in the order in which they came, the wait queue: by priority, the most urgent first and those of equal priority as they came, or all as they came
abbrev pub standing : Bool → List TaskEntry → List Waiter → List Waiter
standing true ts l = arrange (λ (e : Waiter). (at no_task ts e.task).priority) l
standing false ts l = l

-- which of the two holds at a place; those who wait to receive stand as they came
abbrev pub order_of : State → Side → ℕ → Bool
order_of s on_sem i = by_priority (sem_at s i).attribute
order_of s receiving q = false
order_of s sending q = by_priority (queue_at s q).attribute

-- a wait queue: the tasks that wait at a place, first to last
abbrev pub wait_queue : State → Place → List Waiter
wait_queue s p = standing (order_of s p.side p.number) s.fixed.tasks (waiters_at s p)

abbrev pub senders : State → ℕ → List Waiter
senders s q = wait_queue s (place sending q)

abbrev pub receivers : State → ℕ → List Waiter
receivers s q = wait_queue s (place receiving q)

abbrev pub first_task : List Waiter → ℕ
first_task [] = 0
first_task (e ∷ l) = e.task

-- task t does not wait
abbrev pub absent : ℕ → List Waiter → Bool
absent t [] = true
absent t (e ∷ l) = is_other t e && absent t l

-- a released task leaves; a task that begins to wait comes last
abbrev pub leave : ℕ → List Waiter → List Waiter
leave t l = keep (is_other t) l

abbrev pub join : Waiter → List Waiter → List Waiter
join e l = l ++ (e ∷ [])

-- the released task with its word
abbrev pub freed : Waiter → ℕ → List Released
freed e w = record { task = e.task; word = w } ∷ []

-- ---- how a call on an object of any kind can end
module _ {R : Type 0} (ws : List Waiter) (rs : List R) where
  -- a refusal changes nothing
  abbrev pub refusal : Refusal → Effect R
  refusal e = effect (say (error e) 0 []) ws rs

  -- the caller gets a word, the waiting task e is released with another
  abbrev pub wakes : Waiter → ℕ → ℕ → Effect R
  wakes e word handed = effect (say ok word (freed e handed)) (leave e.task ws) rs

  -- a poll gives E_TMOUT; otherwise the caller waits, the last to come, and the answer is "waiting"
  abbrev pub or_waits : Patience → Waiter → Effect R
  or_waits polling e = refusal e_tmout
  or_waits forever e = effect (say waiting 0 []) (join e ws) rs

-- E_OK with a word, the records changed
abbrev pub gives : {R : Type 0} → List Waiter → List R → ℕ → Effect R
gives ws rs word = effect (say ok word []) ws rs
