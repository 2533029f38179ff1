-- What the core holds (document 01, "What the core holds"; levels: request T-03). Definitions only.
use Rattle.std.specs.Prelude.{Bool, ◌&&◌, List, [], map, ℕ, zero, eqb, ℤ, pos, negsuc}
pub use Rattle.access.specs.declared.vector.Vector.{Vector}
pub use Rattle.model.specs.declared.sem.Semaphore.{Semaphore as Sem}
pub use Rattle.model.specs.declared.Side.{Side}
pub use Rattle.model.specs.declared.Side.TheVariants.{OnSem as on_sem, Receiving as receiving, Sending as sending}
use Rattle.access.specs.Domains.{running_of}
use Rattle.access.specs.Vectors.{uniform}
use Rattle.model.specs.Lists.{at}

-- a data queue, its buffered words the oldest first
pub record Queue : Type 0 where
  pub domain : ℤ
  pub attribute : ℕ
  pub capacity : ℕ
  pub buffer : List ℕ
  pub vector : Vector

-- a task, as its entry gave it
pub record TaskEntry : Type 0 where
  pub domain : ℤ
  pub priority : ℕ

-- a memory region
pub record Region : Type 0 where
  pub domain : ℤ
  pub attribute : ℕ
  pub base : ℕ
  pub size : ℕ
  pub vector : Vector

-- where a task waits: for the semaphore, to receive from the queue or to send to the queue of that number
pub record Place : Type 0 where
  pub side : Side
  pub number : ℕ

-- a waiting task: its number, where it waits, and the word that it sends (0 if it sends none)
pub record Waiter : Type 0 where
  pub task : ℕ
  pub place : Place
  pub word : ℕ

-- what no call changes: whether the table is closed, the number n of user domains, the protection unit, the tasks, the regions
pub record Fixed : Type 0 where
  pub closed : Bool
  pub count : ℕ
  pub unit : ℕ
  pub tasks : List TaskEntry
  pub regions : List Region

-- the state; `waits` has all waiting tasks in the order in which they began to wait, and a task that is not there is ready; `levels` has each task's level of extended service calls
pub record State : Type 0 where
  pub fixed : Fixed
  pub waits : List Waiter
  pub sems : List Sem
  pub queues : List Queue
  pub levels : List ℕ

-- every task gets a level, "0 at first"
abbrev pub no_levels : List TaskEntry → List ℕ
no_levels ts = map (λ (t : TaskEntry). 0) ts

-- ---- the state with another part: the only places where a whole state is written
abbrev pub state_with : Fixed → State
state_with f = record { fixed = f; waits = []; sems = []; queues = []; levels = no_levels f.tasks }

abbrev pub set_fixed : State → Fixed → State
set_fixed s f = record { fixed = f; waits = s.waits; sems = s.sems; queues = s.queues; levels = s.levels }

abbrev pub set_waits : State → List Waiter → State
set_waits s ws = record { fixed = s.fixed; waits = ws; sems = s.sems; queues = s.queues; levels = s.levels }

abbrev pub set_sems : State → List Sem → State
set_sems s xs = record { fixed = s.fixed; waits = s.waits; sems = xs; queues = s.queues; levels = s.levels }

abbrev pub set_queues : State → List Queue → State
set_queues s xs = record { fixed = s.fixed; waits = s.waits; sems = s.sems; queues = xs; levels = s.levels }

abbrev pub set_levels : State → List ℕ → State
set_levels s ks = record { fixed = s.fixed; waits = s.waits; sems = s.sems; queues = s.queues; levels = ks }

-- what is fixed, with another part
abbrev pub set_closed : Fixed → Bool → Fixed
set_closed f b = record { closed = b; count = f.count; unit = f.unit; tasks = f.tasks; regions = f.regions }

abbrev pub set_unit : Fixed → ℕ → Fixed
set_unit f u = record { closed = f.closed; count = f.count; unit = u; tasks = f.tasks; regions = f.regions }

abbrev pub set_tasks : Fixed → List TaskEntry → Fixed
set_tasks f ts = record { closed = f.closed; count = f.count; unit = f.unit; tasks = ts; regions = f.regions }

abbrev pub set_regions : Fixed → List Region → Fixed
set_regions f rs = record { closed = f.closed; count = f.count; unit = f.unit; tasks = f.tasks; regions = rs }

-- ---- objects by number; what has no such number is all zeros
-- a number as it counts objects: what is not positive is 0, which numbers none
abbrev pub no : ℤ → ℕ
no (pos n) = n
no (negsuc n) = zero

abbrev pub zero_vector : Vector
zero_vector = uniform 0

abbrev pub no_task : TaskEntry
no_task = record { domain = pos zero; priority = 0 }

abbrev pub no_sem : Sem
no_sem = record { domain = pos zero; attribute = 0; max = 0; count = 0; vector = zero_vector }

abbrev pub no_queue : Queue
no_queue = record { domain = pos zero; attribute = 0; capacity = 0; buffer = []; vector = zero_vector }

abbrev pub no_region : Region
no_region = record { domain = pos zero; attribute = 0; base = 0; size = 0; vector = zero_vector }

abbrev pub sem_at : State → ℕ → Sem
sem_at s i = at no_sem s.sems i

abbrev pub queue_at : State → ℕ → Queue
queue_at s q = at no_queue s.queues q

abbrev pub task_at : State → ℕ → TaskEntry
task_at s t = at no_task s.fixed.tasks t

abbrev pub domain_at : State → ℕ → ℤ
domain_at s t = (task_at s t).domain

abbrev pub priority_at : State → ℕ → ℕ
priority_at s t = (task_at s t).priority

abbrev pub level_at : State → ℕ → ℕ
level_at s t = at 0 s.levels t

-- the domain as which a task runs: its own, or inside extended service calls the kernel domain
abbrev pub running_at : State → ℕ → ℤ
running_at s t = running_of (domain_at s t) (level_at s t)

-- ---- places
abbrev pub place : Side → ℕ → Place
place d n = record { side = d; number = n }

abbrev pub side_number : Side → ℕ
side_number on_sem = 0
side_number receiving = 1
side_number sending = 2

abbrev pub same_side : Side → Side → Bool
same_side d e = eqb (side_number d) (side_number e)

abbrev pub same_place : Place → Place → Bool
same_place p r = same_side p.side r.side && eqb p.number r.number

abbrev pub waiter : ℕ → Side → ℕ → ℕ → Waiter
waiter t d n w = record { task = t; place = place d n; word = w }
