-- What all states have in common: proved of what fresh gives, kept by every operation. Definitions only.
use Rattle.std.specs.Prelude.{◌≡◌, ◌≢◌, ◌⊎◌, true, false, List, [], ◌∷◌, ℕ, zero, suc, ◌≤◌, length, ℤ, pos, negsuc}
use Rattle.std.specs.Int.{◌∣◌}
use Rattle.itron.specs.Limits.{max_domains, max_tasks, max_priority, max_level, max_semaphores, max_queues, max_regions, max_words, max_capacity, max_count, address_end}
use Rattle.model.specs.Lists.{All}
use Rattle.model.specs.State.{TaskEntry, Sem, Waiter, Fixed, Side, on_sem, receiving, sending, State, Queue, Region, no_levels, place, queue_at, sem_at}
use Rattle.model.specs.Waits.{waiters_at, absent}
use Rattle.model.specs.Queues.{words_used}
use Rattle.model.specs.Units.{unit_ok}
use Rattle.model.specs.Regions.{end}

-- ---- the waiting tasks
-- no task waits twice
abbrev pub Distinct : List Waiter → Type 0
Distinct [] = Unit
Distinct (e ∷ l) = (absent e.task l ≡ true) × Distinct l

-- who waits is one of n tasks
abbrev pub Known : ℕ → Waiter → Type 0
Known n e = (e.task ≢ 0) × (e.task ≤ n)

-- it waits for a numbered object, and has a word only if it sends
abbrev pub WordFits : Side → ℕ → Type 0
WordFits on_sem w = w ≡ 0
WordFits receiving w = w ≡ 0
WordFits sending w = Unit

abbrev pub Plain : Waiter → Type 0
Plain e = (e.place.number ≢ 0) × WordFits e.place.side e.word

pub record WaitsFit (entries : List TaskEntry) (waits : List Waiter) : Type 0 where
  pub tasks : length entries ≤ max_tasks
  pub distinct : Distinct waits
  pub known : All (Known (length entries)) waits
  pub plain : All Plain waits

-- ---- the levels: each task has one, from 0 to its limit
pub record LevelsFit (entries : List TaskEntry) (levels : List ℕ) : Type 0 where
  pub each : length levels ≡ length entries
  pub bounded : All (λ (k : ℕ). k ≤ max_level) levels

-- ---- the data queues: no more words than the capacity, and within the total
abbrev pub BufferFits : Queue → Type 0
BufferFits q = length q.buffer ≤ q.capacity

pub record QueuesFit (queues : List Queue) : Type 0 where
  pub few : length queues ≤ max_queues
  pub words : words_used queues ≤ max_words
  pub buffers : All BufferFits queues

-- ---- the regions: each has bytes and ends within the addresses, and none starts below the end of the one before it
abbrev pub Bounded : Region → Type 0
Bounded r = (1 ≤ r.size) × (end r ≤ address_end)

abbrev pub Ascending : List Region → Type 0
Ascending [] = Unit
Ascending (r ∷ []) = Unit
Ascending (r ∷ (x ∷ l)) = (end r ≤ x.base) × Ascending (x ∷ l)

pub record RegionsFit (regions : List Region) : Type 0 where
  pub few : length regions ≤ max_regions
  pub bounded : All Bounded regions
  pub ascending : Ascending regions

-- ---- the protection unit is a power of two within its limit, and each region is made of whole units
abbrev pub Whole : ℕ → Region → Type 0
Whole unit r = (unit ∣ r.base) × (unit ∣ r.size)

pub record UnitFits (f : Fixed) : Type 0 where
  pub power : unit_ok f.unit ≡ true
  pub whole : All (Whole f.unit) f.regions

-- ---- the state keeps the limits of documents 01 and 02
pub record Fit (s : State) : Type 0 where
  pub waits : WaitsFit s.fixed.tasks s.waits
  pub levels : LevelsFit s.fixed.tasks s.levels
  pub sems : length s.sems ≤ max_semaphores
  pub queues : QueuesFit s.queues
  pub regions : RegionsFit s.fixed.regions

-- ---- what was entered: n, and what checks 3 to 5 let in (document 01, "Building the table")
-- whose an entry may be ("domain not -1, not -2 and not 1 to n, or -2 for a task: E_ID")
abbrev pub TaskOwner : ℕ → ℤ → Type 0
TaskOwner n (pos d) = (d ≢ 0) × (d ≤ n)
TaskOwner n (negsuc zero) = Unit
TaskOwner n (negsuc (suc k)) = ⊥

abbrev pub Owner : ℕ → ℤ → Type 0
Owner n (pos d) = (d ≢ 0) × (d ≤ n)
Owner n (negsuc zero) = Unit
Owner n (negsuc (suc zero)) = Unit
Owner n (negsuc (suc (suc k))) = ⊥

-- the attributes of a region ("region attribute bits other than 1 (no-write) and 4 (execute): E_RSATR")
abbrev pub RegionAttribute : ℕ → Type 0
RegionAttribute a = (((a ≡ 0) ⊎ (a ≡ 1)) ⊎ (a ≡ 4)) ⊎ (a ≡ 5)

-- its owner, and a priority from 1 to its limit
abbrev pub TaskEntryFits : ℕ → TaskEntry → Type 0
TaskEntryFits n x = TaskOwner n x.domain × (1 ≤ x.priority) × (x.priority ≤ max_priority)

-- attribute 0 or 1, the order in which its waiters stand
abbrev pub OrderAttribute : ℕ → Type 0
OrderAttribute a = (a ≡ 0) ⊎ (a ≡ 1)

-- "semaphore needs 1 <= max <= 65,535"; its count is in Within
abbrev pub SemEntryFits : ℕ → Sem → Type 0
SemEntryFits n x = Owner n x.domain × OrderAttribute x.attribute × (1 ≤ x.max) × (x.max ≤ max_count)

-- queue capacity 0 to its limit; the total is in QueuesFit
abbrev pub QueueEntryFits : ℕ → Queue → Type 0
QueueEntryFits n q = Owner n q.domain × OrderAttribute q.attribute × (q.capacity ≤ max_capacity)

-- its numbers are in RegionsFit and UnitFits
abbrev pub RegionEntryFits : ℕ → Region → Type 0
RegionEntryFits n r = Owner n r.domain × RegionAttribute r.attribute

-- "n from 0 to 32"; owner, attribute and numbers of every entry
pub record EntriesFit (s : State) : Type 0 where
  pub domains : s.fixed.count ≤ max_domains
  pub tasks : All (TaskEntryFits s.fixed.count) s.fixed.tasks
  pub sems : All (SemEntryFits s.fixed.count) s.sems
  pub queues : All (QueueEntryFits s.fixed.count) s.queues
  pub regions : All (RegionEntryFits s.fixed.count) s.fixed.regions

-- ---- who waits, waits at a registered object
-- how many objects there are at which a task can wait on a side
abbrev pub side_count : State → Side → ℕ
side_count s on_sem = length s.sems
side_count s receiving = length s.queues
side_count s sending = length s.queues

abbrev pub Registered : State → Waiter → Type 0
Registered s e = e.place.number ≤ side_count s e.place.side

-- ---- a semaphore's count is at most its max; who waits on one finds its count at 0
abbrev pub Within : State → Type 0
Within s = (i : ℕ) → (sem_at s i).count ≤ (sem_at s i).max

abbrev pub Spent : State → ℕ → Type 0
Spent s i = (waiters_at s (place on_sem i) ≡ []) ⊎ ((sem_at s i).count ≡ 0)

-- nothing is buffered
abbrev pub NoWords : Queue → Type 0
NoWords q = q.buffer ≡ []

-- what is seen of one queue; of those who wait, in whatever order
pub record QView : Type 0 where
  pub capacity : ℕ
  pub buffer : List ℕ
  pub senders : List Waiter
  pub receivers : List Waiter

abbrev pub qview : ℕ → List ℕ → List Waiter → List Waiter → QView
qview c b x y = record { capacity = c; buffer = b; senders = x; receivers = y }

abbrev pub qview_of : State → ℕ → QView
qview_of s q = qview (queue_at s q).capacity (queue_at s q).buffer (waiters_at s (place sending q)) (waiters_at s (place receiving q))

-- who waits to receive finds nothing; who waits to send finds no room
pub record QueueOk (v : QView) : Type 0 where
  pub idle : (v.receivers ≡ []) ⊎ ((v.buffer ≡ []) × (v.senders ≡ []))
  pub full : (v.senders ≡ []) ⊎ (v.capacity ≤ length v.buffer)

-- the condition
pub record Sound (s : State) : Type 0 where
  pub fit : Fit s
  pub entries : EntriesFit s
  pub registered : All (Registered s) s.waits
  pub within : Within s
  pub spent : (i : ℕ) → Spent s i
  pub fine : (q : ℕ) → QueueOk (qview_of s q)
  pub unit : UnitFits s.fixed
  -- before the table is closed nobody waits, nothing is buffered and every task is at level 0
  pub quiet : s.fixed.closed ≡ false → s.waits ≡ []
  pub empty : s.fixed.closed ≡ false → All NoWords s.queues
  pub outside : s.fixed.closed ≡ false → s.levels ≡ no_levels s.fixed.tasks
