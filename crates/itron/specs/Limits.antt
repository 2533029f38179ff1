-- The limits of documents 01 and 02, each written once. Definitions only.
use Rattle.std.specs.Prelude.{ℕ, ◌^◌}
use Rattle.itron.specs.declared.limit.Limits.{Limits}

-- user domains; also the bits of a pattern
abbrev pub max_domains : ℕ
max_domains = 32

-- tasks, semaphores, data queues and memory regions of a table
abbrev pub max_tasks : ℕ
max_tasks = 255

abbrev pub max_semaphores : ℕ
max_semaphores = 64

abbrev pub max_queues : ℕ
max_queues = 16

abbrev pub max_regions : ℕ
max_regions = 64

-- words of all data queues together, and of one
abbrev pub max_words : ℕ
max_words = 2048

abbrev pub max_capacity : ℕ
max_capacity = 256

-- the largest maximum count of a semaphore
abbrev pub max_count : ℕ
max_count = 65535

-- a task's priority is a number from 1, the most urgent, to this (request T-10)
abbrev pub max_priority : ℕ
max_priority = 16

-- a task's level is a number from 0, outside every extended service call, to this (request T-03)
abbrev pub max_level : ℕ
max_level = 255

-- 2^32, the first number that is no address
abbrev pub address_end : ℕ
address_end = 4294967296

-- the finest protection unit
abbrev pub min_unit : ℕ
min_unit = 1

-- a unit is a power of two, up to 2 to this power
abbrev pub max_unit_power : ℕ
max_unit_power = 16

-- all of them: what the program's numbers are tied to
abbrev pub limits : Limits
limits = record { domains = max_domains; tasks = max_tasks; semaphores = max_semaphores; queues = max_queues; regions = max_regions; words = max_words; capacity = max_capacity; count = max_count; priority = max_priority; level = max_level; addresses = address_end; finest = min_unit; coarsest = 2 ^ max_unit_power }
