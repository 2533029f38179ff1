-- Demand 3 (document 01, "Pinning every answer down"): no reading is lost, doubled, swapped or smuggled in. One claim about the list of calls as a whole.
use Rattle.std.specs.Prelude.{◌≡◌, [], ℕ}
use Rattle.model.specs.Lists.{Each}
use Rattle.model.specs.State.{State, no_levels, sem_at, queue_at, domain_at, priority_at, level_at}
use Rattle.model.specs.Waits.{senders}
use Rattle.model.specs.History.{History, pending}
use Rattle.model.specs.LevelClaims.{by_none, Leveled}
use Rattle.model.specs.SemaphoreClaims.{by_semaphore, Counted}
use Rattle.model.specs.QueueClaims.{by_queue, Carried}
use Rattle.model.specs.Releases.{ReleasesWaiters}

-- ---- demand 3, of a history h (the newest call first) that began in the state s₀ and ended in s
pub record Demand3 (s₀ : State) (h : History) (s : State) : Type 0 where
  -- for every queue, of the calls as it saw them: every accepted word is in one place, in order; each came from and went to whom the queue's vector admitted as it ran then,
  -- and the waiting senders are those whose send answered "waiting" and whose release no later answer shows
  pub queues : (q : ℕ) → Carried (domain_at s₀) (priority_at s₀) (queue_at s₀ q) (by_queue q h) (queue_at s q).buffer (senders s q)
  -- for every semaphore: count + grants = start + accepted signals
  pub semaphores : (i : ℕ) → Counted (sem_at s₀ i).count (by_semaphore i h) (sem_at s i).count
  -- for every task: level + accepted leaves = accepted enters
  pub levels : (t : ℕ) → Leveled t (by_none h) (level_at s t)
  -- all who wait are exactly those whose call answered "waiting" and whose release no later answer shows, each where that call put it, in call order
  pub waiters_are : s.waits ≡ pending h
  -- every task that an answer shows released was waiting then, at the place that the call serves, and waits no longer
  pub releases : Each ReleasesWaiters h

-- what demand 3 needs of a table just closed: nobody waits, nothing is buffered and every task is at level 0 (an open table, which refuses every call, has it too)
pub record JustClosed (s : State) : Type 0 where
  pub no_waits : s.waits ≡ []
  pub no_words : (q : ℕ) → (queue_at s q).buffer ≡ []
  pub outside : s.levels ≡ no_levels s.fixed.tasks
