-- What the condition says of every state, in plain facts: whatever the object and wherever it stands. Assumes nothing.
use mathlib.Core.Path.{◌≡◌, refl, ap, ◌∙◌, subst}
use mathlib.Core.Logic.{◌≢◌, ◌⊎◌, inl, inr}
use mathlib.Core.Bool.{true, false, not}
use mathlib.Core.List.{List, [], ◌∷◌, ◌++◌}
use Prim.Native.Nat.{ℕ, zero, suc, ◌+◌, ◌^◌, ◌≤◌, ◌∣◌}
use lib.IntN.{ℤ, pos, negsuc}
use lib.ListN.{length}
use Rattle.itron.specs.Limits.{max_domains, max_tasks, max_priority, max_level, max_semaphores, max_queues, max_regions, max_words, max_count, max_capacity, address_end, max_unit_power}
use Rattle.model.specs.Lists.{at}
use Rattle.model.specs.State.{TaskEntry, Sem, Queue, Region, Waiter, Side, on_sem, receiving, sending, State, place, waiter, sem_at, queue_at, level_at}
use Rattle.model.specs.Waits.{waiters_at, is_other, absent}
use Rattle.model.specs.Queues.{words_used}
use Rattle.model.specs.Conditions.{Distinct, Known, WordFits, Plain, BufferFits, Bounded, Ascending, Whole, TaskOwner, Owner, TaskEntryFits, SemEntryFits, QueueEntryFits, RegionEntryFits, side_count, Registered, NoWords, Sound}
use Rattle.model.proofs.Units.{unit_tells}
use Rattle.model.proofs.LevelClaims.{none_inside}
use Rattle.model.proofs.Places.{all_each}
use Rattle.model.proofs.Lists.{cons_ne, no_both, eqb_same, and_left, and_right}

module _ (s : State) (k : Sound s) where
  -- ---- the sizes
  pub sizes : (s.fixed.count ≤ max_domains) × (length s.fixed.tasks ≤ max_tasks) × (length s.sems ≤ max_semaphores) × (length s.queues ≤ max_queues) × (length s.fixed.regions ≤ max_regions) × (words_used s.queues ≤ max_words)
  sizes = (k.entries.domains, k.fit.waits.tasks, k.fit.sems, k.fit.queues.few, k.fit.regions.few, k.fit.queues.words)

  -- ---- semaphores: the count is at most max, and 0 where somebody waits
  pub count_within : (i : ℕ) → (sem_at s i).count ≤ (sem_at s i).max
  count_within i = k.within i

  pub count_spent : (i : ℕ) (e : Waiter) (l : List Waiter) → waiters_at s (place on_sem i) ≡ e ∷ l → (sem_at s i).count ≡ 0
  count_spent i e l h = go (k.spent i)
    where
      go : (waiters_at s (place on_sem i) ≡ []) ⊎ ((sem_at s i).count ≡ 0) → (sem_at s i).count ≡ 0
      go (inl z) = absurd (cons_ne h z)
      go (inr z) = z

  -- ---- queues: who waits to receive finds nothing, who waits to send finds the buffer full
  pub receiver_finds_none : (q : ℕ) (e : Waiter) (l : List Waiter) → waiters_at s (place receiving q) ≡ e ∷ l → ((queue_at s q).buffer ≡ []) × (waiters_at s (place sending q) ≡ [])
  receiver_finds_none q e l h = go (k.fine q).idle
    where
      go : (waiters_at s (place receiving q) ≡ []) ⊎ (((queue_at s q).buffer ≡ []) × (waiters_at s (place sending q) ≡ [])) → ((queue_at s q).buffer ≡ []) × (waiters_at s (place sending q) ≡ [])
      go (inl z) = absurd (cons_ne h z)
      go (inr z) = z

  pub sender_finds_full : (q : ℕ) (e : Waiter) (l : List Waiter) → waiters_at s (place sending q) ≡ e ∷ l → (queue_at s q).capacity ≤ length (queue_at s q).buffer
  sender_finds_full q e l h = go (k.fine q).full
    where
      go : (waiters_at s (place sending q) ≡ []) ⊎ ((queue_at s q).capacity ≤ length (queue_at s q).buffer) → (queue_at s q).capacity ≤ length (queue_at s q).buffer
      go (inl z) = absurd (cons_ne h z)
      go (inr z) = z

  -- ---- who waits: a registered task, at a registered object, and no task twice
  pub waiter_registered : (a : List Waiter) (e : Waiter) (b : List Waiter) → s.waits ≡ a ++ e ∷ b → (e.task ≢ 0) × (e.task ≤ length s.fixed.tasks) × (e.place.number ≢ 0)
  waiter_registered a e b h =
      let t = all_each (Known (length s.fixed.tasks)) s.waits a b e h k.fit.waits.known in
      (t.0, t.1, (all_each Plain s.waits a b e h k.fit.waits.plain).0)

  pub place_registered : (a : List Waiter) (t n w : ℕ) (d : Side) (b : List Waiter) → s.waits ≡ a ++ waiter t d n w ∷ b
      → (d ≡ on_sem → (n ≤ length s.sems) × (w ≡ 0)) × (d ≡ receiving → (n ≤ length s.queues) × (w ≡ 0)) × (d ≡ sending → n ≤ length s.queues)
  place_registered a t n w d b h =
      let r = all_each (Registered s) s.waits a b (waiter t d n w) h k.registered in
      let p = (all_each Plain s.waits a b (waiter t d n w) h k.fit.waits.plain).1 in (
        (λ e. (subst (λ (x : Side). n ≤ side_count s x) e r, subst (λ (x : Side). WordFits x w) e p)),
        (λ e. (subst (λ (x : Side). n ≤ side_count s x) e r, subst (λ (x : Side). WordFits x w) e p)),
        (λ e. subst (λ (x : Side). n ≤ side_count s x) e r),
      )

  pub waits_once : (a : List Waiter) (e : Waiter) (b : List Waiter) (f : Waiter) (c : List Waiter) → s.waits ≡ a ++ e ∷ (b ++ f ∷ c) → e.task ≢ f.task
  waits_once a e b f c h z = first a (subst Distinct h k.fit.waits.distinct)
    where
      later : (b : List Waiter) → absent e.task (b ++ f ∷ c) ≡ true → ⊥
      later [] j = no_both (and_left (is_other e.task f) (absent e.task c) j) (rw z (ap not (eqb_same f.task)))
      later (y ∷ b) j = later b (and_right (is_other e.task y) (absent e.task (b ++ f ∷ c)) j)

      first : (a : List Waiter) → Distinct (a ++ e ∷ (b ++ f ∷ c)) → ⊥
      first [] j = later b j.0
      first (y ∷ a) j = first a j.1

  -- ---- what was entered
  -- a task's domain is the kernel's or one of 1 to n; -2 may own the rest; a priority is 1 to its limit; an order is 0 or 1
  abbrev Owned : ℤ → Type 0
  Owned d = (d ≡ negsuc 0) ⊎ ((j : ℕ) × ((d ≡ pos (suc j)) × (suc j ≤ s.fixed.count)))

  pub task_entered : (a : List TaskEntry) (x : TaskEntry) (b : List TaskEntry) → s.fixed.tasks ≡ a ++ x ∷ b → Owned x.domain × (1 ≤ x.priority) × (x.priority ≤ max_priority)
  task_entered a x b h = let f = all_each (TaskEntryFits s.fixed.count) s.fixed.tasks a b x h k.entries.tasks in (go x.domain f.0, f.1, f.2)
    where
      go : (d : ℤ) → TaskOwner s.fixed.count d → Owned d
      go (pos zero) o = absurd (o.0 refl)
      go (pos (suc j)) o = inr (j, (refl, o.1))
      go (negsuc zero) o = inl refl
      go (negsuc (suc j)) o = absurd o

  owner : (d : ℤ) → Owner s.fixed.count d → (d ≡ negsuc 1) ⊎ Owned d
  owner (pos zero) o = absurd (o.0 refl)
  owner (pos (suc j)) o = inr (inr (j, (refl, o.1)))
  owner (negsuc zero) o = inr (inl refl)
  owner (negsuc (suc zero)) o = inl refl
  owner (negsuc (suc (suc j))) o = absurd o

  pub semaphore_entered : (a : List Sem) (x : Sem) (b : List Sem) → s.sems ≡ a ++ x ∷ b → ((x.domain ≡ negsuc 1) ⊎ Owned x.domain) × ((x.attribute ≡ 0) ⊎ (x.attribute ≡ 1)) × (1 ≤ x.max) × (x.max ≤ max_count)
  semaphore_entered a x b h = let f = all_each (SemEntryFits s.fixed.count) s.sems a b x h k.entries.sems in (owner x.domain f.0, f.1, f.2, f.3)

  pub queue_entered : (a : List Queue) (x : Queue) (b : List Queue) → s.queues ≡ a ++ x ∷ b → ((x.domain ≡ negsuc 1) ⊎ Owned x.domain) × ((x.attribute ≡ 0) ⊎ (x.attribute ≡ 1)) × (x.capacity ≤ max_capacity) × (length x.buffer ≤ x.capacity)
  queue_entered a x b h = let f = all_each (QueueEntryFits s.fixed.count) s.queues a b x h k.entries.queues in (owner x.domain f.0, f.1, f.2, all_each BufferFits s.queues a b x h k.fit.queues.buffers)

  pub region_entered : (a : List Region) (x : Region) (b : List Region) → s.fixed.regions ≡ a ++ x ∷ b
      → ((x.domain ≡ negsuc 1) ⊎ Owned x.domain) × ((((x.attribute ≡ 0) ⊎ (x.attribute ≡ 1)) ⊎ (x.attribute ≡ 4)) ⊎ (x.attribute ≡ 5)) × (1 ≤ x.size) × (x.base + x.size ≤ address_end) × (s.fixed.unit ∣ x.base) × (s.fixed.unit ∣ x.size)
  region_entered a x b h =
      let f = all_each (RegionEntryFits s.fixed.count) s.fixed.regions a b x h k.entries.regions in
      let z = all_each Bounded s.fixed.regions a b x h k.fit.regions.bounded in
      let u = all_each (Whole s.fixed.unit) s.fixed.regions a b x h k.unit.whole in
      (owner x.domain f.0, f.1, z.0, z.1, u.0, u.1)

  -- none starts below the end of the one before it
  pub regions_ascend : (a : List Region) (x y : Region) (b : List Region) → s.fixed.regions ≡ a ++ x ∷ (y ∷ b) → x.base + x.size ≤ y.base
  regions_ascend a x y b h = go a (subst Ascending h k.fit.regions.ascending)
    where
      go : (a : List Region) → Ascending (a ++ x ∷ (y ∷ b)) → x.base + x.size ≤ y.base
      go [] j = j.0
      go (z ∷ []) j = j.1.0
      go (z ∷ (w ∷ a)) j = go (w ∷ a) j.1

  -- the unit is a power of two up to its limit
  pub unit_power : (e : ℕ) × ((e ≤ max_unit_power) × (s.fixed.unit ≡ 2 ^ e))
  unit_power = (unit_tells s.fixed.unit).yes k.unit.power

  -- ---- levels: each task has one, from 0 to its limit; before the closing it is 0
  pub level_each : length s.levels ≡ length s.fixed.tasks
  level_each = k.fit.levels.each

  pub level_bounded : (a : List ℕ) (n : ℕ) (b : List ℕ) → s.levels ≡ a ++ n ∷ b → n ≤ max_level
  level_bounded a n b h = all_each (λ (n : ℕ). n ≤ max_level) s.levels a b n h k.fit.levels.bounded

  pub open_outside : s.fixed.closed ≡ false → (t : ℕ) → level_at s t ≡ 0
  open_outside o t = ap (λ (l : List ℕ). at 0 l t) (k.outside o) ∙ none_inside s.fixed.tasks t

  -- ---- before the closing nobody waits and nothing is buffered
  pub open_quiet : s.fixed.closed ≡ false → (s.waits ≡ []) × ((a : List Queue) (x : Queue) (b : List Queue) → s.queues ≡ a ++ x ∷ b → x.buffer ≡ [])
  open_quiet o = (k.quiet o, (λ a x b h. all_each NoWords s.queues a b x h (k.empty o)))
