-- Who is first at a place, in either order. Assumes nothing.
use Prim.Native.Nat.{ℕ, zero, suc, ◌≤◌, ◌<◌}
use native.Mathlib.Omega.{arith}
use mathlib.Core.Path.{◌≡◌, refl, sym, ap, ◌∙◌, subst}
use mathlib.Core.Bool.{Bool, true}
use mathlib.Core.List.{List, [], ◌∷◌, map}
use lib.ListN.{length, get_or}
use Rattle.itron.specs.Limits.{max_tasks}
use Rattle.model.specs.Lists.{index, at, All}
use Rattle.model.specs.State.{Waiter, Place, no_task as no_entry}
use Rattle.model.specs.Waits.{stands_at, is_other, waiters_in, standing, first_task, leave}
use Rattle.model.specs.Conditions.{Known, WaitsFit}
use Rattle.model.proofs.Lists.{all_keep, keep_comm, distinct_keep}
use Rattle.model.proofs.Fits.{waits_leave}
use Rattle.model.proofs.Order.{standing_all, standing_leaves}
use Rattle.tasks.specs.declared.task.Task.{Task}
use Rattle.tasks.specs.declared.state.Tasks.{Tasks}
use Rattle.tasks.specs.declared.wait.First.{First}
use Rattle.std.specs.Prelude.{Option, Some, None, unwrap_or}
use Rattle.tasks.specs.View.{no_task, waiter_of, waiter_at, entries_of, waits_of}
use Rattle.tasks.specs.Orders.{arrivals}
use Rattle.tasks.specs.Form.{tasks_as}
use Rattle.tasks.specs.Held.{Held}
use Rattle.tasks.specs.Ends.{first_of, task_in}
use Rattle.tasks.proofs.Waits.{number_back}
use Rattle.tasks.proofs.Back.{back_entries, back_waits, held_as, priority_seen}
use Rattle.tasks.proofs.Leads.{map_arrange, first_by}
use Rattle.tasks.proofs.Places.{word_any, task_any}

-- ---- from what was found
some_is : {x : First} (y : First) → Some x ≡ Some y → x ≡ y
some_is y e = ap (λ (o : Option First). unwrap_or o y) e

pub no_first : (l : List Waiter) → first_of l ≡ None → l ≡ []
no_first [] e = refl
no_first (x ∷ l) e = absurd (let z : ◌≡◌ {A = ℕ} 0 1 = cc in omega arith)

-- the tasks that stand at a place, by priority or as they came
abbrev pub queue_at : Tasks → Bool → Place → List Waiter
queue_at t b p = standing b (entries_of t) (waiters_in (waits_of t) p)

-- what holds of all who wait
all_there : (t : Tasks) (b : Bool) (p : Place) (P : Waiter → Type 0) → All P (waits_of t) → All P (queue_at t b p)
all_there t b p P k = standing_all b (entries_of t) P (waiters_in (waits_of t) p) (all_keep P (stands_at p) (waits_of t) k)

known_there : {t : Tasks} → Held t → (b : Bool) (p : Place) → All (Known (length (entries_of t))) (queue_at t b p)
known_there {t} h b p = all_there t b p (Known (length (entries_of t))) h.fit.known

-- the task with index i is the first at a place, with a word
pub record Waits (t : Tasks) (b : Bool) (p : Place) (i w : ℕ) : Type 0 where
  pub entry : Waiter
  pub rest : List Waiter
  pub list : standing b (entries_of t) (waiters_in (waits_of t) p) ≡ entry ∷ rest
  pub task : entry.task ≡ suc i
  pub word : entry.word ≡ w
  pub low : i < length (entries_of t)

pub waits : {t : Tasks} → Held t → (b : Bool) (p : Place) (i w : ℕ) → first_of (standing b (entries_of t) (waiters_in (waits_of t) p)) ≡ Some (record { task = i; word = w }) → Waits t b p i w
waits {t} h b p i w e = go (queue_at t b p) refl e (known_there h b p)
  where
    go : (l : List Waiter) → queue_at t b p ≡ l → first_of l ≡ Some (record { task = i; word = w }) → All (Known (length (entries_of t))) l → Waits t b p i w
    go [] q e k = absurd (let z : ◌≡◌ {A = ℕ} 0 1 = cc in omega arith)
    go (x ∷ l) q e k =
        let f = some_is (record { task = i; word = w }) e in
        let j : index x.task ≡ i = ap (λ (y : First). y.task) f in
        let n : x.task ≡ suc i = sym (number_back x.task k.0.0) ∙ ap suc j in
        let m = k.0.1 in
        record { entry = x; rest = l; list = q; task = n; word = ap (λ (y : First). y.word) f; low = omega arith }

-- ---- from the number of the first
pub first_task_lem : (l : List Waiter) → get_or (map task_in l) 0 0 ≡ first_task l
first_task_lem [] = refl
first_task_lem (x ∷ l) = refl

-- each of those who wait is the one that its own entry shows
abbrev Shown : List Task → Waiter → Type 0
Shown ts e = waiter_at ts (index e.task) ≡ e

shown : (ts : List Task) (o : List ℕ) → All (Shown ts) (map (waiter_at ts) o)
shown ts [] = tt
shown ts (i ∷ o) = (ap (λ (n : ℕ). waiter_at ts (index n)) (task_any (suc i) (get_or ts i no_task).wait), shown ts o)

module _ {t : Tasks} (h : Held t) (b : Bool) (p : Place) where
  -- the numbers of those who stand there are of tasks
  pub nth_low : (k : ℕ) → get_or (map task_in (queue_at t b p)) k 0 ≤ length (entries_of t)
  nth_low k = go (queue_at t b p) k (known_there h b p)
    where
      go : (l : List Waiter) (k : ℕ) → All (Known (length (entries_of t))) l → get_or (map task_in l) k 0 ≤ length (entries_of t)
      go [] k a = omega arith
      go (x ∷ l) zero a = a.0.1
      go (x ∷ l) (suc k) a = go l k a.1

  -- ---- nobody is the first
  module _ (e : 0 ≡ first_task (queue_at t b p)) where
    nobody : queue_at t b p ≡ []
    nobody = go (queue_at t b p) e (known_there h b p)
      where
        go : (l : List Waiter) → 0 ≡ first_task l → All (Known (length (entries_of t))) l → l ≡ []
        go [] e k = refl
        go (x ∷ l) e k = absurd (k.0.0 (sym e))

    pub first_none : None ≡ first_of (queue_at t b p)
    first_none = sym (ap first_of nobody)

    pub none_behind : (k : ℕ) → 0 ≡ get_or (map task_in (queue_at t b p)) k 0
    none_behind k = sym (ap (λ (l : List Waiter). get_or (map task_in l) k 0) nobody)

  -- ---- the task with this index is
  module _ (i : ℕ) (e : suc i ≡ first_task (queue_at t b p)) where
    pub first_low : i < length (entries_of t)
    first_low = let l = nth_low 0 in omega (arith, e, first_task_lem (queue_at t b p))

    pub first_few : i < max_tasks
    first_few = let l = first_low in let m = h.fit.tasks in omega arith

    pub first_found : ◌≡◌ {A = Option First} (Some (record { task = i; word = (waiter_of 0 (get_or t.entries i no_task).wait).word })) (first_of (queue_at t b p))
    unfolding waits_of
    first_found = go (queue_at t b p) e (all_there t b p (Shown t.entries) (shown t.entries (arrivals t.order)))
      where
        go : (l : List Waiter) → suc i ≡ first_task l → All (Shown t.entries) l → ◌≡◌ {A = Option First} (Some (record { task = i; word = (waiter_of 0 (get_or t.entries i no_task).wait).word })) (first_of l)
        go [] e k = absurd (omega (arith, e))
        go (x ∷ l) e k =
            let n : i ≡ index x.task = ap index e in
            let w = ap (λ (j : ℕ). (waiter_of 0 (get_or t.entries j no_task).wait).word) n ∙ sym (word_any (suc (index x.task)) (get_or t.entries (index x.task) no_task).wait) ∙ ap (λ (y : Waiter). y.word) k.0 in
            λ j. Some (record { task = n j; word = w j })

    -- it leaves
    module _ (t' : Tasks) (g : t' ≡ tasks_as (entries_of t) (leave (suc i) (waits_of t))) where
      fits : WaitsFit (entries_of t) (leave (suc i) (waits_of t))
      fits = waits_leave h.fit (suc i)

      pub held_behind : Held t'
      held_behind = subst Held (sym g) (held_as (entries_of t) (leave (suc i) (waits_of t)) fits)

      -- the others stand as they stood
      pub behind : (k : ℕ) → get_or (map task_in (queue_at t b p)) (suc k) 0 ≡ get_or (map task_in (queue_at t' b p)) k 0
      behind k = go (queue_at t b p) refl e
        where
          seen : queue_at t' b p ≡ standing b (entries_of t) (leave (suc i) (waiters_in (waits_of t) p))
          seen =
              let ws = leave (suc i) (waits_of t) in
              let u = ap entries_of g ∙ back_entries (entries_of t) ws fits in
              let v = ap waits_of g ∙ back_waits (entries_of t) ws fits in
              (λ j. standing b (u j) (waiters_in (v j) p)) ∙ ap (standing b (entries_of t)) (keep_comm (stands_at p) (is_other (suc i)) (waits_of t))

          go : (l : List Waiter) → queue_at t b p ≡ l → suc i ≡ first_task l → get_or (map task_in (queue_at t b p)) (suc k) 0 ≡ get_or (map task_in (queue_at t' b p)) k 0
          go [] f e = absurd (omega (arith, e))
          go (x ∷ l) f e =
              let r : queue_at t' b p ≡ l = seen ∙ ap (λ (y : ℕ). standing b (entries_of t) (leave y (waiters_in (waits_of t) p))) e
              ∙ standing_leaves b (entries_of t) (waiters_in (waits_of t) p) (distinct_keep (stands_at p) (waits_of t) h.fit.distinct) f in
              ap (λ (y : List Waiter). get_or (map task_in y) (suc k) 0) f ∙ ap (λ (y : List Waiter). get_or (map task_in y) k 0) (sym r)

-- ---- by priority, from the numbers of those who wait and the priorities in the array
pub first_ranked : {t : Tasks} → Held t → (p : Place) → first_task (standing true (entries_of t) (waiters_in (waits_of t) p)) ≡ first_by (λ (n : ℕ). (at no_task t.entries n).priority) (map task_in (waiters_in (waits_of t) p))
first_ranked {t} h p =
    let l = waiters_in (waits_of t) p in
    sym (first_task_lem (queue_at t true p))
    ∙ ap (λ (m : List ℕ). get_or m 0 0) (map_arrange task_in (λ (n : ℕ). (at no_entry (entries_of t) n).priority) l)
    ∙ sym (λ j. first_by (λ (n : ℕ). priority_seen h n j) (map task_in l))
