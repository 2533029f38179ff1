-- What is seen of the form is what it was made of. Assumes nothing.
use Prim.Native.Nat.{ℕ, zero, suc, ◌+◌, ◌<◌}
use native.Mathlib.Omega.{arith}
use mathlib.Core.Path.{◌≡◌, refl, sym, ap, ◌∙◌, subst₂}
use mathlib.Core.List.{List, [], ◌∷◌, map}
use lib.ListN.{length, get_or, take, length-map}
use Rattle.arrays.specs.Pad.{pad}
use Rattle.arrays.proofs.Pads.{pad_get, pad_take}
use Rattle.itron.specs.Limits.{max_tasks}
use Rattle.model.specs.Lists.{at, All}
use Rattle.model.specs.State.{TaskEntry, Waiter, no_task as no_entry}
use Rattle.model.specs.Conditions.{WaitsFit, Known}
use Rattle.model.proofs.Fits.{few}
use Rattle.tasks.specs.declared.task.Task.{Task}
use Rattle.tasks.specs.declared.state.Tasks.{Tasks}
use Rattle.tasks.specs.View.{no_task, waiter_at, entry_of, entries_of, waits_of}
use Rattle.tasks.specs.Form.{task_as, tasks_as, tasks_from, wait_for, index_in}
use Rattle.tasks.specs.Orders.{arrivals}
use Rattle.tasks.specs.Held.{Held}
use Rattle.tasks.proofs.Waits.{number_back}
use Rattle.tasks.proofs.Entries.{entries_length, entries_seen, entries_get, entries_priority, waiters_back}

-- the entry of a task in the form
pub entry_at : (es : List TaskEntry) (ws : List Waiter) (i : ℕ) → i < length es → get_or (pad max_tasks no_task (tasks_from 0 es ws)) i no_task ≡ task_as (get_or es i no_entry) (wait_for (suc i) ws)
entry_at es ws i h =
    let e : suc (0 + i) ≡ suc i = omega arith in
    pad_get no_task max_tasks (tasks_from 0 es ws) i ∙ entries_get 0 es ws i h ∙ ap (λ (t : ℕ). task_as (get_or es i no_entry) (wait_for t ws)) e

pub back_entries : (es : List TaskEntry) (ws : List Waiter) → WaitsFit es ws → entries_of (tasks_as es ws) ≡ es
unfolding entries_of tasks_as
back_entries es ws f =
    let ts = tasks_from 0 es ws in
    ap (λ (n : ℕ). map entry_of (take n (pad max_tasks no_task ts))) (sym (entries_length 0 es ws))
    ∙ ap (map entry_of) (pad_take no_task max_tasks ts) ∙ entries_seen 0 es ws

pub back_waits : (es : List TaskEntry) (ws : List Waiter) → WaitsFit es ws → waits_of (tasks_as es ws) ≡ ws
unfolding waits_of tasks_as
back_waits es ws f =
    let ts = pad max_tasks no_task (tasks_from 0 es ws) in
    ap (map (waiter_at ts)) (pad_take 0 max_tasks (map index_in ws))
    ∙ waiters_back ts (length es) ws f.distinct f.known f.plain (λ i h. ap (λ (t : Task). t.wait) (entry_at es ws i h))

pub held_as : (es : List TaskEntry) (ws : List Waiter) → WaitsFit es ws → Held (tasks_as es ws)
unfolding tasks_as
held_as es ws f =
    let d = back_entries es ws f in
    let w = back_waits es ws f in
    record {
      form = λ i. tasks_as (sym d i) (sym w i);
      fit = subst₂ (λ (x : List TaskEntry) (y : List Waiter). WaitsFit x y) (sym d) (sym w) f;
      few = f.tasks;
      room = let a = few f in let b = f.tasks in omega (arith, length-map ws index_in);
    }

indexes_low : (n : ℕ) (l : List Waiter) → All (Known n) l → (i : ℕ) → i < length l → get_or (map index_in l) i 0 < n
indexes_low n [] k i h = absurd (omega arith)
indexes_low n (x ∷ l) k zero h = let b = number_back x.task k.0.0 in let m = k.0.1 in omega arith
indexes_low n (x ∷ l) k (suc i) h = indexes_low n l k.1 i (omega arith)

-- ---- of any tasks that are held
module _ {t : Tasks} (h : Held t) where
  pub count_seen : t.count ≡ length (entries_of t)
  unfolding tasks_as
  count_seen = ap (λ (x : Tasks). x.count) h.form

  pub order_seen : arrivals t.order ≡ map index_in (waits_of t)
  unfolding tasks_as
  order_seen = ap (λ (x : Tasks). arrivals x.order) h.form ∙ pad_take 0 max_tasks (map index_in (waits_of t))

  pub waiting_seen : t.order.count ≡ length (waits_of t)
  unfolding tasks_as
  waiting_seen = ap (λ (x : Tasks). x.order.count) h.form ∙ length-map (waits_of t) index_in

  pub entry_seen : (i : ℕ) → i < length (entries_of t) → get_or t.entries i no_task ≡ task_as (get_or (entries_of t) i no_entry) (wait_for (suc i) (waits_of t))
  unfolding tasks_as
  entry_seen i l = ap (λ (x : Tasks). get_or x.entries i no_task) h.form ∙ entry_at (entries_of t) (waits_of t) i l

  -- the priority of any task, and of none
  pub priority_seen : (n : ℕ) → (at no_task t.entries n).priority ≡ (at no_entry (entries_of t) n).priority
  unfolding tasks_as
  priority_seen zero = refl
  priority_seen (suc i) =
      ap (λ (x : Tasks). (get_or x.entries i no_task).priority) h.form
      ∙ ap (λ (x : Task). x.priority) (pad_get no_task max_tasks (tasks_from 0 (entries_of t) (waits_of t)) i) ∙ entries_priority 0 (entries_of t) (waits_of t) i

  -- who waits is a task
  pub order_low : (i : ℕ) → i < length (arrivals t.order) → get_or (arrivals t.order) i 0 < length (entries_of t)
  order_low i l =
      let e = ap (λ (o : List ℕ). get_or o i 0) order_seen in
      let k = indexes_low (length (entries_of t)) (waits_of t) h.fit.known i (omega (arith, ap length order_seen, length-map (waits_of t) index_in)) in
      omega arith

  pub index_low : (o : List ℕ) → o ≡ arrivals t.order → (i : ℕ) → i < length o → get_or o i 0 < max_tasks
  index_low o e i l =
      let low = order_low i (omega (arith, ap length e)) in
      let m = h.fit.tasks in
      omega (arith, ap (λ (x : List ℕ). get_or x i 0) e)
