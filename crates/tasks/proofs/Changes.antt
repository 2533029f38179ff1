-- Each change of the arrays is the change of what is seen. Assumes nothing.
use Prim.Native.Nat.{ℕ, zero, suc, ◌+◌, ◌<◌}
use native.Mathlib.Omega.{arith}
use mathlib.Core.Path.{◌≡◌, refl, sym, ap, ◌∙◌}
use mathlib.Core.Logic.{◌≢◌}
use mathlib.Core.Bool.{false}
use mathlib.Core.List.{List, [], ◌∷◌, ◌++◌, map}
use lib.IntN.{ℤ, pos, negsuc}
use lib.ListN.{length, get_or, set, length-map, length-append}
use mir.Syntax.{w8}
use mir.Val.{SFits}
use Rattle.arrays.specs.Pad.{pad}
use Rattle.arrays.proofs.Pads.{pad_take, pad_set, pad_snoc}
use Rattle.itron.specs.Limits.{max_domains, max_tasks}
use Rattle.model.specs.Lists.{index}
use Rattle.model.specs.State.{TaskEntry, Waiter, no_task as no_entry}
use Rattle.model.specs.Waits.{absent, leave, join}
use Rattle.model.specs.Conditions.{WaitsFit, TaskOwner}
use Rattle.model.proofs.Fits.{few, waits_join}
use Rattle.tasks.specs.declared.task.Wait.{Wait}
use Rattle.tasks.specs.declared.task.Wait.TheVariants.{Ready, OnSem, Receiving, Sending}
use Rattle.tasks.specs.declared.task.Task.{Task}
use Rattle.tasks.specs.declared.order.Order.{Order}
use Rattle.tasks.specs.declared.state.Tasks.{Tasks}
use Rattle.tasks.specs.View.{no_task, with_wait, entries_of, waits_of, waiter_of}
use Rattle.tasks.specs.Form.{task_as, tasks_as, tasks_from, wait_for, wait_in, index_in}
use Rattle.tasks.specs.Held.{Held, Free, is_ready}
use Rattle.tasks.specs.Orders.{order_of, arrivals, pushed, without}
use Rattle.tasks.proofs.Waits.{wait_snoc, wait_snoc_other, wait_gone, wait_stays}
use Rattle.tasks.proofs.Entries.{entries_length, entries_set, entries_snoc}
use Rattle.tasks.proofs.Orders.{push_form, order_gone, order_snoc}
use Rattle.tasks.proofs.Back.{entry_at, waiting_seen}

-- ---- the tasks with some fields replaced
abbrev pub with_waits : Tasks → List Task → Order → Tasks
with_waits t ts o = record { count = t.count; entries = ts; order = o }

-- one task does something else
abbrev pub doing : List Task → ℕ → Wait → List Task
doing ts t w = set ts t (with_wait (get_or ts t no_task) w)

abbrev pub others : Tasks → ℕ → List ℕ
others t i = without i (arrivals t.order)

abbrev pub released : Tasks → ℕ → Tasks
released t i = with_waits t (doing t.entries i Ready) (order_of (others t i))

abbrev pub joined : Tasks → ℕ → Wait → Tasks
joined t i w = with_waits t (doing t.entries i w) (pushed t.order i)

abbrev pub added : Tasks → TaskEntry → Tasks
added t d = record { count = t.count + 1; entries = set t.entries t.count (task_as d Ready); order = t.order }

-- ---- on the form
module _ (es : List TaskEntry) (ws l : List Waiter) where
  entries_form : (i : ℕ) (w : Wait) → i < length es → wait_for (suc i) l ≡ w → ((u : ℕ) → u ≢ suc i → wait_for u l ≡ wait_for u ws)
      → doing (pad max_tasks no_task (tasks_from 0 es ws)) i w ≡ pad max_tasks no_task (tasks_from 0 es l)
  entries_form i w h e f =
      let ts = tasks_from 0 es ws in
      let z : 0 + i ≡ i = omega arith in
      ap (λ (x : Task). set (pad max_tasks no_task ts) i (with_wait x w)) (entry_at es ws i h)
      ∙ pad_set no_task max_tasks ts i (task_as (get_or es i no_entry) w) (let q = entries_length 0 es ws in omega arith)
      ∙ ap (pad max_tasks no_task) (entries_set 0 es ws l i w h (ap (λ (k : ℕ). wait_for (suc k) l) z ∙ e) (λ u k. f u (λ q. k (q ∙ ap suc (sym z)))))

release_form : (es : List TaskEntry) (ws : List Waiter) → WaitsFit es ws → (i : ℕ) → i < length es → released (tasks_as es ws) i ≡ tasks_as es (leave (suc i) ws)
unfolding tasks_as
release_form es ws f i h =
    let l = leave (suc i) ws in
    let o : without i (arrivals (order_of (map index_in ws))) ≡ map index_in l = ap (without i) (pad_take 0 max_tasks (map index_in ws)) ∙ order_gone (length es) i ws f.known in
    let ts = entries_form es ws l i Ready h (wait_gone (suc i) ws) (λ u k. wait_stays u (suc i) ws k) in
    λ j. with_waits (tasks_as es ws) (ts j) (order_of (o j))

module _ (es : List TaskEntry) (ws : List Waiter) (f : WaitsFit es ws) (i : ℕ) (k : Free es ws i) where
  -- a waiting task with this index can join
  fits : (w : Wait) → is_ready w ≡ false → WaitsFit es (join (waiter_of (suc i) w) ws)
  fits Ready b = absurd (let z : ◌≡◌ {A = ℕ} 0 1 = cc in omega arith)
  fits (OnSem n) b = waits_join f (waiter_of (suc i) (OnSem n)) k.free ((λ q. omega arith), k.low) ((λ q. omega arith), refl)
  fits (Receiving n) b = waits_join f (waiter_of (suc i) (Receiving n)) k.free ((λ q. omega arith), k.low) ((λ q. omega arith), refl)
  fits (Sending n x) b = waits_join f (waiter_of (suc i) (Sending n x)) k.free ((λ q. omega arith), k.low) ((λ q. omega arith), tt)

  join_as : (w : Wait) (e : Waiter) → e.task ≡ suc i → wait_in e ≡ w → WaitsFit es (join e ws) → joined (tasks_as es ws) i w ≡ tasks_as es (join e ws)
  unfolding tasks_as
  join_as w e q r g =
      let l = join e ws in
      let n : length l ≡ length ws + 1 = length-append ws (e ∷ []) in
      let p = few g in
      let p' = f.tasks in
      let len = length-map ws index_in in
      let o : pushed (order_of (map index_in ws)) i ≡ order_of (map index_in l) =
      push_form (map index_in ws) i (omega arith)
      ∙ ap order_of (ap (λ (x : ℕ). map index_in ws ++ (x ∷ [])) (ap index (sym q)) ∙ sym (order_snoc e ws)) in
      let ts = entries_form es ws l i w k.low (ap (λ (x : ℕ). wait_for x l) (sym q) ∙ wait_snoc e ws (ap (λ (x : ℕ). absent x ws) q ∙ k.free) ∙ r) (λ u z. wait_snoc_other u e ws (λ y. z (y ∙ q))) in
      λ j. with_waits (tasks_as es ws) (ts j) (o j)

  join_form : (w : Wait) → is_ready w ≡ false → joined (tasks_as es ws) i w ≡ tasks_as es (join (waiter_of (suc i) w) ws)
  join_form Ready b = absurd (let z : ◌≡◌ {A = ℕ} 0 1 = cc in omega arith)
  join_form (OnSem n) b = join_as (OnSem n) (waiter_of (suc i) (OnSem n)) refl refl (fits (OnSem n) b)
  join_form (Receiving n) b = join_as (Receiving n) (waiter_of (suc i) (Receiving n)) refl refl (fits (Receiving n) b)
  join_form (Sending n x) b = join_as (Sending n x) (waiter_of (suc i) (Sending n x)) refl refl (fits (Sending n x) b)

add_form : (es : List TaskEntry) (ws : List Waiter) (d : TaskEntry) → length es < max_tasks → ws ≡ [] → added (tasks_as es ws) d ≡ tasks_as (es ++ (d ∷ [])) ws
unfolding tasks_as
add_form es ws d h e =
    let n : length es + 1 ≡ length (es ++ (d ∷ [])) = sym (length-append es (d ∷ [])) in
    let len = entries_length 0 es [] in
    let ts : set (pad max_tasks no_task (tasks_from 0 es [])) (length es) (task_as d Ready) ≡ pad max_tasks no_task (tasks_from 0 (es ++ (d ∷ [])) []) =
    ap (λ (m : ℕ). set (pad max_tasks no_task (tasks_from 0 es [])) m (task_as d Ready)) (sym len)
    ∙ pad_snoc no_task max_tasks (tasks_from 0 es []) (task_as d Ready) (omega arith)
    ∙ ap (pad max_tasks no_task) (entries_snoc 0 es d) in
    ap (λ (l : List Waiter). added (tasks_as es l) d) e
    ∙ (λ j. record { count = n j; entries = ts j; order = order_of (map index_in []) })
    ∙ ap (tasks_as (es ++ (d ∷ []))) (sym e)

-- a task's domain is a byte
pub owner_byte : (z : ℤ) → TaskOwner max_domains z → SFits w8 z
owner_byte (pos d) h = record { sfits = omega (arith, h.1) }
owner_byte (negsuc zero) h = record { sfits = omega arith }
owner_byte (negsuc (suc k)) h = absurd h

-- ---- on any tasks that are held
module _ {t : Tasks} (h : Held t) where
  -- with the task's new entry, and the order without it
  pub release_link : (i : ℕ) (x : Task) (o : Order) → i < length (entries_of t) → x ≡ with_wait (get_or t.entries i no_task) Ready → o ≡ order_of (others t i)
      → with_waits t (set t.entries i x) o ≡ tasks_as (entries_of t) (leave (suc i) (waits_of t))
  release_link i x o l e f = (λ j. with_waits t (set t.entries i (e j)) (f j)) ∙ ap (λ (y : Tasks). released y i) h.form ∙ release_form (entries_of t) (waits_of t) h.fit i l

  pub join_link : (i : ℕ) (w : Wait) (x : Task) (o : Order) → Free (entries_of t) (waits_of t) i → is_ready w ≡ false → x ≡ with_wait (get_or t.entries i no_task) w → o ≡ pushed t.order i
      → with_waits t (set t.entries i x) o ≡ tasks_as (entries_of t) (join (waiter_of (suc i) w) (waits_of t))
  join_link i w x o k b e f =
      (λ j. with_waits t (set t.entries i (e j)) (f j)) ∙ ap (λ (y : Tasks). joined y i w) h.form ∙ join_form (entries_of t) (waits_of t) h.fit i k w b

  pub add_link : (d : TaskEntry) → length (entries_of t) < max_tasks → waits_of t ≡ [] → added t d ≡ tasks_as (entries_of t ++ (d ∷ [])) (waits_of t)
  add_link d l e = ap (λ (x : Tasks). added x d) h.form ∙ add_form (entries_of t) (waits_of t) d l e

  -- who joins finds a place in the order
  pub join_room : (i : ℕ) → Free (entries_of t) (waits_of t) i → t.order.count < max_tasks
  join_room i k =
      let w = waiting_seen h in
      let x = waiter_of (suc i) (OnSem 0) in
      let f = few (fits (entries_of t) (waits_of t) h.fit i k (OnSem 0) refl) in
      let n = length-append (waits_of t) (x ∷ []) in
      let b = h.fit.tasks in
      omega arith
