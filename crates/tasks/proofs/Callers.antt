-- Who calls, and the task with a number. Assumes nothing.
use Prim.Native.Nat.{ℕ, suc, ◌-◌, ◌≤◌, ◌<◌}
use native.Mathlib.Omega.{arith}
use mathlib.Core.Path.{◌≡◌, refl, sym, ap, ◌∙◌}
use mathlib.Core.List.{List, ◌∷◌, ◌++◌}
use mathlib.Core.Logic.{◌≢◌}
use mathlib.Core.Bool.{true, false, not, ◌&&◌, and-false}
use lib.Dec.{eqb, leb}
use lib.IntN.{ℤ}
use lib.ListN.{length, get_or, length-append}
use borrow.Author.Tests.{le-leb, lt-leb, ne_eqb}
use Rattle.access.specs.Domains.{ordinal_of, numbered}
use Rattle.access.proofs.Ordinals.{numbered_none, numbered_some}
use Rattle.itron.specs.Limits.{max_tasks}
use Rattle.model.specs.Lists.{at}
use Rattle.model.specs.Waits.{absent}
use Rattle.model.specs.State.{TaskEntry, Waiter, no, no_task as no_entry}
use Rattle.model.proofs.Places.{nth}
use Rattle.model.proofs.Ordinals.{outside, within, Within}
use Rattle.tasks.specs.declared.task.Task.{Task}
use Rattle.tasks.specs.declared.state.Tasks.{Tasks}
use Rattle.std.specs.Prelude.{Option, Some, None}
use Rattle.tasks.specs.declared.wait.Caller.{Caller}
use Rattle.tasks.specs.View.{no_task, entries_of, waits_of}
use Rattle.tasks.specs.Form.{task_as, wait_for}
use Rattle.tasks.specs.Held.{Held, is_ready}
use Rattle.tasks.specs.Ends.{is_task, caller_of, task_of}
use Rattle.tasks.specs.declared.task.Wait.TheVariants.{Ready}
use Rattle.tasks.proofs.Places.{busy}
use Rattle.tasks.proofs.Waits.{ready_absent}
use Rattle.tasks.proofs.Back.{count_seen, entry_seen}

-- ---- who calls
module _ {t : Tasks} (h : Held t) (z : ℤ) where
  pub caller_none : None ≡ numbered (ordinal_of z t.count) → None ≡ caller_of (entries_of t) (waits_of t) (no z)
  caller_none e =
      let o : is_task (entries_of t) (no z) ≡ false = ap (λ (n : ℕ). not (eqb (no z) 0) && leb (no z) n) (sym (count_seen h)) ∙ outside z t.count (numbered_none (ordinal_of z t.count) (sym e)) in
      rw o

  module _ (k : ℕ) (e : Some k ≡ numbered (ordinal_of z t.count)) where
    at_number : Within z t.count k
    at_number = let n = numbered_some (ordinal_of z t.count) k (sym e) in within z t.count k n.0 n.1

    is_task_lem : is_task (entries_of t) (no z) ≡ true
    is_task_lem = ap (λ (m : ℕ). not (eqb (no z) 0) && leb (no z) m) (sym (count_seen h)) ∙ at_number.test

    pub caller_low : k - 1 < max_tasks
    caller_low = let l = at_number.low in let m = h.few in omega arith

    at_row : get_or t.entries (k - 1) no_task ≡ task_as (get_or (entries_of t) (k - 1) no_entry) (wait_for (suc (k - 1)) (waits_of t))
    at_row = entry_seen h (k - 1) (let c = count_seen h in let l = at_number.low in omega arith)

    ready_by : absent (no z) (waits_of t) ≡ is_ready (get_or t.entries (k - 1) no_task).wait
    ready_by = ap (λ (m : ℕ). absent m (waits_of t)) at_number.same ∙ sym (ap (λ (x : Task). is_ready x.wait) at_row ∙ ready_absent (suc (k - 1)) (waits_of t))

    pub caller_busy : (get_or t.entries (k - 1) no_task).wait ≢ Ready → None ≡ caller_of (entries_of t) (waits_of t) (no z)
    caller_busy b = rw (is_task_lem, ready_by, busy (get_or t.entries (k - 1) no_task).wait b)

    pub caller_ready : (get_or t.entries (k - 1) no_task).wait ≡ Ready → ◌≡◌ {A = Option Caller} (Some (record { task = k - 1; domain = (get_or t.entries (k - 1) no_task).domain })) (caller_of (entries_of t) (waits_of t) (no z))
    caller_ready b = let d = ap (λ (x : Task). x.domain) at_row in rw (is_task_lem, ready_by, ap is_ready b, at_number.same, d)

-- ---- the task with a number
module _ {t : Tasks} (h : Held t) (n : ℕ) where
  pub task_over : t.count < n → no_task ≡ task_of (entries_of t) (waits_of t) n
  task_over l = rw (lt-leb n (length (entries_of t)) (let c = count_seen h in omega arith), and-false (not (eqb n 0)))

  pub task_in_lem : n ≢ 0 → n ≤ t.count → get_or t.entries (n - 1) no_task ≡ task_of (entries_of t) (waits_of t) n
  task_in_lem z l =
      let c = count_seen h in
      let i : n ≡ suc (n - 1) = omega arith in
      entry_seen h (n - 1) (omega arith)
      ∙ sym (rw (ne_eqb n 0 z, le-leb n (length (entries_of t)) (omega arith)) (λ j. task_as (at no_entry (entries_of t) (i j)) (wait_for (i j) (waits_of t))))

-- ---- what is shown of a task, whatever its number: its entry's domain and priority
pub shown_entry : (l m : List TaskEntry) (x : TaskEntry) (ws : List Waiter) → ((task_of (l ++ (x ∷ m)) ws (suc (length l))).domain ≡ x.domain) × ((task_of (l ++ (x ∷ m)) ws (suc (length l))).priority ≡ x.priority)
shown_entry l m x ws =
    let c = length-append l (x ∷ m) in
    rw (ne_eqb (suc (length l)) 0 (λ e. omega (arith, e)), le-leb (suc (length l)) (length (l ++ (x ∷ m))) (omega (arith, c)), nth no_entry x l m) (refl, refl)
