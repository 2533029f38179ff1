-- `Tasks::most_urgent` meets its contract: one who stands elsewhere, and one who is looked at. Assumes nothing.
use Prim.Native.Nat.{ℕ, suc, ◌+◌}
use mathlib.Core.List.{List}
use Rattle.std.specs.Prelude.{Some}
use Rattle.tasks.specs.Leads.{lead, lead_of, leader}
use Rattle.tasks.specs.Ends.{task_number}
use native.Mathlib.Omega.{arith}
use mathlib.Core.Path.{◌≡◌, sym, ap, ◌∙◌}
use lib.ListN.{length, get_or}
use Rattle.tasks.specs.View.{waits_of}
use Rattle.tasks.specs.Places.{place_in}
use Rattle.tasks.proofs.Back.{index_low}
use Rattle.tasks.proofs.Waiters.{numbers_from, none_left, pass, here}
use Rattle.tasks.proofs.Leads.{first_by, scan_next, scan_pass, scan_end}
use Rattle.tasks.proofs.Firsts.{first_ranked}
use Rattle.tasks.proofs.state.Tasks.most_urgent.Invariants.{rank_in}
use Rattle.tasks.proofs.state.Tasks.most_urgent.Goals as goal
use Rattle.tasks.proofs.state.Tasks.most_urgent.Goals.{then-is_at, else-is_at, After-map}
use Rattle.std.proofs.lemmas.Grind.{common_steps}

pub bounds-entries-task : goal.bounds-entries-task
bounds-entries-task c = omega (arith, index_low c.requires _ c.as_slice-arrivals.ensures _ c.loop-task-test.true)

pub bounds-entries-task-in-loop-task : goal.bounds-entries-task-in-loop-task
bounds-entries-task-in-loop-task c = omega (arith, index_low c.requires _ c.as_slice-arrivals.ensures _ c.loop-task-test.true)

pub loop-task-preserved : goal.loop-task-preserved
loop-task-preserved c =
    let a = c.args in
    let es = a.self.entries in
    let p = place_in a.place in
    let o = c.as_slice-arrivals.result.now in
    let i = c.loop-task.task-index in
    let n = numbers_from es p o in
    let v = c.loop-task.invariant in
    elim c.if-is_at.branch [
      | then-is_at w ↦
          scan_next (rank_in es) (n 0) (n i) (n (i + 1)) c.loop-task.lead c.if-is_at.lead v (get_or o i 0) (here es p o i c.loop-task-test.true (cc)) (w.lead-is ∙ ap Some (w.after.ensures ∙ ap (λ (j : ℕ). lead_of c.loop-task.lead (lead j (rank_in es (suc j)))) c.from-task.ensures))
      | else-is_at w ↦
          scan_pass (rank_in es) (n 0) (n i) (n (i + 1)) c.loop-task.lead c.if-is_at.lead v (pass es p o i c.loop-task-test.true (cc)) w.lead-is
    ]

task_of_lead : (c : After-map) → task_number c.map.result ≡ leader c.loop-task.lead
task_of_lead c = grind (arith, common_steps)

pub returns : goal.returns
unfolding waits_of
returns c =
    let a = c.args in
    let es = a.self.entries in
    let p = place_in a.place in
    let o = c.as_slice-arrivals.result.now in
    let n = numbers_from es p o in
    let i : c.loop-task.task-index ≡ length o = omega arith in
    task_of_lead c ∙ sym (scan_end (rank_in es) (n 0) (n c.loop-task.task-index) c.loop-task.lead (ap n i ∙ none_left es p o) c.loop-task.invariant)
    ∙ ap (λ (l : List ℕ). first_by (rank_in es) (numbers_from es p l 0)) c.as_slice-arrivals.ensures ∙ sym (first_ranked c.requires p)
