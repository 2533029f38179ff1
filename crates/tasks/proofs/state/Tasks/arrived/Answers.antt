-- `Tasks::arrived` meets its contract: one who stands elsewhere, who is asked for, and one ahead of it. Assumes nothing.
use Prim.Native.Nat.{ℕ, suc, ◌+◌}
use native.Mathlib.Omega.{arith}
use mathlib.Core.Path.{◌≡◌, sym, ap, ◌∙◌}
use mathlib.Core.List.{List}
use lib.ListN.{length, get_or}
use Rattle.tasks.specs.View.{waits_of}
use Rattle.tasks.specs.Places.{place_in}
use Rattle.tasks.proofs.Back.{index_low}
use Rattle.tasks.proofs.Waiters.{numbers_from, none_left, pass, found, count_off}
use Rattle.tasks.proofs.state.Tasks.arrived.Goals as goal
use Rattle.tasks.proofs.state.Tasks.arrived.Goals.{then-is_at+in-Some, else-is_at}

pub bounds-self-task : goal.bounds-self-task
bounds-self-task c = omega (arith, index_low c.requires _ c.as_slice-arrivals.ensures _ c.loop-task-test.true)

pub returns-in_default : goal.returns-in_default
unfolding waits_of
returns-in_default c =
    let a = c.args in
    let es = a.self.now.entries in
    let p = place_in a.place in
    let o = c.as_slice-arrivals.result.now in
    ap suc c.from-task.ensures ∙ sym (found es p o c.loop-task.task-index c.loop-task-test.true (cc) c.loop-task.ahead (omega (arith, c.in_default.ensures))) ∙ sym c.loop-task.invariant
    ∙ ap (λ (l : List ℕ). get_or (numbers_from es p l 0) a.k 0) c.as_slice-arrivals.ensures

pub loop-task-preserved : goal.loop-task-preserved
loop-task-preserved c =
    let a = c.args in
    let k = c.loop-task.ahead in
    let o = c.as_slice-arrivals.result.now in
    let i = c.loop-task.task-index in
    let n = numbers_from a.self.now.entries (place_in a.place) o in
    elim c.if-is_at.branch [
      | then-is_at+in-Some w ↦
          c.loop-task.invariant ∙ count_off a.self.now.entries (place_in a.place) o i c.loop-task-test.true (cc) k (λ z. omega (arith, z, w.in-Some.ensures.0)) ∙ ap (λ (m : ℕ). get_or (n (i + 1)) m 0) (sym (w.ahead-is ∙ w.in-Some.ensures.1))
      | else-is_at w ↦
          let e = pass a.self.now.entries (place_in a.place) o i c.loop-task-test.true (cc) in
          c.loop-task.invariant ∙ (λ j. get_or (e j) (sym w.ahead-is j) 0)
    ]

pub returns : goal.returns
unfolding waits_of
returns c =
    let a = c.args in
    let es = a.self.now.entries in
    let p = place_in a.place in
    let o = c.as_slice-arrivals.result.now in
    let i : c.loop-task.task-index ≡ length o = omega arith in
    let e = ap (numbers_from es p o) i ∙ none_left es p o in
    sym (c.loop-task.invariant ∙ ap (λ (m : List ℕ). get_or m c.loop-task.ahead 0) e) ∙ ap (λ (l : List ℕ). get_or (numbers_from es p l 0) a.k 0) c.as_slice-arrivals.ensures
