-- `Tasks::ranked` meets its contract: who is first leaves, or nobody is left. Assumes nothing.
use Prim.Native.Nat.{ℕ, suc, ◌+◌, ◌-◌}
use native.Mathlib.Omega.{arith}
use mathlib.Core.Path.{◌≡◌, sym, ap, ◌∙◌}
use mathlib.Core.Bool.{true}
use mathlib.Core.List.{map}
use lib.ListN.{get_or}
use Rattle.tasks.specs.Ends.{task_in, task_number}
use Rattle.tasks.specs.Places.{place_in}
use Rattle.tasks.proofs.Firsts.{queue_at, none_behind, first_low, held_behind, behind}
use Rattle.tasks.proofs.state.Tasks.ranked.Goals as goal

pub returns-in_err-task : goal.returns-in_err-task
returns-in_err-task c =
    let v = c.ahead.invariant in
    ap task_number c.from_residual.ensures ∙ none_behind v.0 true (place_in c.args.place) c.in_err-task.ensures (c.args.k - c.ahead.counter) ∙ sym v.1

pub release-self-requires : goal.release-self-requires
release-self-requires c =
    let h = c.ahead.invariant.0 in
    (h, first_low h true (place_in c.args.place) c.in_ok-task.task c.in_ok-task.ensures)

pub ahead-preserved : goal.ahead-preserved
ahead-preserved c =
    let a = c.args in
    let v = c.ahead.invariant in
    let p = place_in a.place in
    let i = c.in_ok-task.task in
    let e = c.in_ok-task.ensures in
    let t = c.release-self.result in
    let n : a.k - c.ahead.counter ≡ suc (a.k - (c.ahead.counter + 1)) = omega arith in (
      held_behind v.0 true p i e t c.release-self.ensures,
      v.1 ∙ ap (λ (m : ℕ). get_or (map task_in (queue_at c.ahead.self true p)) m 0) n ∙ behind v.0 true p i e t c.release-self.ensures (a.k - (c.ahead.counter + 1)),
    )
