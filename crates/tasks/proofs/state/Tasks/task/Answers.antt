-- `Tasks::task` meets its contract: within, any other number. Assumes nothing.
use native.Mathlib.Omega.{arith}
use Prim.Native.Nat.{ℕ}
use mathlib.Core.Path.{ap, ◌∙◌}
use lib.ListN.{get_or}
use Rattle.tasks.specs.View.{no_task}
use Rattle.tasks.proofs.Callers.{task_over, task_in_lem}
use Rattle.tasks.proofs.state.Tasks.task.Goals as goal

pub returns-in-Some : goal.returns-in-Some
returns-in-Some c =
    let n = c.in-Some.ensures in
    ap (λ (i : ℕ). get_or c.args.self.entries i no_task) n.1 ∙ task_in_lem c.requires c.args.number (λ z. omega (arith, n)) (omega (arith, n))

pub returns-in_default : goal.returns-in_default
returns-in_default c = let n = c.in-Some.ensures in task_over c.requires c.args.number (omega (arith, n))
