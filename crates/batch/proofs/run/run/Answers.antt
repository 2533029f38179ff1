-- `run::run` meets its contract: item by item. Assumes nothing.
use Prim.Native.Nat.{ℕ, ◌+◌}
use mathlib.Core.Path.{◌≡◌, sym, subst}
use mathlib.Core.List.{List}
use native.Mathlib.Omega.{arith}
use Rattle.batch.proofs.Loops.{Loop, loop_start, loop_next, loop_end}
use Rattle.batch.proofs.run.run.Goals as goal

pub loop-k-init : goal.loop-k-init
loop-k-init c = loop_start c.args.state c.args.calls.now c.args.answers.now c.requires

pub loop-k-preserved : goal.loop-k-preserved
loop-k-preserved c =
    let w = c.write.ensures in
    let n = loop_next c.loop-k.invariant c.step-next.ensures in
    let a = c.args in
    subst (λ (l : List ℕ). Loop a.state a.calls.now a.answers.now c.step-next.result.state l (c.loop-k.k + 1)) (sym w) n

pub returns : goal.returns
returns c =
    let k : c.loop-k.k ≡ c.count-made.result = omega arith in loop_end c.count-made.ensures k c.loop-k.invariant
