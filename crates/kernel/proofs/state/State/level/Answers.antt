-- `State::level` meets its contract. Assumes nothing.
use native.Mathlib.Omega.{arith}
use mathlib.Core.Path.{◌∙◌}
use Rattle.kernel.proofs.Back.{tasks_held}
use Rattle.kernel.proofs.Levels.{level_numbered}
use Rattle.kernel.proofs.state.State.level.Goals as goal

pub len-requires : goal.len-requires
len-requires c = tasks_held c.requires

pub returns : goal.returns
returns c =
    let l = c.len.ensures in
    c.level.ensures ∙ level_numbered c.args.self c.args.number c.if-number-eq0.false (let h = c.if-len-number.false in omega arith)
