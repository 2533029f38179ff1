-- `Semaphores::semaphore` meets its contract. Assumes nothing.
use native.Mathlib.Omega.{arith}
use mathlib.Core.Path.{◌∙◌}
use Rattle.model.specs.State.{no_sem}
use Rattle.model.proofs.Lists.{at_past, at_index}
use Rattle.semaphore.specs.View.{sems_of}
use Rattle.semaphore.proofs.Back.{count_seen, get_seen}
use Rattle.semaphore.proofs.state.Semaphores.semaphore.Goals as goal

pub returns-then-self-number : goal.returns-then-self-number
returns-then-self-number c =
    at_past no_sem (sems_of c.args.self) c.args.number (let e = count_seen c.requires in omega arith)

pub returns : goal.returns
returns c =
    get_seen c.requires _ (let e = count_seen c.requires in omega arith) ∙ at_index no_sem (sems_of c.args.self) c.args.number c.if-number-eq0.false
