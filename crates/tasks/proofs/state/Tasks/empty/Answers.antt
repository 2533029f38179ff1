-- `Tasks::empty` meets its contract. Assumes nothing.
use mathlib.Core.Path.{refl}
use Rattle.tasks.specs.Form.{tasks_as}
use Rattle.tasks.proofs.state.Tasks.empty.Goals as goal

pub returns : goal.returns
unfolding tasks_as
returns c = refl
