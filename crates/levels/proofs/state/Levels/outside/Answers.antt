-- `Levels::outside` meets its contract. Assumes nothing.
use mathlib.Core.Path.{refl}
use Rattle.levels.specs.Form.{levels_as}
use Rattle.levels.proofs.state.Levels.outside.Goals as goal

pub returns : goal.returns
unfolding levels_as
returns c = refl
