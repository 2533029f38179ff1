-- `Regions::empty` meets its contract. Assumes nothing.
use mathlib.Core.Path.{refl}
use Rattle.regions.specs.Form.{regions_as}
use Rattle.regions.proofs.state.Regions.empty.Goals as goal

pub returns : goal.returns
unfolding regions_as
returns c = refl
