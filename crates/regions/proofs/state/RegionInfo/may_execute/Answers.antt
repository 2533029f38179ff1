-- `RegionInfo::may_execute` meets its contract. Assumes nothing.
use mathlib.Core.Path.{refl}
use Rattle.regions.proofs.state.RegionInfo.may_execute.Goals as goal

pub has-requires : goal.has-requires
has-requires c = (2, refl)
