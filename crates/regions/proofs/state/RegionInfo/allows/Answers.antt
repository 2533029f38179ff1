-- `RegionInfo::allows` meets its contract: write, read, execute. Assumes nothing.
use mathlib.Core.Path.{refl}
use Rattle.regions.proofs.state.RegionInfo.allows.Goals as goal

pub has-requires-3 : goal.has-requires-3
has-requires-3 c = (2, refl)
