-- `Regions::at` meets its contract: the three cells of an index are its region. Assumes nothing.
use mathlib.Core.Path.{◌∙◌}
use Rattle.regions.proofs.Cells.{region_at}
use Rattle.regions.proofs.state.Regions.at.Goals as goal

pub returns : goal.returns
returns c = c.of.ensures ∙ region_at c.requires.0 c.args.index
