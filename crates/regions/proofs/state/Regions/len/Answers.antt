-- `Regions::len` meets its contract. Assumes nothing.
use Rattle.regions.proofs.Cells.{count_of}
use Rattle.regions.proofs.state.Regions.len.Goals as goal

pub returns : goal.returns
returns c = count_of c.requires
