-- `Regions::check` meets its contract, in the order of the checks. Assumes nothing.
use Rattle.model.proofs.Units.{unit_pos}
use Rattle.regions.proofs.state.Regions.check.Goals as goal

pub is_whole-requires : goal.is_whole-requires
is_whole-requires c = unit_pos c.args.self.unit c.requires.power
