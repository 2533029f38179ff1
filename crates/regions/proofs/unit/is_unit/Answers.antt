-- `regions::unit::is_unit` meets its contract: one bit is a power of two. Assumes nothing.
use Rattle.regions.proofs.Units.{unit_bit}
use Rattle.regions.proofs.unit.is_unit.Goals as goal

pub returns : goal.returns
returns c = unit_bit c.args.unit
