-- `entry::is_attribute` meets its contract. Assumes nothing.
use Rattle.regions.proofs.Bits.{no_others}
use Rattle.regions.proofs.entry.is_attribute.Goals as goal

pub returns : goal.returns
returns c = no_others c.args.attribute
