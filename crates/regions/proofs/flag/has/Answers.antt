-- `flag::has` meets its contract. Assumes nothing.
use Rattle.regions.proofs.Bits.{bit_left}
use Rattle.regions.proofs.flag.has.Goals as goal

pub returns : goal.returns
returns c = bit_left c.args.flags c.args.value c.requires
