-- `Regions::region` meets its contract: past the last there is none. Assumes nothing.
use native.Mathlib.Omega.{arith}
use mathlib.Core.Path.{ap}
use Rattle.regions.specs.View.{regions_of, info_of}
use Rattle.regions.proofs.Cells.{count_of}
use Rattle.regions.proofs.Checks.{at_none}
use Rattle.regions.proofs.state.Regions.region.Goals as goal

pub returns-in_default : goal.returns-in_default
returns-in_default c =
    ap info_of (at_none (regions_of c.args.self) c.args.number (omega (arith, count_of c.requires, c.in-Some.ensures, c.if-index-self.false)))
