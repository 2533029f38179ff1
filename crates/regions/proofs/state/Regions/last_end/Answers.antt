-- `Regions::last_end` meets its contract: no region, or the one at the last index. Assumes nothing.
use native.Mathlib.Omega.{arith}
use mathlib.Core.Path.{ap, ◌∙◌}
use Rattle.model.specs.Regions.{end}
use Rattle.regions.specs.declared.state.RegionInfo.{RegionInfo}
use Rattle.regions.specs.View.{regions_of, shown_as}
use Rattle.regions.proofs.Cells.{count_of}
use Rattle.regions.proofs.Checks.{end_none, end_at}
use Rattle.regions.proofs.state.Regions.last_end.Goals as goal

pub returns-in_default : goal.returns-in_default
returns-in_default c = end_none (regions_of c.args.self) (omega (arith, count_of c.requires, c.in_default.ensures))

pub returns : goal.returns
returns c =
    c.end.ensures
    ∙ ap (λ (x : RegionInfo). end (shown_as x)) c.at.ensures
    ∙ end_at (regions_of c.args.self) c.in-Some.last (omega (arith, count_of c.requires, c.in-Some.ensures))
