-- `Regions::reaches` meets its contract: the area ends in its first region, or it takes a walk. Assumes nothing.
use native.Mathlib.Omega.{arith}
use mathlib.Core.Path.{sym, ap, ◌∙◌}
use Rattle.model.specs.Regions.{end}
use Rattle.regions.specs.declared.state.RegionInfo.{RegionInfo}
use Rattle.regions.specs.View.{regions_of, shown_as}
use Rattle.regions.proofs.Cells.{count_of}
use Rattle.regions.proofs.Chains.{chain_ends}
use Rattle.regions.proofs.state.Regions.reaches.Goals as goal

pub returns-then-end : goal.returns-then-end
returns-then-end c =
    let a = c.args in
    let n = count_of c.requires.held in
    let l = c.requires.low in
    let e = c.end.ensures ∙ ap (λ (x : RegionInfo). end (shown_as x)) c.requires.same in
    let h = c.if-end.true in
    sym (chain_ends (regions_of a.self) a.end a.index (omega arith) (omega arith))
