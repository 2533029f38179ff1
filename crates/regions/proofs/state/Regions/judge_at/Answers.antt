-- `Regions::judge_at` meets its contract: the area leaves the chain, a wish is denied, or neither. Assumes nothing.
use native.Mathlib.Omega.{arith}
use mathlib.Core.Path.{◌≡◌, ap, ◌∙◌}
use lib.ListN.{drop}
use mir.Facts.{to_z-of_z}
use Rattle.model.specs.Checks.{passed}
use Rattle.model.specs.Regions.{allows, judge_in}
use Rattle.regions.specs.declared.state.RegionInfo.{RegionInfo}
use Rattle.regions.specs.View.{regions_of, shown_as}
use Rattle.regions.proofs.Cells.{count_of}
use Rattle.regions.proofs.Checks.{judges, judged_at}
use Rattle.regions.proofs.state.Regions.judge_at.Goals as goal
use Rattle.regions.proofs.state.Regions.judge_at.Goals.{After-allows-allowed}

-- the ladder of both tests is the verdict
ladder : (c : After-allows-allowed) → let a = c.args in judges c.reaches-inside.result c.allows-allowed.result ≡ passed (judge_in (drop a.index (regions_of a.self)) a.domain a.base a.size a.wishes)
ladder c =
    let a = c.args in
    let n = count_of c.requires.held in
    let l = c.requires.low in
    let p = c.reaches-inside.ensures in
    let q = rw (to_z-of_z c.ranges.domain) at c.allows-allowed.ensures ∙ ap (λ (r : RegionInfo). allows (shown_as r) a.domain a.wishes) c.requires.same in
    (λ i. judges (p i) (q i)) ∙ judged_at (regions_of a.self) a.index (omega arith) a.domain a.base a.size a.wishes

pub returns-then-not-inside : goal.returns-then-not-inside
returns-then-not-inside c = rw c.if-not-inside.true at (ladder c.before)

pub returns-then-not-allowed : goal.returns-then-not-allowed
returns-then-not-allowed c = rw (c.if-not-inside.false, c.if-not-allowed.true) at (ladder c.before.before)

pub returns : goal.returns
returns c = rw (c.if-not-inside.false, c.if-not-allowed.false) at (ladder c.before.before)
