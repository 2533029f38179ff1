-- `Regions::add` meets its contract: the region goes into the first free cell of each array. Assumes nothing.
use native.Mathlib.Omega.{arith}
use mir.Facts.{to_z-of_z}
use Rattle.std.specs.Prelude.{Some as Given}
use Rattle.model.specs.Regions.{new_region}
use Rattle.regions.proofs.Cells.{count_of, enter_link}
use Rattle.regions.proofs.state.Regions.add.Goals as goal

pub bounds-self-index : goal.bounds-self-index
bounds-self-index c = let e = count_of c.requires.0 in omega arith

pub bounds-self-index-2 : goal.bounds-self-index-2
bounds-self-index-2 c = let e = count_of c.requires.0 in omega arith

pub bounds-self-index-3 : goal.bounds-self-index-3
bounds-self-index-3 c = let e = count_of c.requires.0 in omega arith

pub returns : goal.returns
returns c =
    let a = c.args in
    rw (to_z-of_z c.ranges.domain) (enter_link c.requires.0 (new_region a.domain a.attribute a.base a.size (Given a.vector)) c.requires.1)
