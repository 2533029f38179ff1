-- The condition of the regions' part of the state. Definitions only.
use Rattle.std.specs.Prelude.{ℕ, ◌≤◌, ◌<◌, ◌≡◌, true, get_or}
use Rattle.itron.specs.Limits.{max_regions}
use Rattle.model.specs.State.{no_region}
use Rattle.model.specs.Units.{unit_ok}
use Rattle.model.specs.Conditions.{RegionsFit}
use Rattle.regions.specs.declared.state.RegionInfo.{RegionInfo}
use Rattle.regions.specs.declared.state.Regions.{Regions}
use Rattle.regions.specs.View.{regions_of, info_of}
use Rattle.regions.specs.Form.{regions_as}

-- the arrays are the form of what is seen of them, and that keeps the limits
pub record Held (r : Regions) : Type 0 where
  pub form : r ≡ regions_as r.unit (regions_of r)
  pub fit : RegionsFit (regions_of r)
  pub power : unit_ok r.unit ≡ true
  -- follows from form and fit; it stands here for the indexes
  pub few : r.count ≤ max_regions

-- a region as it is shown, with the index at which the regions hold it
pub record Indexed (r : Regions) (i : ℕ) (x : RegionInfo) : Type 0 where
  pub held : Held r
  pub low : i < r.count
  pub same : x ≡ info_of (get_or (regions_of r) i no_region)
