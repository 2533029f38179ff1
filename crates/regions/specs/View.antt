-- What is seen of the regions' arrays: the model's regions that they stand for. Definitions only.
use Rattle.std.specs.Prelude.{ℕ, List, [], ◌∷◌, take}
use Rattle.model.specs.State.{Region}
use Rattle.regions.specs.declared.state.Protection.{Protection}
use Rattle.regions.specs.declared.state.RegionInfo.{RegionInfo}
use Rattle.regions.specs.declared.state.Regions.{Regions}

-- a region by its place and its protection
abbrev pub region_with : ℕ → ℕ → Protection → Region
region_with base size p = record { domain = p.domain; attribute = p.attribute; base = base; size = size; vector = p.vector }

-- the regions of three lists, as far as all three go
abbrev pub zip : List ℕ → List ℕ → List Protection → List Region
zip [] sizes ps = []
zip (b ∷ bases) [] ps = []
zip (b ∷ bases) (z ∷ sizes) [] = []
zip (b ∷ bases) (z ∷ sizes) (p ∷ ps) = region_with b z p ∷ zip bases sizes ps

-- the first `count` cells of each array
unfoldable pub regions_of : Regions → List Region
regions_of r = zip (take r.count r.bases) (take r.count r.sizes) (take r.count r.protections)

-- a region as it is shown, and the region that is shown so
abbrev pub info_of : Region → RegionInfo
info_of r = record { domain = r.domain; attribute = r.attribute; base = r.base; size = r.size; vector = r.vector }

abbrev pub shown_as : RegionInfo → Region
shown_as i = record { domain = i.domain; attribute = i.attribute; base = i.base; size = i.size; vector = i.vector }
