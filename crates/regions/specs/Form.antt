-- The one form in which the arrays hold regions: in their order from the first cell on, zeros in the other cells. Definitions only.
use Rattle.std.specs.Prelude.{ℕ, zero, List, map, pos, length}
use Rattle.itron.specs.Limits.{max_regions}
use Rattle.arrays.specs.Pad.{pad}
use Rattle.model.specs.State.{Region, zero_vector}
use Rattle.regions.specs.declared.state.Protection.{Protection}
use Rattle.regions.specs.declared.state.Regions.{Regions}

abbrev pub base_of : Region → ℕ
base_of r = r.base

abbrev pub size_of : Region → ℕ
size_of r = r.size

abbrev pub protection_of : Region → Protection
protection_of r = record { domain = r.domain; attribute = r.attribute; vector = r.vector }

-- what a cell holds that no region has taken
abbrev pub no_protection : Protection
no_protection = record { domain = pos zero; attribute = 0; vector = zero_vector }

unfoldable pub regions_as : ℕ → List Region → Regions
regions_as unit rs =
    record {
      unit = unit;
      count = length rs;
      bases = pad max_regions 0 (map base_of rs);
      sizes = pad max_regions 0 (map size_of rs);
      protections = pad max_regions no_protection (map protection_of rs);
    }
