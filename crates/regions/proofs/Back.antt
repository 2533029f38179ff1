-- The form of a list of regions is seen as that list. Assumes nothing.
use Prim.Native.Nat.{ℕ}
use mathlib.Core.Path.{◌≡◌, refl, sym, ap, ◌∙◌, subst}
use mathlib.Core.Bool.{true}
use mathlib.Core.List.{List, [], ◌∷◌, map}
use lib.ListN.{length, take, length-map}
use Rattle.itron.specs.Limits.{max_regions}
use Rattle.arrays.specs.Pad.{pad}
use Rattle.arrays.proofs.Pads.{pad_take}
use Rattle.model.specs.State.{Region}
use Rattle.model.specs.Units.{unit_ok}
use Rattle.model.specs.Conditions.{RegionsFit}
use Rattle.regions.specs.View.{zip, regions_of}
use Rattle.regions.specs.Form.{base_of, size_of, protection_of, no_protection, regions_as}
use Rattle.regions.specs.Held.{Held}

column_back : {A : Type 0} (n : ℕ) (d : A) (f : Region → A) (rs : List Region) → take (length rs) (pad n d (map f rs)) ≡ map f rs
column_back n d f rs = ap (λ (k : ℕ). take k (pad n d (map f rs))) (sym (length-map rs f)) ∙ pad_take d n (map f rs)

zip_back : (rs : List Region) → zip (map base_of rs) (map size_of rs) (map protection_of rs) ≡ rs
zip_back [] = refl
zip_back (r ∷ rs) = ap (λ (l : List Region). r ∷ l) (zip_back rs)

pub back_regions : (unit : ℕ) (rs : List Region) → regions_of (regions_as unit rs) ≡ rs
unfolding regions_of regions_as
back_regions unit rs =
    let b = column_back max_regions 0 base_of rs in
    let z = column_back max_regions 0 size_of rs in
    let p = column_back max_regions no_protection protection_of rs in
    (λ i. zip (b i) (z i) (p i)) ∙ zip_back rs

pub back_unit : (unit : ℕ) (rs : List Region) → (regions_as unit rs).unit ≡ unit
unfolding regions_as
back_unit unit rs = refl

pub held_as : (unit : ℕ) (rs : List Region) → unit_ok unit ≡ true → RegionsFit rs → Held (regions_as unit rs)
unfolding regions_as
held_as unit rs u f =
    record {
      form = ap (regions_as unit) (sym (back_regions unit rs));
      fit = subst (λ (l : List Region). RegionsFit l) (sym (back_regions unit rs)) f;
      power = u;
      few = f.few;
    }
