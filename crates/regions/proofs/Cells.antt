-- What the cells of the arrays hold, and one region more. Assumes nothing.
use Prim.Native.Nat.{ℕ, ◌+◌, ◌<◌}
use native.Mathlib.Omega.{arith}
use mathlib.Core.Path.{◌≡◌, refl, sym, ap, ◌∙◌}
use mathlib.Core.List.{List, [], ◌∷◌, ◌++◌, map}
use lib.ListN.{length, get_or, set, length-map, length-append, get_or-map}
use Rattle.itron.specs.Limits.{max_regions}
use Rattle.arrays.specs.Pad.{pad}
use Rattle.arrays.proofs.Pads.{pad_get, pad_snoc}
use Rattle.model.specs.State.{Region, no_region}
use Rattle.regions.specs.declared.state.Regions.{Regions}
use Rattle.regions.specs.View.{region_with, regions_of, info_of}
use Rattle.regions.specs.Form.{base_of, size_of, protection_of, no_protection, regions_as}
use Rattle.regions.specs.Held.{Held}

-- ---- a cell of a column
column_get : {A : Type 0} (n : ℕ) (f : Region → A) (rs : List Region) (i : ℕ) → get_or (pad n (f no_region) (map f rs)) i (f no_region) ≡ f (get_or rs i no_region)
column_get n f rs i = pad_get (f no_region) n (map f rs) i ∙ get_or-map f rs i no_region

module _ {r : Regions} (h : Held r) where
  pub count_of : r.count ≡ length (regions_of r)
  unfolding regions_as
  count_of = ap (λ (x : Regions). x.count) h.form

  pub base_at : (i : ℕ) → get_or r.bases i 0 ≡ (get_or (regions_of r) i no_region).base
  unfolding regions_as
  base_at i = ap (λ (x : Regions). get_or x.bases i 0) h.form ∙ column_get max_regions base_of (regions_of r) i

  pub size_at : (i : ℕ) → get_or r.sizes i 0 ≡ (get_or (regions_of r) i no_region).size
  unfolding regions_as
  size_at i = ap (λ (x : Regions). get_or x.sizes i 0) h.form ∙ column_get max_regions size_of (regions_of r) i

  pub protection_at : (i : ℕ) → get_or r.protections i no_protection ≡ protection_of (get_or (regions_of r) i no_region)
  unfolding regions_as
  protection_at i = ap (λ (x : Regions). get_or x.protections i no_protection) h.form ∙ column_get max_regions protection_of (regions_of r) i

  -- the three cells of an index are its region
  pub region_at : (i : ℕ) → info_of (region_with (get_or r.bases i 0) (get_or r.sizes i 0) (get_or r.protections i no_protection)) ≡ info_of (get_or (regions_of r) i no_region)
  region_at i =
      let b = base_at i in
      let z = size_at i in
      let p = protection_at i in
      λ j. info_of (region_with (b j) (z j) (p j))

-- ---- one region more
map_snoc : {A : Type 0} (f : Region → A) (rs : List Region) (x : Region) → map f (rs ++ (x ∷ [])) ≡ map f rs ++ (f x ∷ [])
map_snoc f [] x = refl
map_snoc {A} f (r ∷ rs) x = ap (λ (l : List A). f r ∷ l) (map_snoc f rs x)

column_snoc : {A : Type 0} (n : ℕ) (d : A) (f : Region → A) (rs : List Region) (x : Region) → length rs < n
    → set (pad n d (map f rs)) (length rs) (f x) ≡ pad n d (map f (rs ++ (x ∷ [])))
column_snoc n d f rs x l =
    let e = length-map rs f in
    ap (λ (k : ℕ). set (pad n d (map f rs)) k (f x)) (sym e) ∙ pad_snoc d n (map f rs) (f x) (omega arith) ∙ ap (pad n d) (sym (map_snoc f rs x))

-- a region in the first free cells
abbrev pub entered : Regions → Region → Regions
entered r x =
    record {
      unit = r.unit;
      count = r.count + 1;
      bases = set r.bases r.count x.base;
      sizes = set r.sizes r.count x.size;
      protections = set r.protections r.count (protection_of x);
    }

enter_form : (unit : ℕ) (rs : List Region) (x : Region) → length rs < max_regions → entered (regions_as unit rs) x ≡ regions_as unit (rs ++ (x ∷ []))
unfolding regions_as
enter_form unit rs x l =
    let n : length (rs ++ (x ∷ [])) ≡ length rs + 1 = length-append rs (x ∷ []) in
    let b = column_snoc max_regions 0 base_of rs x l in
    let z = column_snoc max_regions 0 size_of rs x l in
    let p = column_snoc max_regions no_protection protection_of rs x l in
    λ i. record { unit = unit; count = sym n i; bases = b i; sizes = z i; protections = p i }

pub enter_link : {r : Regions} → Held r → (x : Region) → length (regions_of r) < max_regions → entered r x ≡ regions_as r.unit (regions_of r ++ (x ∷ []))
enter_link {r} h x l = ap (λ (y : Regions). entered y x) h.form ∙ enter_form r.unit (regions_of r) x l
