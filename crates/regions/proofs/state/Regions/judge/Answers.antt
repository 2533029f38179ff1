-- `Regions::judge` meets its contract: refused, no region, or the verdict from the region that was found on. Assumes nothing.
use borrow.Author.Rules.{rules as steps}
use Prim.Native.Nat.{◌<◌}
use native.Mathlib.Omega.{arith}
use mathlib.Core.Path.{◌≡◌, sym, ap, ◌∙◌}
use mathlib.Core.Bool.{true}
use mathlib.Core.List.{[]}
use lib.ListN.{drop}
use mir.Facts.{to_z-of_z}
use Rattle.std.specs.Prelude.{Some, Err as Refused}
use Rattle.itron.specs.declared.error.Error.TheVariants.{Noexs as noexs}
use Rattle.std.proofs.lemmas.Result.{err_from_is_err_and}
use Rattle.model.specs.Regions.{area_ok, from_holder, judge}
use Rattle.regions.specs.View.{regions_of}
use Rattle.regions.specs.Search.{lookup, found_from}
use Rattle.regions.proofs.Cells.{region_at}
use Rattle.regions.proofs.Searches.{lookup_low, finds_holder, was_some, was_none}
use Rattle.regions.proofs.OneRegion.{in_order}
use Rattle.regions.proofs.Checks.{rules}
use Rattle.regions.proofs.state.Regions.judge.Goals as goal
use Rattle.regions.proofs.state.Regions.judge.Goals.{Else-not-is_request, In_ok-index}

pub returns-then-not-is_request : goal.returns-then-not-is_request
unfolding judge
returns-then-not-is_request c =
    let a = c.args in
    let e = sym c.if-not-is_request.true ∙ c.is_request.ensures in
    λ i. rules a.domain a.base a.size a.wishes (e i) (from_holder (regions_of a.self) a.base)

pub find-requires : goal.find-requires
find-requires c = let o = in_order c.requires in (search steps, search steps, o)

-- no region holds the base
pub returns-in_err-index : goal.returns-in_err-index
unfolding judge
returns-in_err-index c =
    let a = c.args in
    let rs = regions_of a.self in
    let asked : true ≡ area_ok a.base a.size a.wishes = sym c.if-not-is_request.false ∙ c.is_request.ensures in
    let n = was_none c.find.result _ _ (sym c.ok_or.ensures.value ∙ c.in_err-index.was) in
    let o : from_holder rs a.base ≡ [] = finds_holder c.requires a.base ∙ ap (found_from rs) (sym c.find.ensures ∙ n.0) in
    let r = err_from_is_err_and c.from_residual.result c.from_residual.ensures.1 in
    let q : r.0 ≡ noexs = r.2 ∙ sym n.1 in
    r.1 ∙ ap Refused q ∙ (λ i. rules a.domain a.base a.size a.wishes (asked i) (sym o i))

-- the region that was found
found : (c : In_ok-index) → let a = c.args in lookup a.self.bases a.self.sizes a.base 0 a.self.count ≡ Some c.in_ok-index.index
found c = sym c.find.ensures ∙ was_some c.find.result _ _ (sym c.ok_or.ensures.value ∙ c.in_ok-index.was)

low : (c : In_ok-index) → c.in_ok-index.index < c.args.self.count
low c = let a = c.args in let l = lookup_low a.self.bases a.self.sizes a.base a.self.count 0 c.in_ok-index.index (found c) in omega arith

pub offset_bounds-self-index : goal.offset_bounds-self-index
offset_bounds-self-index c = let l = low c in search steps

pub bounds-self-index : goal.bounds-self-index
bounds-self-index c = let l = low c in search steps

pub offset_bounds-self-index-2 : goal.offset_bounds-self-index-2
offset_bounds-self-index-2 c = let l = low c.before in search steps

pub bounds-self-index-2 : goal.bounds-self-index-2
bounds-self-index-2 c = let l = low c.before in search steps

pub offset_bounds-self-index-3 : goal.offset_bounds-self-index-3
offset_bounds-self-index-3 c = let l = low c.before.before in search steps

pub bounds-self-index-3 : goal.bounds-self-index-3
bounds-self-index-3 c = let l = low c.before.before in search steps

pub judge_at-requires : goal.judge_at-requires
judge_at-requires c =
    record { held = c.requires; low = low c.before.before.before.before; same = c.of-region.ensures ∙ region_at c.requires c.in_ok-index.index }

pub returns : goal.returns
unfolding judge
returns c =
    let a = c.args in
    let rs = regions_of a.self in
    let asked : true ≡ area_ok a.base a.size a.wishes = sym c.if-not-is_request.false ∙ c.is_request.ensures in
    let o : from_holder rs a.base ≡ drop c.in_ok-index.index rs = finds_holder c.requires a.base ∙ ap (found_from rs) (found c.before.before.before.before.before) in
    rw (to_z-of_z c.ranges.domain) at c.judge_at.ensures ∙ (λ i. rules a.domain a.base a.size a.wishes (asked i) (sym o i))
