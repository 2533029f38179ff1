-- `Regions::walk` meets its contract. The invariant: the area lies within the chain from the first region on if it does from the one before `next` on. Assumes nothing.
use Prim.Native.Nat.{◌<◌}
use native.Mathlib.Omega.{arith}
use mathlib.Core.Path.{refl, sym, ap, ◌∙◌}
use mathlib.Core.Bool.{◌&&◌}
use lib.Dec.{leb}
use lib.ListN.{length}
use Rattle.model.specs.Regions.{end}
use Rattle.regions.specs.View.{regions_of, shown_as}
use Rattle.regions.proofs.Cells.{count_of, region_at}
use Rattle.regions.proofs.Chains.{walk_ends, walk_last, walk_breaks, walk_goes}
use Rattle.regions.proofs.state.Regions.walk.Goals as goal

pub loop-next-init : goal.loop-next-init
loop-next-init c =
    let n = count_of c.requires.held in
    let l = c.requires.low in
    record { at = c.args.index; before = refl; low = omega arith; same = c.requires.same; chain = refl }

pub returns-then-end : goal.returns-then-end
returns-then-end c = sym (walk_ends c.loop-next.invariant (omega (arith, c.end.ensures, c.if-end.true)))

pub returns-then-not-touches-equals : goal.returns-then-not-touches-equals
returns-then-not-touches-equals c =
    let past : end (shown_as c.loop-next.region) < c.args.end = omega (arith, c.end.ensures, c.if-end.false) in
    let low : c.loop-next.next < length (regions_of c.args.self) = omega (arith, count_of c.requires.held, c.loop-next-test.true) in
    let same = c.of-follower.ensures ∙ region_at c.requires.held c.loop-next.next in
    sym (walk_breaks c.loop-next.invariant past low c.of-follower.result same ((λ i. sym c.touches.ensures i && sym c.equals.ensures i) ∙ c.if-not-touches-equals.true))

pub loop-next-preserved : goal.loop-next-preserved
loop-next-preserved c =
    let past : end (shown_as c.loop-next.region) < c.args.end = omega (arith, c.end.ensures, c.if-end.false) in
    let low : c.loop-next.next < length (regions_of c.args.self) = omega (arith, count_of c.requires.held, c.loop-next-test.true) in
    let same = c.of-follower.ensures ∙ region_at c.requires.held c.loop-next.next in
    walk_goes c.loop-next.invariant past low c.of-follower.result same ((λ i. sym c.touches.ensures i && sym c.equals.ensures i) ∙ c.if-not-touches-equals.false)

pub returns : goal.returns
returns c =
    ap (leb c.args.end) c.end-2.ensures ∙ walk_last c.loop-next.invariant (omega (arith, count_of c.requires.held, c.loop-next-test.false))
