-- `regions::search::find` meets its contract. The invariant: a round halves what is left, and what is left decides. Assumes nothing.
use Prim.Native.Nat.{ℕ, ◌<◌}
use mathlib.Core.Path.{sym, ◌∙◌, ap, subst}
use mathlib.Core.Bool.{Bool, cond}
use native.Mathlib.Omega.{arith}
use Rattle.std.specs.Prelude.{Some, None}
use Rattle.regions.proofs.Searches.{no_region_lem}
use Rattle.regions.proofs.Halving.{Left, keep_all, half_of_these, half_of_all, rounds, some_left, twice_left, halve, decides}
use Rattle.regions.proofs.search.find.Goals as goal
use Rattle.regions.proofs.search.find.Goals.{then-half-count, else-half-count+then-half-count-2, else-half-count+else-half-count-2}

pub returns-then-count-eq0 : goal.returns-then-count-eq0
returns-then-count-eq0 c =
    let a = c.args in
    sym (no_region_lem a.bases.now a.sizes.now a.address a.count 0 c.if-count-eq0.true)

pub loop-preserved : goal.loop-preserved
loop-preserved c =
    let a = c.args in
    let i = c.loop in
    let l : i.counter < rounds = omega (arith, c.loop-test.true) in
    let o = some_left i.invariant l in
    let v = twice_left i.invariant l in
    let kept : ℕ → Type 0 = λ f. Left a.bases.now a.sizes.now a.count a.address f i.half in
    halve i.invariant l c.if-half-count.first
    (elim c.if-half-count.branch [
      | then-half-count w ↦
          subst kept (sym (w.first-is ∙ w.half_from-first.ensures)) (half_of_these v o c.requires.2 w.if-half-count.true)
      | else-half-count+then-half-count-2 w ↦
          subst kept (sym (w.first-is ∙ w.half_from-first-then-half-count-2.ensures))
          (half_of_all v o c.requires.2 w.if-half-count.false w.if-half-count-2.true)
      | else-half-count+else-half-count-2 w ↦
          subst kept (sym w.first-is) (keep_all v o w.if-half-count-2.false)
    ])

pub returns-then-covers : goal.returns-then-covers
returns-then-covers c =
    let i = c.loop in
    sym
    (decides i.invariant (omega (arith, c.loop-test.false))
    ∙ ap (λ (b : Bool). cond b (Some i.first) None) (sym c.covers.ensures)
    ∙ ap (λ (b : Bool). cond b (Some i.first) None) c.if-covers.true)

pub returns : goal.returns
returns c =
    let i = c.loop in
    sym
    (decides i.invariant (omega (arith, c.loop-test.false))
    ∙ ap (λ (b : Bool). cond b (Some i.first) None) (sym c.covers.ensures)
    ∙ ap (λ (b : Bool). cond b (Some i.first) None) c.if-covers.false)
