-- `access::domain::running` meets its contract: by whether the level is 0. Assumes nothing.
use Prim.Native.Nat.{ℕ}
use mathlib.Core.Path.{◌∙◌, sym, ap}
use native.Mathlib.Omega.{arith}
use mir.Facts.{to_z-of_z}
use Rattle.access.specs.Domains.{running_of}
use Rattle.access.proofs.Laws.{running_inside}
use Rattle.access.proofs.domain.running.Goals as goal

pub returns-then-level-eq0 : goal.returns-then-level-eq0
returns-then-level-eq0 c =
    to_z-of_z c.ranges.domain ∙ ap (λ (k : ℕ). running_of c.args.domain k) (sym c.if-level-eq0.true)

pub returns : goal.returns
returns c = sym (running_inside c.args.domain c.args.level (let h = c.if-level-eq0.false in omega arith))
