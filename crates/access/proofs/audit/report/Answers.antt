-- `access::audit::report` meets its contract: by the masked pattern. Assumes nothing.
use Prim.Native.Nat.{◌-◌, ◌*◌, ◌%◌, ◌^◌}
use native.Mathlib.Omega.{arith}
use mathlib.Core.Path.{sym, ◌∙◌}
use lib.Pow.{pow_pos}
use lib.Bits.{bit_and}
use lib.Count.{trailing_le}
use mir.Facts.{Fits-and}
use Rattle.itron.specs.Limits.{max_domains}
use Rattle.access.proofs.Patterns.{one_bit}
use Rattle.access.proofs.Audits.{mask, report_none, report_some}
use Rattle.access.proofs.audit.report.Goals as goal

pub overflow_sub-masked : goal.overflow_sub-masked
overflow_sub-masked c = rw (one_bit c.args.n 64 (omega arith)) (pow_pos c.args.n)

pub overflow_cast-masked : goal.overflow_cast-masked
overflow_cast-masked c = Fits-and _ c.ranges.pattern

pub returns-then-masked-eq0 : goal.returns-then-masked-eq0
returns-then-masked-eq0 c =
    let a = c.args in report_none a.pattern a.n c.requires (sym (mask a.pattern a.n c.requires) ∙ c.if-masked-eq0.true)

pub overflow_add-result : goal.overflow_add-result
overflow_add-result c =
    omega (arith, trailing_le max_domains (bit_and c.args.pattern (1 * 2 ^ c.args.n % 2 ^ 64 - 1)))

pub returns : goal.returns
returns c =
    let a = c.args in report_some a.pattern a.n _ c.requires (mask a.pattern a.n c.requires) c.if-masked-eq0.false
