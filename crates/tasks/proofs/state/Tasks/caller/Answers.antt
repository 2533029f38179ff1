-- `Tasks::caller` meets its contract: no task's number, a ready task, a waiting one. Assumes nothing.
use borrow.Author.Rules.{rules}
use Prim.Native.Nat.{◌-◌}
use native.Mathlib.Omega.{arith}
use mathlib.Core.Path.{◌≡◌, ap, ◌∙◌}
use mir.Syntax.{w32}
use mir.Val.{to_z, of_z}
use mir.Facts.{to_z-of_z}
use Rattle.std.specs.Prelude.{Some}
use Rattle.tasks.proofs.Callers.{caller_none, caller_low, caller_busy, caller_ready}
use Rattle.tasks.proofs.state.Tasks.caller.Goals as goal

pub returns-in_err-ordinal : goal.returns-in_err-ordinal
returns-in_err-ordinal c = c.from_residual.ensures ∙ caller_none c.requires c.args.number (rw (to_z-of_z c.ranges.number) at c.in_err-ordinal.ensures)

pub offset_bounds-self-task : goal.offset_bounds-self-task
offset_bounds-self-task c = omega (arith, caller_low c.requires c.args.number c.in_ok-ordinal.ordinal (rw (to_z-of_z c.ranges.number) at c.in_ok-ordinal.ensures))

pub bounds-self-task : goal.bounds-self-task
bounds-self-task c = caller_low c.requires c.args.number c.in_ok-ordinal.ordinal (rw (to_z-of_z c.ranges.number) at c.in_ok-ordinal.ensures)

pub returns-then-ne : goal.returns-then-ne
returns-then-ne c = caller_busy c.requires c.args.number c.in_ok-ordinal.ordinal (rw (to_z-of_z c.ranges.number) at c.in_ok-ordinal.ensures) (search rules)

pub returns : goal.returns
returns c =
    let e : to_z w32 (of_z w32 c.domain.result) ≡ c.domain.result = search rules in
    ap (λ z. Some (record { task = c.in_ok-ordinal.ordinal - 1; domain = z })) (e ∙ c.domain.ensures)
    ∙ caller_ready c.requires c.args.number c.in_ok-ordinal.ordinal (rw (to_z-of_z c.ranges.number) at c.in_ok-ordinal.ensures) (search rules)
