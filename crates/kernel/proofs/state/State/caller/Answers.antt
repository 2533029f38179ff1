-- `State::caller` meets its contract: by whether the table is closed, then by who calls. Assumes nothing.
use borrow.Author.Rules.{rules}
use mathlib.Core.Path.{◌≡◌, sym, ap, ◌∙◌}
use lib.IntN.{ℤ}
use mir.Syntax.{w32}
use mir.Val.{to_z, of_z}
use mir.Facts.{to_z-of_z}
use borrow.Author.Tests.{not-false}
use Rattle.model.specs.State.{no}
use Rattle.kernel.specs.View.{view_of}
use Rattle.kernel.proofs.Back.{tasks_held}
use Rattle.kernel.proofs.Checks.{calls_as, owned, known_caller, runs_as}
use Rattle.kernel.proofs.Levels.{level_seen}
use Rattle.kernel.proofs.state.State.caller.Goals as goal

pub caller-requires : goal.caller-requires
caller-requires c = tasks_held c.requires

pub returns : goal.returns
returns c =
    let a = c.args in
    let who = c.in_ok-task.field-0 in
    let closed = not-false a.self.closed c.if-not-self.false in
    let names : owned (view_of a.self) (no a.number) ≡ calls_as who.task who.domain = sym (rw (to_z-of_z c.ranges.number) at c.caller.ensures) ∙ c.in_ok-task.was in
    let calls = known_caller (view_of a.self) (no a.number) closed who.task names in
    let e : to_z w32 (of_z w32 who.domain) ≡ who.domain = search rules in
    let g : to_z w32 (of_z w32 c.running-domain.result) ≡ c.running-domain.result = search rules in
    ap (λ (z : ℤ). calls_as who.task z) (g ∙ rw e at c.running-domain.ensures)
    ∙ runs_as (view_of a.self) (no a.number) closed who.task c.level.result names (c.level.ensures ∙ level_seen a.self who.task calls.low)
