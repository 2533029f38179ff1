-- `run::step` meets its contract: too few words, a request. Assumes nothing.
use Prim.Native.Nat.{◌+◌, ◌*◌}
use mathlib.Core.Path.{◌≡◌, sym, ap, ◌∙◌, subst}
use mathlib.Core.Bool.{Bool, cond}
use mathlib.Core.Option.{Option, none}
use lib.ListN.{length}
use borrow.Author.Tests.{le-leb}
use Rattle.model.specs.Calls.{Call}
use Rattle.batch.specs.Encoding.{call_words, numbers_at, item_of, item_at}
use Rattle.batch.specs.Made.{Performs}
use Rattle.batch.proofs.run.step.Goals as goal

pub returns : goal.returns
returns c =
    let a = c.args in
    let ws = a.calls.now in
    let e : item_of (numbers_at ws (a.k * call_words)) ≡ item_at ws a.k = sym (ap (λ (b : Bool). cond b (item_of (numbers_at ws (a.k * call_words))) none) (le-leb (a.k * call_words + call_words) (length ws) c.if-calls-at.false)) in
    subst (λ (x : Option Call). Performs a.state x c.perform.result) (ap item_of c.read.ensures ∙ e) c.perform.ensures
