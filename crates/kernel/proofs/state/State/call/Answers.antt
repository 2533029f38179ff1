-- `State::call` meets its contract. Assumes nothing.
use borrow.Author.Rules.{rules}
use mathlib.Core.Path.{◌≡◌, sym, subst}
use mir.Syntax.{w32}
use mir.Val.{to_z, of_z}
use mir.Facts.{to_z-of_z}
use Rattle.model.specs.declared.Request.{Request}
use Rattle.model.specs.Calls.{call, op_of}
use Rattle.kernel.specs.Promises.{Does}
use Rattle.kernel.proofs.state.State.call.Goals as goal

pub returns-in-Semaphore : goal.returns-in-Semaphore
returns-in-Semaphore c =
    let n = c.in-Semaphore.id in
    let e : to_z w32 (of_z w32 n) ≡ n = search rules in
    subst (λ (q : Request). Does c.args.self (call c.args.caller (op_of q)) c.on_semaphore.result) (sym c.in-Semaphore.is) (rw (to_z-of_z c.ranges.caller, e) at c.on_semaphore.ensures)

pub returns-in-Queue : goal.returns-in-Queue
returns-in-Queue c =
    let n = c.in-Queue.id in
    let e : to_z w32 (of_z w32 n) ≡ n = search rules in
    subst (λ (q : Request). Does c.args.self (call c.args.caller (op_of q)) c.on_queue.result) (sym c.in-Queue.is) (rw (to_z-of_z c.ranges.caller, e) at c.on_queue.ensures)

pub returns-in-Extended : goal.returns-in-Extended
returns-in-Extended c =
    subst (λ (q : Request). Does c.args.self (call c.args.caller (op_of q)) c.on_level.result) (sym c.in-Extended.is) (rw (to_z-of_z c.ranges.caller) at c.on_level.ensures)
