-- `call::receive` meets its contract. Assumes nothing.
use mathlib.Core.Path.{sym, ◌∙◌}
use Rattle.dataqueue.proofs.Effects.{receive_refills_lem}
use Rattle.dataqueue.proofs.call.receive.Goals as goal

pub returns-in-Some-sender : goal.returns-in-Some-sender
returns-in-Some-sender c =
    let a = c.args in
    c.ended-in-Some-sender.ensures
    ∙ receive_refills_lem c.requires.0 c.requires.1 a.object c.requires.3 a.task a.patience c.by_priority-by_priority.ensures c.if-queue-eq0.false (sym c.first-sender.ensures ∙ c.in-Some-sender.is) _ c.wake-in-Some-sender.ensures _ c.refill.ensures
