-- `State::by_priority` meets its contract. Assumes nothing.
use mathlib.Core.Path.{ap, ◌∙◌}
use Rattle.model.specs.Waits.{by_priority}
use Rattle.model.specs.declared.sem.Semaphore.{Semaphore}
use Rattle.dataqueue.specs.declared.state.QueueInfo.{QueueInfo}
use Rattle.kernel.specs.View.{view_of}
use Rattle.kernel.proofs.Places.{order_on_sem, order_receiving, order_sending}
use Rattle.kernel.proofs.state.State.by_priority.Goals as goal

pub returns-in-OnSem : goal.returns-in-OnSem
returns-in-OnSem c =
    let a = c.args in
    order_on_sem (view_of a.self) a.side a.number c.in-OnSem.in-OnSem-own.keys1 (c.by_priority.ensures ∙ ap (λ (x : Semaphore). by_priority x.attribute) c.semaphore.ensures)

pub returns-in-Receiving : goal.returns-in-Receiving
returns-in-Receiving c =
    let a = c.args in order_receiving (view_of a.self) a.side a.number c.in-Receiving.in-Receiving-own.keys2

pub returns-in-Sending : goal.returns-in-Sending
returns-in-Sending c =
    let a = c.args in
    order_sending (view_of a.self) a.side a.number c.in-Sending.in-Sending-own.keys3 (c.by_priority-in-Sending.ensures ∙ ap (λ (x : QueueInfo). by_priority x.attribute) c.queue.ensures)
