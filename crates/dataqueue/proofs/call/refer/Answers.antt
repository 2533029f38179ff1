-- `call::refer` meets its contract. Assumes nothing.
use Prim.Native.Nat.{suc}
use native.Mathlib.Omega.{arith}
use mathlib.Core.Path.{ap, ◌∙◌}
use mathlib.Core.Bool.{Bool}
use Rattle.model.specs.State.{place}
use Rattle.model.specs.Waits.{waiters_in, standing, by_priority, first_task}
use Rattle.model.specs.Queues.{told}
use Rattle.model.specs.declared.Side.TheVariants.{Sending}
use Rattle.model.proofs.Fits.{buffer_fits}
use Rattle.tasks.specs.View.{entries_of, waits_of}
use Rattle.tasks.proofs.Rooms.{tells_by}
use Rattle.dataqueue.specs.View.{queues_of}
use Rattle.dataqueue.specs.Form.{queues_as}
use Rattle.dataqueue.specs.declared.state.Queue.{Queue}
use Rattle.dataqueue.proofs.Parts.{part_fits}
use Rattle.dataqueue.proofs.Links.{record_seen}
use Rattle.dataqueue.proofs.Effects.{effect}
use Rattle.dataqueue.proofs.call.refer.Goals as goal

pub overflow_cast-amount : goal.overflow_cast-amount
overflow_cast-amount c =
    let a = c.args in
    let n = ap (λ (q : Queue). q.len) (record_seen c.requires.1 a.object c.requires.2) in
    let l = buffer_fits c.requires.1.fit (suc a.object) in
    let p = part_fits (queues_of a.queues) a.object c.requires.2 in
    let w = c.requires.1.fit.words in
    omega arith

pub returns : goal.returns
returns c =
    let a = c.args in
    let ep = c.plain.ensures in
    let er = record_seen c.requires.1 a.object c.requires.2 in
    let es = c.first_number-second.ensures in
    let eo = c.by_priority-by_priority.ensures ∙ ap (λ (q : Queue). by_priority q.attribute) er in
    let ef = c.first_number-first.ensures ∙ ap (λ (o : Bool). first_task (standing o (entries_of a.tasks) (waiters_in (waits_of a.tasks) (place Sending (suc a.object))))) eo in
    (λ i. effect (ep i) (record { first = ef i; second = es i; amount = (er i).len; vector = (er i).vector }) a.tasks a.queues)
    ∙ tells_by queues_as effect c.requires.0 c.requires.1.form (told (entries_of a.tasks) (waits_of a.tasks) (queues_of a.queues) (suc a.object))
