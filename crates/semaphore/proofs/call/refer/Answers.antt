-- `call::refer` meets its contract. Assumes nothing.
use Prim.Native.Nat.{suc}
use mathlib.Core.Path.{ap, ◌∙◌}
use mathlib.Core.Bool.{Bool}
use Rattle.model.specs.State.{place}
use Rattle.model.specs.Waits.{waiters_in, standing, by_priority, first_task}
use Rattle.model.specs.Semaphores.{told}
use Rattle.model.specs.declared.sem.Semaphore.{Semaphore}
use Rattle.model.specs.declared.Side.TheVariants.{OnSem as on_sem}
use Rattle.tasks.specs.View.{entries_of, waits_of}
use Rattle.tasks.proofs.Rooms.{tells_by}
use Rattle.semaphore.specs.View.{sems_of}
use Rattle.semaphore.specs.Form.{sems_as}
use Rattle.semaphore.proofs.Back.{get_seen}
use Rattle.semaphore.proofs.Effects.{effect}
use Rattle.semaphore.proofs.call.refer.Goals as goal

pub returns : goal.returns
returns c =
    let a = c.args in
    let p = c.plain.ensures in
    let x = get_seen c.requires.1 a.object c.requires.2 in
    let o = c.by_priority-by_priority.ensures ∙ ap (λ (y : Semaphore). by_priority y.attribute) x in
    let f = c.first_number-first.ensures ∙ ap (λ (o : Bool). first_task (standing o (entries_of a.tasks) (waiters_in (waits_of a.tasks) (place on_sem (suc a.object))))) o in
    (λ i. effect (p i) (record { first = f i; second = 0; amount = (x i).count; vector = (x i).vector }) a.tasks a.semaphores)
    ∙ tells_by sems_as effect c.requires.0 c.requires.1.form (told (entries_of a.tasks) (waits_of a.tasks) (sems_of a.semaphores) (suc a.object))
