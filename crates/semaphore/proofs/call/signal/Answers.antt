-- `call::signal` meets its contract. Assumes nothing.
use Prim.Native.Nat.{suc}
use mathlib.Core.Path.{◌≡◌, sym, ap, ◌∙◌}
use mathlib.Core.Bool.{Bool}
use mathlib.Core.List.{[]}
use Rattle.model.specs.State.{place}
use Rattle.model.specs.Waits.{waiters_in, standing, by_priority}
use Rattle.model.specs.Semaphores.{sem_in, waiters_of}
use Rattle.model.specs.declared.sem.Semaphore.{Semaphore}
use Rattle.model.specs.declared.Side.TheVariants.{OnSem as on_sem}
use Rattle.tasks.specs.View.{entries_of, waits_of}
use Rattle.tasks.specs.Ends.{first_of}
use Rattle.tasks.specs.Effects.{done_with}
use Rattle.tasks.proofs.Firsts.{Waits, waits, no_first}
use Rattle.semaphore.specs.declared.state.Semaphores.{Semaphores}
use Rattle.semaphore.specs.View.{sems_of}
use Rattle.semaphore.proofs.Back.{get_seen}
use Rattle.semaphore.proofs.Effects.{signal_wakes_lem, signal_full_lem, signal_counts_lem}
use Rattle.semaphore.proofs.call.signal.Goals as goal
use Rattle.semaphore.proofs.call.signal.Goals.{Start, After-first, In-Some, In_default}

-- the first who waits is asked for in the order that the attribute says
asked : (c : After-first) → let a = c.args in c.first.result ≡ first_of (waiters_of (entries_of a.tasks) (waits_of a.tasks) (sems_of a.semaphores) (suc a.object))
asked c =
    let a = c.args in
    let x = get_seen c.requires.1 a.object c.requires.2 in
    c.first.ensures
    ∙ ap (λ (o : Bool). first_of (standing o (entries_of a.tasks) (waiters_in (waits_of a.tasks) (place on_sem (suc a.object)))))
    (c.by_priority-by_priority.ensures ∙ ap (λ (y : Semaphore). by_priority y.attribute) x)

somebody : (c : In-Some) → let a = c.args in Waits a.tasks (by_priority (sem_in (sems_of a.semaphores) (suc a.object)).attribute) (place on_sem (suc a.object)) c.in-Some.first.task c.in-Some.first.word
somebody c =
    let a = c.args in
    waits c.requires.0 (by_priority (sem_in (sems_of a.semaphores) (suc a.object)).attribute) (place on_sem (suc a.object)) _ _ (sym (asked c.before) ∙ c.in-Some.is)

nobody : (c : In_default) → let a = c.args in waiters_of (entries_of a.tasks) (waits_of a.tasks) (sems_of a.semaphores) (suc a.object) ≡ []
nobody c = no_first _ (sym (asked c.before) ∙ c.in_default.is)

pub wake-requires : goal.wake-requires
wake-requires c = (c.requires.0, (somebody c).low)

pub returns-in-Some : goal.returns-in-Some
returns-in-Some c =
    c.ended.ensures ∙ signal_wakes_lem c.requires.0 c.requires.1 c.args.object (somebody c.before.before) _ c.wake.ensures

pub returns-then-semaphore : goal.returns-then-semaphore
returns-then-semaphore c =
    let x = get_seen c.requires.1 c.args.object c.requires.2 in
    c.refused.ensures ∙ signal_full_lem c.requires.0 c.requires.1 c.args.object _ x (nobody c.before.before.before) c.if-semaphore.true

pub returns : goal.returns
returns c =
    let a = c.args in
    let x = get_seen c.requires.1 a.object c.requires.2 in
    c.done.ensures ∙ ap (λ (s : Semaphores). done_with a.tasks s 0) c.put.ensures
    ∙ signal_counts_lem c.requires.0 c.requires.1 a.object _ x (nobody c.before.before.before.before.before) c.if-semaphore.false
