-- View and form belong together, and every operation keeps the condition. Assumes nothing.
use mathlib.Core.Path.{◌≡◌, sym, ap, ◌∙◌, subst}
use Prim.Native.Nat.{ℕ}
use mathlib.Core.List.{List}
use lib.IntN.{ℤ}
use lib.ListN.{length}
use Rattle.itron.specs.Codes.{error}
use Rattle.itron.specs.declared.error.Error.{Error as Refusal}
use Rattle.model.specs.State as Model
use Rattle.model.specs.State.{TaskEntry}
use Rattle.model.specs.Answers.{Out}
use Rattle.model.specs.Table.{Entry, fresh, enter, close}
use Rattle.model.specs.Calls.{Call, step}
use Rattle.model.specs.Conditions.{Fit, Sound}
use Rattle.model.proofs.Sound.{sound_step}
use Rattle.model.proofs.Steps.{kept_law}
use Rattle.model.proofs.Table.{sound_fresh, sound_enter, sound_close, enter_kept, close_kept}
use Rattle.tasks.specs.declared.state.Tasks.{Tasks}
use Rattle.tasks.specs.Held as TasksHeld
use Rattle.tasks.proofs.Back as TasksBack
use Rattle.levels.specs.View.{levels_of}
use Rattle.levels.specs.Form.{levels_as}
use Rattle.levels.proofs.Back.{back_levels}
use Rattle.semaphore.specs.declared.state.Semaphores.{Semaphores}
use Rattle.semaphore.specs.Held as SemsHeld
use Rattle.semaphore.proofs.Back as SemsBack
use Rattle.dataqueue.specs.declared.state.Queues.{Queues}
use Rattle.dataqueue.specs.Held as QueuesHeld
use Rattle.dataqueue.proofs.Back as QueuesBack
use Rattle.regions.specs.declared.state.Regions.{Regions}
use Rattle.regions.specs.Held as RegionsHeld
use Rattle.regions.proofs.Back as RegionsBack
use Rattle.kernel.specs.declared.state.State.{State}
use Rattle.kernel.specs.declared.state.Answer.{Answer}
use Rattle.kernel.specs.declared.state.Entered.{Entered}
use Rattle.kernel.specs.View.{view_of}
use Rattle.kernel.specs.Form.{state_of}
use Rattle.kernel.specs.Valid.{Valid}
use Rattle.kernel.specs.Answers.{answer_of, entered_of}
use Rattle.kernel.specs.Promises.{Does, Begins, Enters}

-- what is seen of the form of a state within the limits is that state
pub back : (m : Model.State) → Fit m → view_of (state_of m) ≡ m
back m f =
    let d = TasksBack.back_entries m.fixed.tasks m.waits f.waits in
    let w = TasksBack.back_waits m.fixed.tasks m.waits f.waits in
    let l = ap (λ (es : List TaskEntry). levels_of (length es) (levels_as m.levels)) d ∙ back_levels (length m.fixed.tasks) m.levels f.levels.each in
    let x = SemsBack.back_sems m.sems in
    let q = QueuesBack.back_queues m.queues f.queues in
    let u = RegionsBack.back_unit m.fixed.unit m.fixed.regions in
    let r = RegionsBack.back_regions m.fixed.unit m.fixed.regions in
    λ i. record { fixed = record { closed = m.fixed.closed; count = m.fixed.count; unit = u i; tasks = d i; regions = r i }; waits = w i; sems = x i; queues = q i; levels = l i }

pub valid_form : (m : Model.State) → Sound m → Valid (state_of m)
valid_form m k =
    let b = back m k.fit in
    record { form = ap state_of (sym b); sound = subst (λ (x : Model.State). Sound x) (sym b) k }

-- valid states that are seen alike are the same
pub faithful : {s s' : State} → Valid s → Valid s' → view_of s ≡ view_of s' → s ≡ s'
faithful v v' e = v.form ∙ ap state_of e ∙ sym v'.form

-- ---- the parts of a valid state are held
module _ {s : State} (v : Valid s) where
  pub tasks_held : TasksHeld.Held s.tasks
  tasks_held = subst (λ (t : Tasks). TasksHeld.Held t) (sym (ap (λ (x : State). x.tasks) v.form)) (TasksBack.held_as (view_of s).fixed.tasks (view_of s).waits v.sound.fit.waits)

  pub sems_held : SemsHeld.Held s.semaphores
  sems_held = subst (λ (t : Semaphores). SemsHeld.Held t) (sym (ap (λ (x : State). x.semaphores) v.form)) (SemsBack.held_as (view_of s).sems v.sound.fit.sems)

  pub queues_held : QueuesHeld.Held s.queues
  queues_held = subst (λ (t : Queues). QueuesHeld.Held t) (sym (ap (λ (x : State). x.queues) v.form)) (QueuesBack.held_as (view_of s).queues v.sound.fit.queues)

  pub regions_held : RegionsHeld.Held s.regions
  regions_held = subst (λ (t : Regions). RegionsHeld.Held t) (sym (ap (λ (x : State). x.regions) v.form)) (RegionsBack.held_as (view_of s).fixed.unit (view_of s).fixed.regions v.sound.unit.power v.sound.fit.regions)

-- ---- the whole promise from the one equation
module _ {s : State} (v : Valid s) where
  pub promise : (c : Call) {r : Answer} → r ≡ answer_of (step (view_of s) c) → Does s c r
  promise c {r} e =
      let o = step (view_of s) c in
      let k = sound_step (view_of s) c v.sound in
      let a : r.state ≡ state_of o.state = ap (λ (x : Answer). x.state) e in
      record {
        same = e;
        seen = ap view_of a ∙ back o.state k.fit;
        valid = subst (λ (x : State). Valid x) (sym a) (valid_form o.state k);
        kept = λ x h. a ∙ ap state_of (kept_law (view_of s) c x h) ∙ sym v.form;
      }

  enters : (o : Out) → Sound o.state → ((x : Refusal) → o.answer.code ≡ error x → o.state ≡ view_of s) → {r : Entered} → r ≡ entered_of o → Enters s o r
  enters o k h {r} e =
      let a : r.state ≡ state_of o.state = ap (λ (x : Entered). x.state) e in
      record {
        same = e;
        seen = ap view_of a ∙ back o.state k.fit;
        valid = subst (λ (x : State). Valid x) (sym a) (valid_form o.state k);
        kept = λ x q. a ∙ ap state_of (h x q) ∙ sym v.form;
      }

  pub enters_entry : (i : Entry) {r : Entered} → r ≡ entered_of (enter (view_of s) i) → Enters s (enter (view_of s) i) r
  enters_entry i e = enters (enter (view_of s) i) (sound_enter (view_of s) i v.sound) (λ x h. enter_kept (view_of s) i x h) e

  pub enters_close : {r : Entered} → r ≡ entered_of (close (view_of s)) → Enters s (close (view_of s)) r
  enters_close e = enters (close (view_of s)) (sound_close (view_of s) v.sound) (λ x h. close_kept (view_of s) x h) e

pub begins : (n : ℤ) (unit : ℕ) {r : Entered} → r ≡ entered_of (fresh n unit) → Begins n unit r
begins n unit {r} e =
    let o = fresh n unit in
    let k = sound_fresh n unit in
    let a : r.state ≡ state_of o.state = ap (λ (x : Entered). x.state) e in
    record { same = e; seen = ap view_of a ∙ back o.state k.fit; valid = subst (λ (x : State). Valid x) (sym a) (valid_form o.state k) }
