-- From the checks and the effect of a room to a call's answer: one law for every part of the state. Assumes nothing.
use Prim.Native.Nat.{ℕ, suc}
use mathlib.Core.Path.{◌≡◌, refl, sym, ap, ◌∙◌}
use mathlib.Core.Bool.{true}
use mathlib.Core.Option.{Option}
use lib.IntN.{ℤ}
use Rattle.itron.specs.declared.error.Error.{Error as Refusal}
use Rattle.model.specs.State.{no}
use Rattle.model.specs.Answers.{plain, no_info}
use Rattle.model.specs.Acts.{Act}
use Rattle.model.specs.Rooms.{Room, act_on, on_records, Asks, on_object}
use Rattle.model.specs.Semaphores as Semaphores
use Rattle.model.specs.Queues as Queues
use Rattle.model.specs.Calls.{Op, call, asks, act_if, step}
use Rattle.model.proofs.Refers.{refer_state}
use Rattle.std.specs.Prelude.{Result, Ok, Err as Refused}
use Rattle.itron.specs.Codes.{number_of}
use Rattle.model.specs.declared.check.Admitted.{Admitted}
use Rattle.tasks.specs.declared.effect.Effect.{Effect}
use Rattle.semaphore.specs.declared.state.Semaphores.{Semaphores as SemaphorePart}
use Rattle.semaphore.specs.Effects as SemaphoreEffects
use Rattle.dataqueue.specs.declared.state.Queues.{Queues as QueuePart}
use Rattle.dataqueue.specs.Effects as QueueEffects
use Rattle.kernel.specs.declared.state.State.{State}
use Rattle.kernel.specs.declared.state.Answer.{Answer}
use Rattle.kernel.specs.View.{view_of}
use Rattle.kernel.specs.Form.{state_of}
use Rattle.kernel.specs.Valid.{Valid}
use Rattle.kernel.specs.Promises.{Does, Tells}
use Rattle.kernel.specs.Answers.{answered, answer_of}
use Rattle.kernel.specs.Inside.{with_tasks, with_semaphores, with_queues, check_of, coded}
use Rattle.kernel.proofs.Back.{promise}
use Rattle.kernel.proofs.Checks.{admits_as, refusal, admission}

-- ---- a part of the state, P: what its room's effects make of it
pub record Part {C R : Type 0} (r : Room C R) (P : Type 0) (s : State) : Type 0 where
  -- what an act does, by what its checks found; the answer that this makes
  pub acted : Act C → Result Admitted Refusal → Effect P
  pub answer : Effect P → Answer
  -- a refusal leaves everything as it was; an effect is the rules' effect
  pub refused : (a : Act C) (e : Refusal) → answer (acted a (Refused e)) ≡ answered (plain (number_of e) 0) no_info s
  pub does : (a : Act C) (t o : ℕ) → answer (acted a (admits_as t o)) ≡ answer_of (on_records r (view_of s) (act_on r (view_of s).fixed.tasks (view_of s).waits (r.records (view_of s)) (suc t) (suc o) a))

-- the same where the act takes a refusal by its code
pub record CodedPart {C R : Type 0} (r : Room C R) (P : Type 0) (s : State) : Type 0 where
  pub acted : Act C → Result Admitted ℤ → Effect P
  pub answer : Effect P → Answer
  pub refused : (a : Act C) (d : ℤ) → answer (acted a (Refused d)) ≡ answered (plain d 0) no_info s
  pub does : (a : Act C) (t o : ℕ) → answer (acted a (coded (admits_as t o))) ≡ answer_of (on_records r (view_of s) (act_on r (view_of s).fixed.tasks (view_of s).waits (r.records (view_of s)) (suc t) (suc o) a))

abbrev pub by_code : {C R : Type 0} {r : Room C R} {P : Type 0} {s : State} → CodedPart r P s → Part r P s
by_code p = record {
  acted = λ a k. p.acted a (coded k);
  answer = p.answer;
  refused = λ a e. p.refused a (number_of e);
  does = p.does;
}

module _ {s : State} (v : Valid s) where
  abbrev pub coded_semaphores : CodedPart Semaphores.room SemaphorePart s
  coded_semaphores = record {
    acted = SemaphoreEffects.acted s.tasks s.semaphores;
    answer = λ e. answered e.reply e.info (with_semaphores (with_tasks s e.tasks) e.records);
    refused = λ a d. refl;
    does = λ a t o. let e = SemaphoreEffects.acted s.tasks s.semaphores a (coded (admits_as t o)) in ap (λ (x : State). answered e.reply e.info (with_semaphores (with_tasks x e.tasks) e.records)) v.form;
  }

  abbrev pub coded_queues : CodedPart Queues.room QueuePart s
  coded_queues = record {
    acted = QueueEffects.acted s.tasks s.queues;
    answer = λ e. answered e.reply e.info (with_queues (with_tasks s e.tasks) e.records);
    refused = λ a d. refl;
    does = λ a t o. let e = QueueEffects.acted s.tasks s.queues a (coded (admits_as t o)) in ap (λ (x : State). answered e.reply e.info (with_queues (with_tasks x e.tasks) e.records)) v.form;
  }

  abbrev pub semaphores : Part Semaphores.room SemaphorePart s
  semaphores = by_code coded_semaphores

  abbrev pub queues : Part Queues.room QueuePart s
  queues = by_code coded_queues

-- ---- a call on an object of a part
module _ {s : State} (v : Valid s) {C R : Type 0} {r : Room C R} {P : Type 0} (p : Part r P s) (z n : ℤ) (a : Act C) where
  -- the rules' answer, whatever the checks give
  abbrev by : Option Refusal → Answer
  by o = answer_of (act_if (view_of s) (no z) (on_object r n a) o)

  answers : (k : Result Admitted Refusal) → check_of r s z n a ≡ k → p.answer (p.acted a k) ≡ by ((on_object r n a).check (view_of s) (no z))
  answers (Refused e) h =
      p.refused a e ∙ ap (answered (plain (number_of e) 0) no_info) v.form ∙ ap by (sym (refusal r s z n a e h))
  answers (Ok k) h =
      let x = admission r s z n a k.task k.object h in
      let t = sym x.task in
      let o = sym x.object in
      p.does a _ _ ∙ (λ i. answer_of (on_records r (view_of s) (act_on r (view_of s).fixed.tasks (view_of s).waits (r.records (view_of s)) (t i) (o i) a))) ∙ ap by (sym x.found)

  pub on_part : (op : Op) → asks op ≡ on_object r n a → {x : Effect P} {q : Answer} → x ≡ p.acted a (check_of r s z n a) → q ≡ p.answer x → Does s (call z op) q
  unfolding step
  on_part op h e q =
      promise v (call z op) (q ∙ ap p.answer e ∙ answers (check_of r s z n a) refl ∙ ap (λ (x : Asks). answer_of (act_if (view_of s) (no z) x (x.check (view_of s) (no z)))) (sym h))

-- ---- a refer gives back the very state
pub tells : {s : State} → Valid s → (z : ℤ) (op : Op) → (asks op).is_refer ≡ true → {r : Answer} → Does s (call z op) r → Tells s (call z op) r
tells {s} v z op h d = record {
  same = d.same;
  valid = d.valid;
  kept = ap (λ (x : Answer). x.state) d.same ∙ ap state_of (refer_state (view_of s) z op h) ∙ sym v.form;
}
