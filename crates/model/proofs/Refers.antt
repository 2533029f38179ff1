-- A refer changes nothing, and says a code and nothing but what it tells. Assumes nothing.
use mathlib.Core.Path.{◌≡◌, refl, ap}
use mathlib.Core.Bool.{true}
use mathlib.Core.Option.{Option, none, some}
use lib.IntN.{ℤ}
use Rattle.itron.specs.declared.error.Error.{Error as Refusal}
use Rattle.model.specs.State.{State, no}
use Rattle.model.specs.Answers.{Out, reply_of, plain, code_of}
use Rattle.model.specs.Acts.{refer}
use Rattle.model.specs.Calls.{Op, on_semaphore, on_queue, call, asks, act_if, step}
use Rattle.model.proofs.Cover.{lawful}

module _ (m : State) (z : ℤ) (op : Op) (h : (asks op).is_refer ≡ true) where
  pub refer_state : (step m (call z op)).state ≡ m
  unfolding step
  refer_state = go ((asks op).check m (no z))
    where
      go : (o : Option Refusal) → (act_if m (no z) (asks op) o).state ≡ m
      go (some e) = refl
      go none = ap (λ (o : Out). o.state) ((lawful op).refers m (no z) h)

  pub refer_reply : plain (code_of (step m (call z op)).answer.code) 0 ≡ reply_of (step m (call z op)).answer
  unfolding step
  refer_reply = go ((asks op).check m (no z))
    where
      go : (o : Option Refusal) → plain (code_of (act_if m (no z) (asks op) o).answer.code) 0 ≡ reply_of (act_if m (no z) (asks op) o).answer
      go (some e) = refl
      go none = rw ((lawful op).refers m (no z) h) refl

-- so it is of both kinds, whatever counts as a refer
pub semaphore_told_lem : (m : State) (z n : ℤ) → (step m (call z (on_semaphore n refer))).state ≡ m
semaphore_told_lem m z n = refer_state m z (on_semaphore n refer) refl

pub queue_told_lem : (m : State) (z n : ℤ) → (step m (call z (on_queue n refer))).state ≡ m
queue_told_lem m z n = refer_state m z (on_queue n refer) refl
