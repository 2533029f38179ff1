-- What each operation promises, whatever goes in: the whole answer with the complete state, refusals too. Definitions only.
use Rattle.std.specs.Prelude.{◌≡◌, ℕ, ℤ}
use Rattle.itron.specs.Codes.{error}
use Rattle.itron.specs.declared.error.Error.{Error as Refusal}
use Rattle.model.specs.Answers.{Out}
use Rattle.model.specs.Table.{fresh}
use Rattle.model.specs.Calls.{Call, step}
use Rattle.kernel.specs.declared.state.State.{State}
use Rattle.kernel.specs.declared.state.Answer.{Answer}
use Rattle.kernel.specs.declared.state.Entered.{Entered}
use Rattle.kernel.specs.View.{view_of}
use Rattle.kernel.specs.Valid.{Valid}
use Rattle.kernel.specs.Answers.{answer_of, entered_of}

-- a call
pub record Does (s : State) (c : Call) (r : Answer) : Type 0 where
  -- code, word, released task, what a refer tells and the complete state are the model's
  pub same : r ≡ answer_of (step (view_of s) c)
  -- what is seen of the state is the model's next state
  pub seen : view_of r.state ≡ (step (view_of s) c).state
  -- the condition holds again
  pub valid : Valid r.state
  -- a refusal gives back the very state
  pub kept : (e : Refusal) → (step (view_of s) c).answer.code ≡ error e → r.state ≡ s

-- a refer; whatever it answers, the state is the one it got
pub record Tells (s : State) (c : Call) (r : Answer) : Type 0 where
  pub same : r ≡ answer_of (step (view_of s) c)
  pub valid : Valid r.state
  pub kept : r.state ≡ s

-- a fresh state for n user domains and a protection unit
pub record Begins (n : ℤ) (unit : ℕ) (r : Entered) : Type 0 where
  pub same : r ≡ entered_of (fresh n unit)
  pub seen : view_of r.state ≡ (fresh n unit).state
  pub valid : Valid r.state

-- an entry or closing, to which the model answers o
pub record Enters (s : State) (o : Out) (r : Entered) : Type 0 where
  pub same : r ≡ entered_of o
  pub seen : view_of r.state ≡ o.state
  pub valid : Valid r.state
  pub kept : (e : Refusal) → o.answer.code ≡ error e → r.state ≡ s
