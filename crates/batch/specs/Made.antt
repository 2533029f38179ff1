-- What one request gives. Definitions only.
use Rattle.std.specs.Prelude.{ℕ, ◌≡◌, List, [], ◌∷◌, ℤ}
use Rattle.std.proofs.Math.Option.{Option, none, some}
use Rattle.model.specs.State as Model
use Rattle.model.specs.Calls.{Call, call, op_of, step}
use Rattle.kernel.specs.declared.state.State.{State}
use Rattle.kernel.specs.declared.state.Answer.{Answer}
use Rattle.kernel.specs.View.{view_of}
use Rattle.kernel.specs.Valid.{Valid}
use Rattle.batch.specs.declared.answer.Made.{Made}
use Rattle.std.specs.Prelude.{Option as Optional, Some, None}
use Rattle.model.specs.declared.Request.{Request}
use Rattle.batch.specs.Encoding.{outcome_word, encoded, no_call}

-- the words of an answer that an operation gives
abbrev pub answer_made : Answer → Made
answer_made a =
    record {
      words =
          outcome_word a.outcome ∷ a.word ∷ a.released.task ∷ a.released.word ∷ a.info.first ∷ a.info.second ∷ a.info.amount ∷ a.info.vector.normal1 ∷ a.info.vector.normal2
          ∷ a.info.vector.management ∷ a.info.vector.reference ∷ [];
      state = a.state;
    }

-- what a task is to make of what its numbers ask for
abbrev pub meaning_of : ℤ → Optional Request → Option Call
meaning_of t None = none
meaning_of t (Some q) = some (call t (op_of q))

-- what an item answers in a state of the model, and the state after it
abbrev pub answer_to : Model.State → Option Call → List ℕ
answer_to m none = no_call
answer_to m (some c) = encoded (step m c).answer

abbrev pub next : Model.State → Option Call → Model.State
next m none = m
next m (some c) = (step m c).state

-- an item made on the state s: its answer's words, and what is seen of the state after it
pub record Performs (s : State) (item : Option Call) (r : Made) : Type 0 where
  pub answer : r.words ≡ answer_to (view_of s) item
  pub seen : view_of r.state ≡ next (view_of s) item
  pub valid : Valid r.state
