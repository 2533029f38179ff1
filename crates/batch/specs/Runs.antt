-- What a run over a list of calls promises. Definitions only.
use Rattle.std.specs.Prelude.{ℕ, ◌*◌, ◌≡◌, List, ◌++◌, length, drop}
use Rattle.std.proofs.Math.Option.{Option}
use Rattle.model.specs.State as Model
use Rattle.model.specs.Calls.{Call}
use Rattle.model.specs.History.{History, after, history}
use Rattle.model.specs.Demand3.{Demand3, JustClosed}
use Rattle.kernel.specs.declared.state.State.{State}
use Rattle.kernel.specs.View.{view_of}
use Rattle.kernel.specs.Valid.{Valid}
use Rattle.batch.specs.declared.run.Ran.{Ran}
use Rattle.batch.specs.Encoding.{answer_words, answerable, items_in, calls_in, answers_in}

-- the items that are made, and the calls among them, the newest first
abbrev pub items_made : List ℕ → List ℕ → List (Option Call)
items_made calls answers = items_in calls (answerable (length calls) (length answers))

abbrev pub calls_made : List ℕ → List ℕ → List Call
calls_made calls answers = calls_in (items_made calls answers)

-- their history, from a state of the model on
abbrev pub history_made : Model.State → List ℕ → List ℕ → History
history_made m calls answers = history m (calls_made calls answers)

-- a run from the state s on, over the words of `calls`; `before` and `behind` are the words of the answers' slice before it and behind it
pub record Runs (s : State) (calls before behind : List ℕ) (r : Ran) : Type 0 where
  -- how many items are answered
  pub answered : r.answered ≡ answerable (length calls) (length before)
  -- the state is the one after the calls
  pub state : view_of r.state ≡ after (view_of s) (calls_made calls before)
  pub valid : Valid r.state
  -- the slice begins with the answers of the history; nothing else is written
  pub answers : behind ≡ answers_in (items_made calls before) (history_made (view_of s) calls before) ++ drop (r.answered * answer_words) before
  -- from a table just closed, demand 3 holds of that history and of this state
  pub demand : JustClosed (view_of s) → Demand3 (view_of s) (history_made (view_of s) calls before) (view_of r.state)
