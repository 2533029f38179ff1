-- What the exported function promises, whatever a host lends: no condition is left to the caller. Definitions only.
use Rattle.std.specs.Prelude.{ℕ, ◌*◌, ◌≡◌, List, ◌++◌, length, drop}
use Rattle.model.specs.History.{after}
use Rattle.model.specs.Demand3.{Demand3}
use Rattle.batch.specs.Encoding.{answer_words, answerable, answers_in}
use Rattle.batch.specs.Runs.{items_made, calls_made, history_made}
use Rattle.laws.specs.Starred.{bench}

-- a run from the bench table on
pub record Hosted (calls before behind : List ℕ) (r : ℕ) : Type 0 where
  -- how many items are answered
  pub answered : r ≡ answerable (length calls) (length before)
  -- the slice begins with the answers of the calls' history from the bench table on; nothing else is written
  pub answers : behind ≡ answers_in (items_made calls before) (history_made bench calls before) ++ drop (r * answer_words) before
  -- demand 3 holds of that history and of the state after it
  pub demand : Demand3 bench (history_made bench calls before) (after bench (calls_made calls before))
