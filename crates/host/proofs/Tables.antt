-- A run from a state that is seen as the bench table. Assumes nothing.
use Prim.Native.Nat.{ℕ, ◌*◌}
use mathlib.Core.Path.{◌≡◌, ap, ◌∙◌}
use mathlib.Core.List.{List, ◌++◌}
use lib.ListN.{drop}
use Rattle.model.specs.State as Model
use Rattle.kernel.specs.declared.state.State.{State}
use Rattle.kernel.specs.View.{view_of}
use Rattle.batch.specs.declared.run.Ran.{Ran}
use Rattle.batch.specs.Encoding.{answer_words, answers_in}
use Rattle.batch.specs.Runs.{items_made, calls_made, history_made, Runs}
use Rattle.laws.specs.Starred.{bench}
use Rattle.laws.proofs.Starred.{bench_just_closed}
use Rattle.model.proofs.Demand3.{demand3}
use Rattle.host.specs.Hosted.{Hosted}

pub hosted : {s : State} {calls before behind : List ℕ} {r : Ran} → view_of s ≡ bench → Runs s calls before behind r → Hosted calls before behind r.answered
hosted {s} {calls} {before} {behind} {r} e h =
    record {
      answered = h.answered;
      answers = h.answers ∙ ap (λ (m : Model.State). answers_in (items_made calls before) (history_made m calls before) ++ drop (r.answered * answer_words) before) e;
      demand = demand3 bench bench_just_closed (calls_made calls before);
    }
