-- A call's numbers made by the dispatcher give the words and the state of their item. Assumes nothing.
use Prim.Native.Nat.{ℕ, zero, suc, ◌≤◌, ◌<◌}
use native.Mathlib.Omega.{arith}
use mathlib.Core.Path.{◌≡◌, refl, sym, ap, ◌∙◌, subst}
use mathlib.Core.List.{List, [], ◌∷◌}
use mathlib.Core.Option.{none, some}
use mathlib.Core.Logic.{◌⊎◌, inl, inr, ⊎_elim}
use lib.ListN.{length}
use mir.Syntax.{w32}
use mir.Val.{of_z, to_z}
use Rattle.itron.specs.Limits.{max_tasks}
use Rattle.model.specs.Calls.{Call}
use Rattle.model.proofs.Bounds.{small}
use Rattle.kernel.specs.declared.state.State.{State}
use Rattle.kernel.specs.declared.state.Answer.{Answer}
use Rattle.kernel.specs.View.{view_of}
use Rattle.kernel.specs.Valid.{Valid}
use Rattle.kernel.specs.Promises.{Does}
use Rattle.batch.specs.declared.numbers.Numbers.{Numbers}
use Rattle.batch.specs.declared.answer.Made.{Made}
use Rattle.batch.specs.Encoding.{meanings, nth, item_of}
use Rattle.batch.specs.Made.{answer_made, Performs}

-- ---- the numbers of an answer fit a word
pub answer_small : {s : State} → Valid s → {c : Call} {a : Answer} → Does s c a → (a.released.task ≤ max_tasks) × (a.info.first ≤ max_tasks) × (a.info.second ≤ max_tasks)
answer_small {s} v {c} d =
    let b = small (view_of s) v.sound.fit c in
    subst (λ (x : Answer). (x.released.task ≤ max_tasks) × (x.info.first ≤ max_tasks) × (x.info.second ≤ max_tasks)) (sym d.same) (b.released, b.first, b.second)

-- ---- past the last of a list
pub beyond : {A : Type 0} (l : List A) (n : ℕ) → length l < n → nth l n ≡ none
beyond l zero h = refl
beyond [] (suc n) h = refl
beyond (x ∷ l) (suc zero) h = absurd (omega arith)
beyond (x ∷ l) (suc (suc n)) h = beyond l (suc n) (omega arith)

-- ---- an answer's words, and the state after it
pub does : {s : State} {c : Call} {a : Answer} {r : Made} → Does s c a → r ≡ answer_made a → Performs s (some c) r
does {s} {a} {r} d e =
    let t : r.state ≡ a.state = ap (λ (x : Made). x.state) e in
    record {
      answer = ap (λ (x : Made). x.words) e ∙ ap (λ (x : Answer). (answer_made x).words) d.same;
      seen = ap view_of t ∙ d.seen;
      valid = subst (λ (x : State). Valid x) (sym t) d.valid;
    }
