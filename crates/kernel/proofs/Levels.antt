-- The levels of a valid state, and from what a call does to them to its answer. Assumes nothing.
use Prim.Native.Nat.{ℕ, suc, ◌-◌, ◌≤◌, ◌<◌}
use native.Mathlib.Omega.{arith}
use mathlib.Core.Path.{◌≡◌, sym, ap, ◌∙◌}
use mathlib.Core.Logic.{◌≢◌}
use mathlib.Core.Bool.{Bool, not}
use mathlib.Core.Option.{Option, none, some}
use lib.IntN.{ℤ}
use lib.ListN.{length, get_or}
use Rattle.itron.specs.Codes.{ok_number, number_of}
use Rattle.itron.specs.declared.error.Error.{Error as Refusal}
use Rattle.itron.specs.declared.error.Error.TheVariants.{Ctx as e_ctx}
use Rattle.model.specs.Lists.{put}
use Rattle.model.specs.State.{level_at, no}
use Rattle.model.specs.Answers.{Out, plain, no_info, refuse_if}
use Rattle.model.specs.ExtendedCalls.{level_check, level_after, check, of_level}
use Rattle.model.specs.Calls.{call, on_level, act_if, step}
use Rattle.model.specs.declared.svc.ExtendedCall.{ExtendedCall}
use Rattle.std.specs.Prelude.{None, Result, Ok, Err as Refused}
use Rattle.levels.specs.declared.state.Levels.{Levels}
use Rattle.levels.specs.Form.{levels_as, with_level}
use Rattle.levels.specs.Effects.{acted_by, acted}
use Rattle.levels.proofs.Back.{with_form, get_seen}
use Rattle.kernel.specs.declared.state.State.{State}
use Rattle.kernel.specs.declared.state.Answer.{Answer}
use Rattle.kernel.specs.View.{view_of}
use Rattle.kernel.specs.Valid.{Valid}
use Rattle.kernel.specs.Answers.{answered, answer_of}
use Rattle.kernel.specs.Inside.{with_levels, caller_in, levels_given, levels_answered}
use Rattle.kernel.specs.Promises.{Does}
use Rattle.kernel.proofs.Back.{promise}
use Rattle.kernel.proofs.Checks.{calls_as, Called, called, uncalled}

-- the level of a registered task
pub level_seen : (s : State) (t : ℕ) → t < length (view_of s).fixed.tasks → get_or s.levels.entries t 0 ≡ level_at (view_of s) (suc t)
level_seen s t h = get_seen (length (view_of s).fixed.tasks) s.levels t h

-- by its number
pub level_numbered : (s : State) (n : ℕ) → n ≢ 0 → n ≤ length (view_of s).fixed.tasks → get_or s.levels.entries (n - 1) 0 ≡ level_at (view_of s) n
level_numbered s n h l =
    let e : n ≡ suc (n - 1) = omega arith in
    level_seen s (n - 1) (omega arith) ∙ ap (level_at (view_of s)) (sym e)

module _ {s : State} (v : Valid s) where
  -- the levels are the form of what is seen of them
  pub levels_held : s.levels ≡ levels_as (view_of s).levels
  levels_held = ap (λ (x : State). x.levels) v.form

  with_seen : (t k : ℕ) → t < length (view_of s).fixed.tasks → with_level s.levels t k ≡ levels_as (put (view_of s).levels (suc t) k)
  with_seen t k h = ap (λ (x : Levels). with_level x t k) levels_held ∙ with_form (view_of s).levels t k (let e = v.sound.fit.levels.each in omega arith)

  -- ---- what a call gives, by who calls
  module _ (z : ℤ) (c : ExtendedCall) where
    -- the rules' answer, whatever the checks give
    abbrev by : Option Refusal → Out
    by o = act_if (view_of s) (no z) (of_level c) o

    pub level_nobody : caller_in (view_of s) (no z) ≡ None → ◌≡◌ {A = Result Levels Refusal} (Refused e_ctx) (levels_given (step (view_of s) (call z (on_level c))))
    unfolding step check
    level_nobody h =
        ap (λ (b : Bool). levels_given (by (refuse_if (not b) e_ctx (level_check c (level_at (view_of s) (no z)))))) (sym (uncalled (view_of s) (no z) h))

    pub level_acts : (task : ℕ) {d : ℤ} → caller_in (view_of s) (no z) ≡ calls_as task d → acted s.levels task c ≡ levels_given (step (view_of s) (call z (on_level c)))
    unfolding step check
    level_acts task h =
        ap (λ (k : ℕ). acted_by s.levels task (level_check c k) (level_after c k)) (level_seen s task n.low ∙ ap (level_at (view_of s)) (sym n.names))
        ∙ go (level_check c (level_at (view_of s) (no z)))
        ∙ ap (λ (b : Bool). levels_given (by (refuse_if (not b) e_ctx (level_check c (level_at (view_of s) (no z)))))) (sym n.may)
      where
        n : Called (view_of s) (no z) task
        n = called (view_of s) (no z) task h

        k : ℕ
        k = level_after c (level_at (view_of s) (no z))

        go : (o : Option Refusal) → acted_by s.levels task o k ≡ levels_given (by o)
        go (some e) = λ i. Refused e
        go none = ap (λ (x : Levels). Ok x) (with_seen task k n.low ∙ ap (λ (t : ℕ). levels_as (put (view_of s).levels t k)) (sym n.names))

    -- ---- the whole promise
    pub on_levels : {x : Result Levels Refusal} {r : Answer} → x ≡ levels_given (step (view_of s) (call z (on_level c))) → r ≡ levels_answered s x → Does s (call z (on_level c)) r
    unfolding step
    on_levels e q = promise v (call z (on_level c)) (q ∙ ap (levels_answered s) e ∙ go (check (view_of s) (no z) c))
      where
        go : (o : Option Refusal) → levels_answered s (levels_given (by o)) ≡ answer_of (by o)
        go (some x) = ap (answered (plain (number_of x) 0) no_info) v.form
        go none = ap (λ (y : State). answered (plain ok_number 0) no_info (with_levels y (levels_as (by none).state.levels))) v.form
