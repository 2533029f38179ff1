-- Extended service calls (request T-03): what entering and leaving answers, and what it changes, each by plain facts of the state before. Assumes nothing.
use mathlib.Core.Path.{◌≡◌, refl, sym, ap, ◌∙◌}
use mathlib.Core.Logic.{◌≢◌}
use mathlib.Core.Bool.{Bool}
use mathlib.Core.List.{List, [], ◌∷◌, ◌++◌}
use mathlib.Core.Option.{none}
use Prim.Native.Nat.{ℕ, suc, ◌<◌}
use native.Mathlib.Omega.{arith}
use lib.IntN.{ℤ, pos}
use lib.ListN.{length}
use borrow.Author.Tests.{lt-leb, ne_eqb}
use Rattle.itron.specs.Codes.{ok}
use Rattle.itron.specs.declared.error.Error.TheVariants.{Ctx as e_ctx, Sys as e_sys}
use Rattle.itron.specs.Limits.{max_level}
use Rattle.model.specs.Lists.{put}
use Rattle.model.specs.State.{Sem, Queue, Waiter, Fixed, State, level_at, no}
use Rattle.model.specs.Answers.{Out, refuse_if}
use Rattle.model.specs.ExtendedCalls.{ExtendedCall, Enter, Leave, level_check, level_after, of_level}
use Rattle.model.specs.ExtendedCalls as Extended
use Rattle.model.specs.Calls.{on_level, call, act_if, step}
use Rattle.model.specs.Denials.{Ready}
use Rattle.model.proofs.Answers.{ready_tells, answers, refuses, ctx_when}
use Rattle.model.proofs.Effects.{put_nth}
use Rattle.model.proofs.Places.{nth, all_each}
use Rattle.model.proofs.Tests.{passes_on}

-- a ready task of a closed table gets what its level gives
by_level : (s : State) (t : ℤ) (c : ExtendedCall) → Ready s (no t) → step s (call t (on_level c)) ≡ act_if s (no t) (of_level c) (level_check c (level_at s (no t)))
unfolding step Extended.check
by_level s t c r = ap (act_if s (no t) (of_level c)) (passes_on (ready_tells s (no t)) e_ctx (level_check c (level_at s (no t))) r)

module _ (s : State) (t : ℤ) where
  -- "entering at 255 is E_SYS"
  pub enter_full : Ready s (no t) → level_at s (no t) ≡ 255 → (step s (call t (on_level Enter))).answer ≡ refuses e_sys
  enter_full r e = ap (λ (o : Out). o.answer) (by_level s t Enter r) ∙ ap (λ (k : ℕ). (act_if s (no t) (of_level Enter) (level_check Enter k)).answer) e

  -- "leaving at 0 is E_CTX"
  pub leave_outside : Ready s (no t) → level_at s (no t) ≡ 0 → (step s (call t (on_level Leave))).answer ≡ refuses e_ctx
  leave_outside r e = ap (λ (o : Out). o.answer) (by_level s t Leave r) ∙ ap (λ (k : ℕ). (act_if s (no t) (of_level Leave) (level_check Leave k)).answer) e

  -- who is no ready task of a closed table, as one that waits, can neither enter nor leave
  pub level_ctx : (c : ExtendedCall) → (Ready s (no t) → ⊥) → (step s (call t (on_level c))).answer ≡ refuses e_ctx
  level_ctx c f = ctx_when s t (on_level c) f

-- a task that waits is none
pub waiting_cannot : (s : State) (t : ℤ) (c : ExtendedCall) (a : List Waiter) (e : Waiter) (b : List Waiter) → s.waits ≡ a ++ e ∷ b → e.task ≡ no t → (step s (call t (on_level c))).answer ≡ refuses e_ctx
waiting_cannot s t c a e b h z = level_ctx s t c (λ r. all_each (λ (x : Waiter). no t ≢ x.task) s.waits a b e h r.1.1 (sym z))

-- ---- the whole answer and the whole state, by the lists themselves: the caller is the task with the level k
module _ (f : Fixed) (ws : List Waiter) (xs : List Sem) (qs : List Queue) (l m : List ℕ) where
  abbrev pub level_state : ℕ → State
  level_state k = record { fixed = f; waits = ws; sems = xs; queues = qs; levels = l ++ (k ∷ m) }

  abbrev pub caller : ℤ
  caller = pos (suc (length l))

  -- what a call that its level lets pass gives: E_OK, that one level, and nothing else
  moves : (k n : ℕ) (c : ExtendedCall) → level_check c k ≡ none → level_after c k ≡ n → Ready (level_state k) (suc (length l))
      → step (level_state k) (call caller (on_level c)) ≡ record { answer = answers ok 0 []; state = level_state n }
  moves k n c h e r =
      let z = nth 0 k l m in
      by_level (level_state k) caller c r
      ∙ ap (λ (j : ℕ). act_if (level_state k) (suc (length l)) (of_level c) (level_check c j)) z
      ∙ ap (act_if (level_state k) (suc (length l)) (of_level c)) h
      ∙ ap (λ (ls : List ℕ). record { answer = answers ok 0 []; state = record { fixed = f; waits = ws; sems = xs; queues = qs; levels = ls } })
      (ap (λ (j : ℕ). put (l ++ (k ∷ m)) (suc (length l)) j) (ap (level_after c) z ∙ e) ∙ put_nth l m k n)

  -- "Entering adds one"
  pub enter_adds : (k : ℕ) → k < 255 → Ready (level_state k) (suc (length l))
      → step (level_state k) (call caller (on_level Enter)) ≡ record { answer = answers ok 0 []; state = level_state (suc k) }
  enter_adds k h r = moves k (suc k) Enter (ap (λ (b : Bool). refuse_if b e_sys none) (lt-leb max_level k h)) refl r

  -- "leaving takes one off"
  pub leave_takes : (k : ℕ) → Ready (level_state (suc k)) (suc (length l))
      → step (level_state (suc k)) (call caller (on_level Leave)) ≡ record { answer = answers ok 0 []; state = level_state k }
  leave_takes k r = moves (suc k) k Leave (ap (λ (b : Bool). refuse_if b e_ctx none) (ne_eqb (suc k) 0 (λ e. omega arith))) (omega arith) r
