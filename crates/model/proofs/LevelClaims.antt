-- What one call does to the levels of extended service calls, and each task's level after any list of calls (request T-03). Assumes nothing.
use mathlib.Core.Path.{◌≡◌, refl, sym, ap, ◌∙◌}
use mathlib.Core.Bool.{Bool, true, false, cond, ◌&&◌}
use mathlib.Core.List.{List, [], ◌∷◌, map}
use mathlib.Core.Option.{Option, none, some}
use Prim.Native.Nat.{ℕ, zero, suc, ◌+◌, ◌-◌, ◌≤◌, ◌<◌}
use native.Mathlib.Omega.{arith}
use lib.Dec.{eqb, leb}
use lib.IntN.{ℤ, negsuc}
use lib.ListN.{length, length-map}
use borrow.Author.Tests.{leb-false}
use Rattle.access.proofs.Laws.{running_inside}
use Rattle.access.specs.Domains.{running_of}
use Rattle.itron.specs.Codes.{Code, ok, waiting, error}
use Rattle.itron.specs.declared.error.Error.{Error as Refusal}
use Rattle.itron.specs.declared.error.Error.TheVariants.{Ctx as e_ctx, Sys as e_sys}
use Rattle.itron.specs.Limits.{max_level}
use Rattle.model.specs.Lists.{at, put, All, total}
use Rattle.model.specs.State.{TaskEntry, Fixed, State, no_levels, level_at, no}
use Rattle.model.specs.Answers.{refuse_if, when_ok}
use Rattle.model.specs.Acts.{Act}
use Rattle.model.specs.Rooms.{ready}
use Rattle.model.specs.ExtendedCalls.{ExtendedCall, Enter, Leave, level_check, level_after, check}
use Rattle.model.specs.Calls.{Op, on_semaphore, on_queue, on_level, Call, asks, act_if, step}
use Rattle.model.specs.Conditions.{LevelsFit}
use Rattle.model.specs.History.{History, Made, event, seen_by, extended_of, after, history}
use Rattle.model.specs.LevelClaims.{enter_in, leave_in, of_extended, enters_by, leaves_by, level_since, running_when, Leveled, by_none}
use Rattle.model.specs.Demand3.{JustClosed}
use Rattle.model.proofs.Lists.{eq_of, ne_of, and_right, at_put_same, at_put_other, length_put, all_put, all_any}
use Rattle.model.proofs.Tests.{true_tells, passed_by}
use Rattle.model.proofs.Rooms.{Calls, calls_of}
use Rattle.model.proofs.Steps.{fixed_law}

-- ---- what the checks of a call on the caller's level leave: a registered ready task, and a level that can change
record Passed (s : State) (t : ℕ) (c : ExtendedCall) : Type 0 where
  pub calls : Calls s t
  pub level : level_check c (level_at s t) ≡ none

passed : (s : State) (t : ℕ) (c : ExtendedCall) → check s t c ≡ none → Passed s t c
unfolding check
passed s t c h =
    let g = passed_by (true_tells (s.fixed.closed && ready s t)) e_ctx _ h in
    record { calls = calls_of s t (and_right s.fixed.closed (ready s t) g.0); level = g.1 }

can_enter : (k : ℕ) → level_check Enter k ≡ none → k < max_level
can_enter k h = go (leb max_level k) refl h
  where
    go : (b : Bool) → leb max_level k ≡ b → refuse_if b e_sys none ≡ none → k < max_level
    go true e q = absurd (let z : ◌≡◌ {A = ℕ} 0 1 = cc in omega arith)
    go false e q = leb-false max_level k e

can_leave : (k : ℕ) → level_check Leave k ≡ none → 0 < k
can_leave zero h = absurd (let z : ◌≡◌ {A = ℕ} 0 1 = cc in omega arith)
can_leave (suc k) h = omega arith

-- ---- one call
-- the levels after it: a call on the caller's level that is done changes that one, and nothing else changes any
abbrev levels_by : State → ℕ → Option ExtendedCall → Code → List ℕ
levels_by s t none k = s.levels
levels_by s t (some c) k = when_ok s.levels (put s.levels t (level_after c (level_at s t))) k

pub levels_law : (s : State) (c : Call) → (step s c).state.levels ≡ levels_by s (no c.caller) (extended_of c.op) (step s c).answer.code
unfolding step
levels_law s c = go c.op ((asks c.op).check s (no c.caller))
  where
    t : ℕ
    t = no c.caller

    go : (op : Op) (o : Option Refusal) → (act_if s t (asks op) o).state.levels ≡ levels_by s t (extended_of op) (act_if s t (asks op) o).answer.code
    go (on_semaphore n a) none = refl
    go (on_semaphore n a) (some e) = refl
    go (on_queue n a) none = refl
    go (on_queue n a) (some e) = refl
    go (on_level x) none = refl
    go (on_level x) (some e) = refl

-- "A level is what no other call changes"
pub levels_stay : (s : State) (c : Call) → extended_of c.op ≡ none → (step s c).state.levels ≡ s.levels
levels_stay s c h = levels_law s c ∙ ap (λ (x : Option ExtendedCall). levels_by s (no c.caller) x (step s c).answer.code) h

-- each task has one still
pub each_law : (s : State) (c : Call) → length (step s c).state.levels ≡ length s.levels
each_law s c = ap length (levels_law s c) ∙ go (extended_of c.op) (step s c).answer.code
  where
    go : (x : Option ExtendedCall) (k : Code) → length (levels_by s (no c.caller) x k) ≡ length s.levels
    go none k = refl
    go (some x) ok = length_put s.levels (no c.caller) _
    go (some x) waiting = refl
    go (some x) (error e) = refl

-- a task's level is one more for each accepted enter of its own, and one less for each accepted leave
module _ (s : State) (each : length s.levels ≡ length s.fixed.tasks) (t u : ℕ) where
  level_put : Calls s t → (x : ℕ) (b : Bool) → eqb u t ≡ b → at 0 (put s.levels t x) u ≡ cond b x (level_at s u)
  level_put k x true e = ap (at 0 (put s.levels t x)) (eq_of u t e) ∙ at_put_same 0 s.levels t x k.caller (let n = k.known in omega arith)
  level_put k x false e = at_put_other 0 s.levels t u x (ne_of u t e)

  entered : (b : Bool) → eqb u t ≡ b → cond b (suc (level_at s t)) (level_at s u) + cond b 0 0 ≡ level_at s u + cond b 1 0
  entered true e = let z = ap (level_at s) (eq_of u t e) in omega arith
  entered false e = refl

  left : level_check Leave (level_at s t) ≡ none → (b : Bool) → eqb u t ≡ b → cond b (level_at s t - 1) (level_at s u) + cond b 1 0 ≡ level_at s u + cond b 0 0
  left h true e = let z = ap (level_at s) (eq_of u t e) in let p = can_leave (level_at s t) h in omega arith
  left h false e = refl

  moved : (op : Op) (o : Option Refusal) → (asks op).check s t ≡ o
      → level_at (act_if s t (asks op) o).state u + cond (eqb u t) (when_ok 0 (of_extended leave_in (extended_of op)) (act_if s t (asks op) o).answer.code) 0
      ≡ level_at s u + cond (eqb u t) (when_ok 0 (of_extended enter_in (extended_of op)) (act_if s t (asks op) o).answer.code) 0
  moved op (some e) h = refl
  moved (on_semaphore n a) none h = refl
  moved (on_queue n a) none h = refl
  moved (on_level Enter) none h = ap (λ (k : ℕ). k + cond (eqb u t) 0 0) (level_put (passed s t Enter h).calls _ (eqb u t) refl) ∙ entered (eqb u t) refl
  moved (on_level Leave) none h = let p = passed s t Leave h in ap (λ (k : ℕ). k + cond (eqb u t) 1 0) (level_put p.calls _ (eqb u t) refl) ∙ left p.level (eqb u t) refl

pub level_law : {C : Type 0} (f : Op → Option (Act C)) (s : State) → length s.levels ≡ length s.fixed.tasks → (c : Call) (u : ℕ)
    → level_at (step s c).state u + leaves_by u (seen_by f (event s c)) ≡ level_at s u + enters_by u (seen_by f (event s c))
unfolding step
level_law f s each c u = moved s each (no c.caller) u c.op ((asks c.op).check s (no c.caller)) refl

-- ---- the limits are kept
bounded_step : (s : State) → All (λ (k : ℕ). k ≤ max_level) s.levels → (c : Call) → All (λ (k : ℕ). k ≤ max_level) (step s c).state.levels
unfolding step
bounded_step s f c = go c.op ((asks c.op).check s t) refl
  where
    t : ℕ
    t = no c.caller

    go : (op : Op) (o : Option Refusal) → (asks op).check s t ≡ o → All (λ (k : ℕ). k ≤ max_level) (act_if s t (asks op) o).state.levels
    go op (some e) h = f
    go (on_semaphore n a) none h = f
    go (on_queue n a) none h = f
    go (on_level Enter) none h = all_put _ s.levels t _ f (let p = can_enter (level_at s t) (passed s t Enter h).level in omega arith)
    go (on_level Leave) none h = all_put _ s.levels t _ f (let p = all_any (λ (k : ℕ). k ≤ max_level) 0 (omega arith) s.levels t f in omega arith)

pub levels_step : (s : State) → LevelsFit s.fixed.tasks s.levels → (c : Call) → LevelsFit (step s c).state.fixed.tasks (step s c).state.levels
levels_step s f c = record { each = each_law s c ∙ f.each ∙ ap (λ (x : Fixed). length x.tasks) (sym (fixed_law s c)); bounded = bounded_step s f.bounded c }

-- ---- the whole list
pub record Tally (s : State) (h : History) : Type 0 where
  pub each : length s.levels ≡ length s.fixed.tasks
  pub leveled : (t : ℕ) → Leveled t (by_none h) (level_at s t)

-- at first every level is 0
pub none_inside : (ts : List TaskEntry) (t : ℕ) → at 0 (no_levels ts) t ≡ 0
none_inside ts zero = refl
none_inside [] (suc t) = refl
none_inside (x ∷ ts) (suc zero) = refl
none_inside (x ∷ ts) (suc (suc t)) = none_inside ts (suc t)

pub tally_start : (s : State) → JustClosed s → Tally s []
tally_start s j = record {
  each = ap length j.outside ∙ length-map s.fixed.tasks (λ (x : TaskEntry). 0);
  leveled = λ t. ap (λ (k : ℕ). k + 0) (ap (λ (l : List ℕ). at 0 l t) j.outside ∙ none_inside s.fixed.tasks t);
}

pub tally_step : (s : State) (h : History) → Tally s h → (c : Call) → Tally (step s c).state (event s c ∷ h)
tally_step s h k c = record {
  each = each_law s c ∙ k.each ∙ ap (λ (x : Fixed). length x.tasks) (sym (fixed_law s c));
  leveled = λ t. omega (arith, k.leveled t, level_law {C = ⊥} (λ (op : Op). none) s k.each c t);
}

pub tally : (s₀ : State) → JustClosed s₀ → (cs : List Call) → Tally (after s₀ cs) (history s₀ cs)
unfolding after history
tally s₀ j [] = tally_start s₀ j
tally s₀ j (c ∷ cs) = tally_step (after s₀ cs) (history s₀ cs) (tally s₀ j cs) c

-- ---- the running domain by the history: who left as often as it entered runs as its own domain, else as the kernel domain
module _ {C : Type 0} (domain : ℕ → ℤ) (t : ℕ) (h : List (Made C)) where
  pub ran_outside : total (enters_by t) h ≡ total (leaves_by t) h → running_when domain t h ≡ domain t
  ran_outside e = let z : level_since t h ≡ 0 = omega (arith, e) in ap (running_of (domain t)) z

  pub ran_inside : total (leaves_by t) h < total (enters_by t) h → running_when domain t h ≡ negsuc 0
  ran_inside e = running_inside (domain t) (level_since t h) (omega (arith, e))

-- ---- the level by the history, whichever object sees it
module _ {C : Type 0} (f : Op → Option (Act C)) (t : ℕ) where
  pub enters_alike : (h : History) → total (enters_by t) (map (seen_by f) h) ≡ total (enters_by t) (by_none h)
  enters_alike [] = refl
  enters_alike (e ∷ h) = ap (λ (k : ℕ). k + enters_by t (seen_by f e)) (enters_alike h)

  pub leaves_alike : (h : History) → total (leaves_by t) (map (seen_by f) h) ≡ total (leaves_by t) (by_none h)
  leaves_alike [] = refl
  leaves_alike (e ∷ h) = ap (λ (k : ℕ). k + leaves_by t (seen_by f e)) (leaves_alike h)

  pub level_since_lem : {s : State} {h : History} → Tally s h → level_at s t ≡ level_since t (map (seen_by f) h)
  level_since_lem {s} {h} k = omega (arith, k.leveled t, enters_alike h, leaves_alike h)
