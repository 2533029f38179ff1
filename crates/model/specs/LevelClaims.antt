-- What is claimed of a task's level of extended service calls: counted from the calls, and its part of demand 3 (request T-03). Definitions only.
use Rattle.std.specs.Prelude.{◌≡◌, cond, List, map, ℕ, ◌+◌, ◌-◌, eqb, ℤ}
use Rattle.std.proofs.Math.Option.{Option, none, some}
use Rattle.access.specs.Domains.{running_of}
use Rattle.model.specs.Lists.{total}
use Rattle.model.specs.Answers.{when_ok}
use Rattle.model.specs.ExtendedCalls.{ExtendedCall, Enter, Leave}
use Rattle.model.specs.Calls.{Op}
use Rattle.model.specs.History.{History, Made, seen_by}

-- ---- what is counted
abbrev pub enter_in : ExtendedCall → ℕ
enter_in Enter = 1
enter_in Leave = 0

abbrev pub leave_in : ExtendedCall → ℕ
leave_in Enter = 0
leave_in Leave = 1

abbrev pub of_extended : (ExtendedCall → ℕ) → Option ExtendedCall → ℕ
of_extended f none = 0
of_extended f (some c) = f c

module _ {C : Type 0} where
  -- 1 where a call is task t's and answers E_OK, and enters; leaves
  abbrev pub enters_by : ℕ → Made C → ℕ
  enters_by t m = cond (eqb t m.caller) (when_ok 0 (of_extended enter_in m.extended) m.answer.code) 0

  abbrev pub leaves_by : ℕ → Made C → ℕ
  leaves_by t m = cond (eqb t m.caller) (when_ok 0 (of_extended leave_in m.extended) m.answer.code) 0

  -- the level of task t after these calls: its accepted enters less its accepted leaves
  abbrev pub level_since : ℕ → List (Made C) → ℕ
  level_since t h = total (enters_by t) h - total (leaves_by t) h

  -- the domain as which task t ran after these calls; `domain` gives each task's own
  abbrev pub running_when : (ℕ → ℤ) → ℕ → List (Made C) → ℤ
  running_when domain t h = running_of (domain t) (level_since t h)

  -- ---- demand 3: level + accepted leaves = accepted enters
  abbrev pub Leveled : ℕ → List (Made C) → (level : ℕ) → Type 0
  Leveled t h level = level + total (leaves_by t) h ≡ total (enters_by t) h

-- a history as no object sees it
abbrev pub by_none : History → List (Made ⊥)
by_none h = map (seen_by (λ (op : Op). none)) h
