-- What a call on the caller's level gives. Definitions only.
use Rattle.std.specs.Prelude.{ℕ, get_or, Result, Ok, Err as Refused}
use Rattle.std.proofs.Math.Option.{Option, none, some}
use Rattle.itron.specs.declared.error.Error.{Error as Refusal}
use Rattle.model.specs.ExtendedCalls.{level_check, level_after}
use Rattle.model.specs.declared.svc.ExtendedCall.{ExtendedCall}
use Rattle.levels.specs.declared.state.Levels.{Levels}
use Rattle.levels.specs.Form.{with_level}

-- by what the check of the level found
abbrev pub changed_by : Option Refusal → ℕ → Result ℕ Refusal
changed_by (some e) k = Refused e
changed_by none k = Ok k

abbrev pub changed_of : ExtendedCall → ℕ → Result ℕ Refusal
changed_of c k = changed_by (level_check c k) (level_after c k)

-- a refusal, which leaves all levels as they were, or all levels with the task's changed
abbrev pub acted_by : Levels → ℕ → Option Refusal → ℕ → Result Levels Refusal
acted_by x t (some e) k = Refused e
acted_by x t none k = Ok (with_level x t k)

abbrev pub acted : Levels → ℕ → ExtendedCall → Result Levels Refusal
acted x t c = acted_by x t (level_check c (get_or x.entries t 0)) (level_after c (get_or x.entries t 0))
