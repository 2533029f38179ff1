-- The checks of a task's entry that are its own (document 01, "Building the table"; request T-10). Definitions only.
use Rattle.std.specs.Prelude.{ℕ, not}
use Rattle.std.proofs.Math.Option.{Option, none}
use Rattle.itron.specs.declared.error.Error.{Error as Refusal}
use Rattle.itron.specs.declared.error.Error.TheVariants.{Par as e_par}
use Rattle.model.specs.Answers.{refuse_if}
use Rattle.model.specs.Table.{priority_ok}

-- step 5; a task has no attribute, and steps 6 and 7 are of regions and queues
abbrev pub entry_check : ℕ → Option Refusal
entry_check p = refuse_if (not (priority_ok p)) e_par none
