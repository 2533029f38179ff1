-- The checks of a semaphore's entry that are its own (document 01, "Building the table"). Definitions only.
use Rattle.std.specs.Prelude.{ℕ, not}
use Rattle.std.proofs.Math.Option.{Option, none}
use Rattle.itron.specs.declared.error.Error.{Error as Refusal}
use Rattle.itron.specs.declared.error.Error.TheVariants.{Rsatr as e_rsatr, Par as e_par}
use Rattle.model.specs.Answers.{refuse_if}
use Rattle.model.specs.Semaphores.{attribute_ok, numbers_ok}

-- steps 4 and 5; steps 6 and 7 are of regions and queues
abbrev pub entry_check : ℕ → ℕ → ℕ → Option Refusal
entry_check a start max = refuse_if (not (attribute_ok a)) e_rsatr (refuse_if (not (numbers_ok start max)) e_par none)
