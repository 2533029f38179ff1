-- The entry of a data queue: the checks that concern its own numbers (document 01, "Building the table"). Definitions only.
use Rattle.std.specs.Prelude.{ℕ, not, List}
use Rattle.std.proofs.Math.Option.{Option, none}
use Rattle.itron.specs.declared.error.Error.{Error as Refusal}
use Rattle.itron.specs.declared.error.Error.TheVariants.{Rsatr as e_rsatr, Par as e_par, Nomem as e_nomem}
use Rattle.model.specs.State.{Queue}
use Rattle.model.specs.Answers.{refuse_if}
use Rattle.model.specs.Queues.{attribute_ok, numbers_ok, memory_ok}

-- checks 4, 5 and 7, first hit wins
abbrev pub entry_check : List Queue → ℕ → ℕ → Option Refusal
entry_check qs attribute capacity =
    refuse_if (not (attribute_ok attribute)) e_rsatr
    (refuse_if (not (numbers_ok capacity)) e_par
    (refuse_if (not (memory_ok qs capacity)) e_nomem none))
