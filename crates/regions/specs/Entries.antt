-- A region's entry (document 01, "Building the table", checks 4 to 6). Definitions only.
use Rattle.std.specs.Prelude.{ℕ, not, List}
use Rattle.std.proofs.Math.Option.{Option, none}
use Rattle.itron.specs.declared.error.Error.{Error as Refusal}
use Rattle.itron.specs.declared.error.Error.TheVariants.{Rsatr as e_rsatr, Par as e_par, Obj as e_obj}
use Rattle.model.specs.State.{Region}
use Rattle.model.specs.Answers.{refuse_if}
use Rattle.model.specs.Regions.{attribute_ok, numbers_ok, place_ok}

-- first hit wins: attribute E_RSATR, numbers E_PAR, starting below the end of the region before E_OBJ
abbrev pub entry_check : ℕ → List Region → ℕ → ℕ → ℕ → Option Refusal
entry_check unit rs attribute base size =
    refuse_if (not (attribute_ok attribute)) e_rsatr
    (refuse_if (not (numbers_ok unit base size)) e_par
    (refuse_if (not (place_ok rs base)) e_obj none))
