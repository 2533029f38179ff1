-- What checks find, in the program's words. Definitions only.
use Rattle.std.specs.Prelude.{ℕ, cond, List, leb, length, Result, Ok, Err as Refused}
use Rattle.std.proofs.Math.Option.{Option, none, some}
use Rattle.itron.specs.declared.error.Error.{Error as Refusal}
use Rattle.itron.specs.declared.error.Error.TheVariants.{Id as e_id, Noexs as e_noexs}
use Rattle.model.specs.declared.check.Admitted.{Admitted}
use Rattle.model.specs.declared.check.Target.{Target}
use Rattle.model.specs.Lists.{index, at}
use Rattle.model.specs.Rooms.{Room, in_range}

-- the first refusal, or nothing
abbrev pub passed : Option Refusal → Result Unit Refusal
passed none = Ok tt
passed (some e) = Refused e

-- which of a kind's objects, with these records, a number names
abbrev pub target_in : {C R : Type 0} → Room C R → List R → ℕ → Result Target Refusal
target_in r xs n = cond (in_range r.most n) (cond (leb n (length xs)) (Ok (record { object = index n; vector = r.vector (at r.nothing xs n) })) (Refused e_noexs)) (Refused e_id)

-- the first refusal, or the indexes of the task t and of the object n
abbrev pub checked : Option Refusal → ℕ → ℕ → Result Admitted Refusal
checked (some e) t n = Refused e
checked none t n = Ok (record { task = index t; object = index n })
