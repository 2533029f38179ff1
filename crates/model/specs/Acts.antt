-- What can be asked of an object of any kind. Definitions only.
use Rattle.std.specs.Prelude.{Bool, true, false}
use Rattle.std.proofs.Math.Option.{Option, none}
use Rattle.access.specs.declared.vector.Operation.{Operation}
use Rattle.access.specs.declared.vector.Operation.TheVariants.{Management, Reference}
use Rattle.itron.specs.declared.error.Error.{Error as Refusal}
use Rattle.model.specs.State.{Vector}

-- ---- an object of any kind has its own calls, C, which its room names; it can be referred to, and its vector can be set
pub data Act (C : Type 0) : Type 0 where
  own : C → Act C
  refer : Act C
  set_vector : Vector → Act C

-- what the room says of its own calls; of the two others it is always the same
abbrev pub of_own {ℓ} : {A : Type ℓ} {C : Type 0} → A → (C → A) → Act C → A
of_own x f (own c) = f c
of_own x f refer = x
of_own x f (set_vector v) = x

-- which of its own calls are normal operation 1 and which are 2 the room says; set-vector is management, refer is reference
abbrev pub operation_of : {C : Type 0} → (C → Operation) → Act C → Operation
operation_of f (own c) = f c
operation_of f refer = Reference
operation_of f (set_vector v) = Management

abbrev pub is_refer : {C : Type 0} → Act C → Bool
is_refer (own c) = false
is_refer refer = true
is_refer (set_vector v) = false

-- ---- what a call must meet besides the checks of every call: its arguments (E_PAR), its numbers that need the object (E_PAR),
-- and its use of the object (the code that the room says)
pub record Slots : Type 0 where
  pub arguments : Bool
  pub numbers : Bool
  pub misuse : Option Refusal

-- nothing
abbrev pub clear : Slots
clear = record { arguments = true; numbers = true; misuse = none }
