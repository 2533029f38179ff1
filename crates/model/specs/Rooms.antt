-- Rooms: what a kind of object is to every call, and the checks and the effect of a call on one of its objects (document 01, "Calls on an open gateway"; running domain: request T-03). Definitions only.
use Rattle.std.specs.Prelude.{Bool, not, ◌&&◌, List, [], ℕ, length, eqb, leb, ℤ}
use Rattle.std.proofs.Math.Option.{Option, none}
use Rattle.access.specs.Patterns.{admitted}
use Rattle.access.specs.Vectors.{pattern_of}
use Rattle.access.specs.declared.vector.Operation.{Operation}
use Rattle.itron.specs.Codes.{Code}
use Rattle.itron.specs.declared.error.Error.{Error as Refusal}
use Rattle.itron.specs.declared.error.Error.TheVariants.{Ctx as e_ctx, Id as e_id, Par as e_par, Noexs as e_noexs, Oacv as e_oacv}
use Rattle.model.specs.Lists.{at, put}
use Rattle.model.specs.State.{Vector, TaskEntry, Place, Waiter, State, running_at, no}
use Rattle.model.specs.Answers.{Info, Effect, effect, Out, out, tells, refuse_if}
use Rattle.model.specs.Waits.{absent, gives}
use Rattle.model.specs.Acts.{Act, own, refer, set_vector, of_own, operation_of, is_refer, Slots, clear}

-- ---- what a room says of its objects, whose records are R, and of its own calls, C
pub record Room (C R : Type 0) : Type 0 where
  -- how many objects there can be; their records in a state; the state with other waiting tasks and other records
  pub most : ℕ
  pub records : State → List R
  pub with : State → List Waiter → List R → State
  -- what has no such number; an object's vector; the same object with another one
  pub nothing : R
  pub vector : R → Vector
  pub with_vector : R → Vector → R
  -- which operation an own call is; what it must meet besides the checks of every call; what it does, by task t on the object n, the table's tasks being given
  pub operation : C → Operation
  pub slots : List Waiter → List R → ℕ → C → Slots
  pub does : List TaskEntry → List Waiter → List R → ℕ → ℕ → C → Effect R
  -- what a refer tells of the object n
  pub told : List TaskEntry → List Waiter → List R → ℕ → Info
  -- the wait that an own call of task t begins, if it answers "waiting"; the place to whose waiting tasks it is, with its answer, an
  -- accepted call of the opposite kind
  pub begins : ℕ → ℕ → C → List Waiter
  pub serves : ℕ → C → Code → Option Place

-- ---- the checks of every call
-- a registered ready task
abbrev pub ready : State → ℕ → Bool
ready s t = not (eqb t 0) && leb t (length s.fixed.tasks) && absent t s.waits

-- a number from 1 to the limit of its kind
abbrev pub in_range : ℕ → ℕ → Bool
in_range most n = not (eqb n 0) && leb n most

abbrev pub admits : ℤ → ℕ → Bool
admits d p = admitted p d

module _ {C R : Type 0} (r : Room C R) where
  -- the vector of the object n
  abbrev pub vector_at : State → ℕ → Vector
  vector_at s n = r.vector (at r.nothing (r.records s) n)

  -- what a call must meet besides: a refer and a set-vector nothing
  abbrev pub slots_of : State → ℕ → Act C → Slots
  slots_of s n a = of_own clear (r.slots s.waits (r.records s) n) a

  -- first hit wins: table not closed, or caller not a registered ready task: E_CTX; number out of range: E_ID; bad arguments: E_PAR; not registered: E_NOEXS;
  -- numbers that do not fit the object: E_PAR; caller's running domain not admitted: E_OACV; then the use of the object
  unfoldable pub check : State → ℕ → ℕ → Act C → Option Refusal
  check s t n a =
      refuse_if (not (s.fixed.closed && ready s t)) e_ctx
      (refuse_if (not (in_range r.most n)) e_id
      (refuse_if (not (slots_of s n a).arguments) e_par
      (refuse_if (not (leb n (length (r.records s)))) e_noexs
      (refuse_if (not (slots_of s n a).numbers) e_par
      (refuse_if (not (admits (running_at s t) (pattern_of (vector_at s n) (operation_of r.operation a)))) e_oacv
      (slots_of s n a).misuse)))))

  -- ---- then the effect, on the waiting tasks and the records
  -- set-vector: all four patterns are replaced
  abbrev pub set_vector_of : List R → ℕ → Vector → List R
  set_vector_of xs n v = put xs n (r.with_vector (at r.nothing xs n) v)

  -- a refer tells, and changes nothing
  abbrev pub act_on : List TaskEntry → List Waiter → List R → ℕ → ℕ → Act C → Effect R
  act_on ts ws xs t n (own c) = r.does ts ws xs t n c
  act_on ts ws xs t n refer = effect (tells (r.told ts ws xs n)) ws xs
  act_on ts ws xs t n (set_vector v) = gives ws (set_vector_of xs n v) 0

  -- what an effect gives, in the state
  abbrev pub on_records : State → Effect R → Out
  on_records s e = out e.answer (r.with s e.waits e.records)

-- ---- what a call is, whatever it asks of whom
pub record Asks : Type 0 where
  -- the checks of a call by task t, and what it does once they are passed
  pub check : State → ℕ → Option Refusal
  pub act : State → ℕ → Out
  -- whether it is a refer, and what that tells
  pub is_refer : Bool
  pub told : State → Info
  -- the wait that a call of task t begins, if it answers "waiting"; the place that it serves, by its answer
  pub begins : ℕ → List Waiter
  pub serves : Code → Option Place

-- an act on the object with a number
abbrev pub on_object : {C R : Type 0} → Room C R → ℤ → Act C → Asks
on_object r n a =
    record {
      check = λ s t. check r s t (no n) a;
      act = λ s t. on_records r s (act_on r s.fixed.tasks s.waits (r.records s) t (no n) a);
      is_refer = is_refer a;
      told = λ s. r.told s.fixed.tasks s.waits (r.records s) (no n);
      begins = λ t. of_own [] (r.begins t (no n)) a;
      serves = λ k. of_own none (λ c. r.serves (no n) c k) a;
    }
