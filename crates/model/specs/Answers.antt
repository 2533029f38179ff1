-- What an operation answers (document 01, "Calls on an open gateway", "Codes a desk clerk sees"). Definitions only.
use Rattle.std.specs.Prelude.{Bool, true, false, List, [], ◌∷◌, ℕ, ℤ}
use Rattle.std.proofs.Math.Option.{Option, none, some}
use Rattle.itron.specs.Codes.{Code, ok, waiting, error, ok_number, number_of}
use Rattle.itron.specs.declared.error.Error.{Error as Refusal}
pub use Rattle.model.specs.declared.Released.{Released}
pub use Rattle.model.specs.declared.Info.{Info}
pub use Rattle.model.specs.declared.Reply.{Reply}
use Rattle.model.specs.declared.Outcome.{Outcome}
use Rattle.model.specs.declared.Outcome.TheVariants as Outcome
use Rattle.model.specs.State.{State, Waiter, zero_vector}

-- an answer carries a code or "waiting", the word if any, and the released tasks with their words
pub record Answer : Type 0 where
  pub code : Code
  pub word : ℕ
  pub released : List Released
  pub info : Info

-- an answer and the complete state after it
pub record Out : Type 0 where
  pub answer : Answer
  pub state : State

abbrev pub out : Answer → State → Out
out a s = record { answer = a; state = s }

abbrev pub no_info : Info
no_info = record { first = 0; second = 0; amount = 0; vector = zero_vector }

abbrev pub say : Code → ℕ → List Released → Answer
say c w rs = record { code = c; word = w; released = rs; info = no_info }

-- a refusal gives back the state it got, word 0, no released task, and for a refer all numbers 0 and a vector of zeros
abbrev pub refuse : State → Refusal → Out
refuse s e = out (say (error e) 0 []) s

abbrev pub done : State → Out
done s = out (say ok 0 []) s

-- checks in order, first hit wins
abbrev pub refuse_if : Bool → Refusal → Option Refusal → Option Refusal
refuse_if true e r = some e
refuse_if false e r = r

-- a refer tells, and gives back the state it got
abbrev pub tells : Info → Answer
tells i = record { code = ok; word = 0; released = []; info = i }

-- ---- what goes by an answer of E_OK alone, what by "waiting" alone, and what by either
abbrev pub when_ok {ℓ} : {A : Type ℓ} → A → A → Code → A
when_ok x y ok = y
when_ok x y waiting = x
when_ok x y (error e) = x

abbrev pub when_waiting {ℓ} : {A : Type ℓ} → A → A → Code → A
when_waiting x y ok = x
when_waiting x y waiting = y
when_waiting x y (error e) = x

abbrev pub when_accepted {ℓ} : {A : Type ℓ} → A → A → Code → A
when_accepted x y ok = y
when_accepted x y waiting = y
when_accepted x y (error e) = x

-- ---- what an effect on the waiting tasks and the records of one kind gives
pub record Effect (R : Type 0) : Type 0 where
  pub answer : Answer
  pub waits : List Waiter
  pub records : List R

abbrev pub effect : {R : Type 0} → Answer → List Waiter → List R → Effect R
effect a w r = record { answer = a; waits = w; records = r }

-- ---- the answer as the program gives it: which outcome is which number of document 01, or "waiting"
abbrev pub outcome_of : Code → Outcome
outcome_of ok = Outcome.Code ok_number
outcome_of waiting = Outcome.Waiting
outcome_of (error e) = Outcome.Code (number_of e)

-- where there is no released task, both numbers are 0
abbrev pub nobody : Released
nobody = record { task = 0; word = 0 }

abbrev pub released_of : List Released → Released
released_of [] = nobody
released_of (x ∷ l) = x

abbrev pub reply_of : Answer → Reply
reply_of a = record { outcome = outcome_of a.code; word = a.word; released = released_of a.released }

-- a code and a word, nobody released
abbrev pub plain : ℤ → ℕ → Reply
plain z w = record { outcome = Outcome.Code z; word = w; released = nobody }

-- the number of an answer that never waits: a refer, an entry
abbrev pub code_of : Code → ℤ
code_of ok = ok_number
code_of waiting = ok_number
code_of (error e) = number_of e

-- the number that checks give: the first refusal's, or E_OK
abbrev pub result_of : Option Refusal → ℤ
result_of none = ok_number
result_of (some e) = number_of e
