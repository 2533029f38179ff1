-- Histories: the list of calls from a state on, what each answered, and what one object sees of them. Definitions only.
use Rattle.std.specs.Prelude.{Bool, true, false, List, [], ◌∷◌, ◌++◌, ℕ}
use Rattle.std.proofs.Math.Option.{Option, none, some}
use Rattle.itron.specs.Codes.{Code}
use Rattle.model.specs.Lists.{keep}
use Rattle.model.specs.State.{Vector, Waiter, State, no}
use Rattle.model.specs.Answers.{Released, Answer, when_ok, when_waiting}
use Rattle.model.specs.Waits.{is_other}
use Rattle.model.specs.Acts.{Act, own, refer, set_vector, of_own}
use Rattle.model.specs.ExtendedCalls.{ExtendedCall}
use Rattle.model.specs.Calls.{Op, on_semaphore, on_queue, on_level, Call, asks, step}

-- an event: the state that a call got, the call, and its answer
pub record Event : Type 0 where
  pub before : State
  pub call : Call
  pub answer : Answer

-- a history is a list of events, THE NEWEST FIRST: behind an event stands what was before it
abbrev pub History : Type 0
History = List Event

abbrev pub event : State → Call → Event
event s c = record { before = s; call = c; answer = (step s c).answer }

-- the state after calls, and their history; calls are listed the newest first too, so that each gets the state that those behind it gave
unfoldable pub after : State → List Call → State
after s [] = s
after s (c ∷ cs) = (step (after s cs) c).state

unfoldable pub history : State → List Call → History
history s [] = []
history s (c ∷ cs) = event (after s cs) c ∷ history s cs

-- ---- waits: the one that a call which answers "waiting" begins
abbrev pub joined : Event → List Waiter
joined e = when_waiting [] ((asks e.call.op).begins (no e.call.caller)) e.answer.code

-- the list without the tasks that an answer shows released
abbrev pub without : List Released → List Waiter → List Waiter
without [] l = l
without (r ∷ rs) l = without rs (keep (is_other r.task) l)

-- the waits that calls began by answering "waiting" and whose release no later answer shows, in the order of the calls
abbrev pub pending : History → List Waiter
pending [] = []
pending (e ∷ h) = without e.answer.released (pending h) ++ joined e

-- what a call does to its caller's level, if it is on that
abbrev pub extended_of : Op → Option ExtendedCall
extended_of (on_semaphore n a) = none
extended_of (on_queue n a) = none
extended_of (on_level c) = some c

-- ---- a history as one object sees it: of each call who made it, what was asked of this object (none where the call was on another), what it did to its caller's
-- level, and the answer
pub record Made (C : Type 0) : Type 0 where
  pub caller : ℕ
  pub asked : Option (Act C)
  pub extended : Option ExtendedCall
  pub answer : Answer

module _ {C : Type 0} where
  abbrev pub seen_by : (Op → Option (Act C)) → Event → Made C
  seen_by f e = record { caller = no e.call.caller; asked = f e.call.op; extended = extended_of e.call.op; answer = e.answer }

  -- what a call on an object of this kind asks of the object in question, by whether it is the one that the call names
  abbrev pub asked_if : Bool → Act C → Option (Act C)
  asked_if true a = some a
  asked_if false a = none

  abbrev pub of_asked {ℓ} : {A : Type ℓ} → A → (C → A) → Option (Act C) → A
  of_asked x f none = x
  of_asked x f (some a) = of_own x f a

  -- the object's vector after these calls: that of the last set-vector on it answered E_OK, or else the one that it had
  abbrev pub vector_in : Act C → Vector → Vector
  vector_in (own c) v = v
  vector_in refer v = v
  vector_in (set_vector w) v = w

  abbrev pub vector_by : Option (Act C) → Code → Vector → Vector
  vector_by none k v = v
  vector_by (some a) k v = when_ok v (vector_in a v) k

  abbrev pub vector_since : Vector → List (Made C) → Vector
  vector_since v [] = v
  vector_since v (m ∷ h) = vector_by m.asked m.answer.code (vector_since v h)
