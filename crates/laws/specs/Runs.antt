-- Runs of the program: building the table, closing it, and a list of calls, each on the state that the one before gave. Definitions only.
use Rattle.std.specs.Prelude.{ℕ, ◌≡◌, true, List, [], ◌∷◌, ◌++◌, ℤ}
use Rattle.model.specs.Answers.{reply_of, when_ok}
use Rattle.model.specs.Table.{Entry, enter}
use Rattle.model.specs.Calls.{Call, asks}
use Rattle.model.specs.History.{Event}
use Rattle.model.specs.declared.Info.{Info}
use Rattle.model.specs.declared.Reply.{Reply}
use Rattle.kernel.specs.declared.state.State.{State}
use Rattle.kernel.specs.declared.state.Answer.{Answer}
use Rattle.kernel.specs.declared.state.Entered.{Entered}
use Rattle.kernel.specs.View.{view_of}
use Rattle.kernel.specs.Promises.{Begins, Enters, Does, Tells}

-- a state that fresh and any entries, refused ones included, have given
pub data Built : State → Type 0 where
  begun : (n : ℤ) (unit : ℕ) (r : Entered) → Begins n unit r → Built r.state
  entered : (s : State) → Built s → (i : Entry) (r : Entered) → Enters s (enter (view_of s) i) r → Built r.state

-- the entries that it took, in order: those answered E_OK
abbrev pub taken : {s : State} → Built s → List Entry
taken (begun n unit r g) = []
taken (entered s b i r g) = taken b ++ when_ok [] (i ∷ []) (enter (view_of s) i).answer.code

-- what an answer says: outcome, word and released task, and what a refer tells
pub record Said : Type 0 where
  pub reply : Reply
  pub info : Info

abbrev pub said_by : Answer → Said
said_by r = record { reply = record { outcome = r.outcome; word = r.word; released = r.released }; info = r.info }

-- the model's answer, as the program says it
abbrev pub said_in : Event → Said
said_in e = record { reply = reply_of e.answer; info = e.answer.info }

-- from the state s₀: calls, the newest first, the state after them and what each answered
pub data Ran (s₀ : State) : List Call → State → List Said → Type 0 where
  start : Ran s₀ [] s₀ []
  calls : (cs : List Call) (s : State) (l : List Said) → Ran s₀ cs s l → (c : Call) (r : Answer) → Does s c r → Ran s₀ (c ∷ cs) r.state (said_by r ∷ l)
  refers : (cs : List Call) (s : State) (l : List Said) → Ran s₀ cs s l → (c : Call) → (asks c.op).is_refer ≡ true → (r : Answer) → Tells s c r → Ran s₀ (c ∷ cs) r.state (said_by r ∷ l)
