-- The starred list made by the program: its operations, one after the other, each by its promise. Definitions only.
use Rattle.std.specs.Prelude.{ℕ, ◌≡◌, List, [], ◌∷◌, ℤ, pos, length, get_or}
use Rattle.model.specs.State.{sem_at, queue_at}
use Rattle.model.specs.Answers.{outcome_of, released_of, result_of}
use Rattle.model.specs.Table.{Entry, enter}
use Rattle.model.specs.Verdict.{verdict}
use Rattle.model.specs.Calls.{Op, call}
use Rattle.model.specs.declared.Reply.{Reply}
use Rattle.model.specs.declared.sem.Semaphore.{Semaphore as Sem}
use Rattle.kernel.specs.declared.state.State.{State}
use Rattle.kernel.specs.declared.state.Answer.{Answer}
use Rattle.kernel.specs.declared.state.Entered.{Entered}
use Rattle.kernel.specs.View.{view_of}
use Rattle.kernel.specs.Promises.{Enters, Does}
use Rattle.laws.specs.Runs.{said_by}
use Rattle.laws.specs.Starred.{Item, restart, does, count, buffer, asks, Result, began, says, counts, buffers, finds}

-- the entries of a list, made one after the other: from a state, to a state
pub data EntersAll : State → List Entry → State → Type 0 where
  none : (s : State) → EntersAll s [] s
  one : (s : State) (i : Entry) (r : Entered) → Enters s (enter (view_of s) i) r → (l : List Entry) (s' : State) → EntersAll r.state l s' → EntersAll s (i ∷ l) s'

-- what the program shows of an item: of a call its outcome, its word and the released task, of a verdict its number
pub data Shown : Type 0 where
  restarted : Shown
  answered : Reply → Shown
  counted : ℕ → Shown
  buffered : List ℕ → Shown
  judged : ℤ → Shown

-- what is due, as the program shows it
abbrev pub shown_of : Result → Shown
shown_of began = restarted
shown_of (says c w rs) = answered (record { outcome = outcome_of c; word = w; released = released_of rs })
shown_of (counts n) = counted n
shown_of (buffers b) = buffered b
shown_of (finds o) = judged (result_of o)

-- the items of a list, made one after the other from the state s on, `table` being the closed table: what each shows
pub data Makes (table : State) : State → List Item → List Shown → Type 0 where
  end : (s : State) → Makes table s [] []
  restarts : (s : State) (l : List Item) (rs : List Shown) → Makes table table l rs → Makes table s (restart ∷ l) (restarted ∷ rs)
  calls : (s : State) (t : ℕ) (op : Op) (r : Answer) → Does s (call (pos t) op) r → (l : List Item) (rs : List Shown) → Makes table r.state l rs
      → Makes table s (does t op ∷ l) (answered (said_by r).reply ∷ rs)
  -- the query `semaphore` tells the record
  looks : (s : State) (i : ℕ) (x : Sem) → x ≡ sem_at (view_of s) i → (l : List Item) (rs : List Shown) → Makes table s l rs → Makes table s (count i ∷ l) (counted x.count ∷ rs)
  -- as many words as the query `queue` counts, each the one that the query `word` tells
  reads : (s : State) (q : ℕ) (b : List ℕ) → length b ≡ length (queue_at (view_of s) q).buffer → ((k : ℕ) → get_or b k 0 ≡ get_or (queue_at (view_of s) q).buffer k 0)
      → (l : List Item) (rs : List Shown) → Makes table s l rs → Makes table s (buffer q ∷ l) (buffered b ∷ rs)
  -- `prb_mem` gives the number
  judges : (s : State) (d b z w : ℕ) (r : ℤ) → r ≡ result_of (verdict (view_of s) (pos d) b z w) → (l : List Item) (rs : List Shown) → Makes table s l rs
      → Makes table s (asks d b z w ∷ l) (judged r ∷ rs)
