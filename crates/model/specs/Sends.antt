-- The sends on one data queue, each told apart by its call, and where its word is (request T-05); by the calls as the queue saw them. Definitions only.
use Rattle.std.specs.Prelude.{Bool, true, false, cond, not, List, [], ◌∷◌, ◌++◌, map, ℕ, ◌<◌, eqb, leb, length, take, drop}
use Rattle.model.specs.Lists.{All, keep, any_of, gathered}
use Rattle.model.specs.Answers.{Released, Answer, when_ok, when_waiting, when_accepted}
use Rattle.model.specs.Queues.{QueueCall, send, receive, forced_send}
use Rattle.model.specs.History.{Made, of_asked}

-- ---- a send: its call, told by the number of all calls before it, on whatever object, which no other call shares; its task, its word, and whether it is forced
pub record Sent : Type 0 where
  pub call : ℕ
  pub task : ℕ
  pub word : ℕ
  pub forced : Bool

abbrev pub sent_as : ℕ → ℕ → ℕ → Bool → Sent
sent_as k t w f = record { call = k; task = t; word = w; forced = f }

abbrev pub send_in : ℕ → ℕ → QueueCall → List Sent
send_in k t (send p w) = sent_as k t w false ∷ []
send_in k t (receive p) = []
send_in k t (forced_send w) = sent_as k t w true ∷ []

-- the send that a call after the calls h is, if it is one
abbrev pub send_of : Made QueueCall → List (Made QueueCall) → List Sent
send_of m h = of_asked [] (send_in (length h) m.caller) m.asked

abbrev pub word_of : Sent → ℕ
word_of x = x.word

abbrev pub unforced : Sent → Bool
unforced x = not x.forced

-- how many sends of a list are of call k
abbrev pub times : ℕ → List Sent → ℕ
times k l = length (keep (λ (x : Sent). eqb k x.call) l)

-- in call order
abbrev pub Before : Sent → Sent → Type 0
Before x y = x.call < y.call

abbrev pub Ascending : List Sent → Type 0
Ascending [] = Unit
Ascending (x ∷ l) = All (Before x) l × Ascending l

-- ---- a send of any kind is accepted when it answers E_OK or "waiting"
abbrev pub accepts : Made QueueCall → List (Made QueueCall) → List Sent
accepts m h = when_accepted [] (send_of m h) m.answer.code

abbrev pub accepted : List (Made QueueCall) → List Sent
accepted h = gathered accepts h

-- 1 where call k was an accepted send, else 0
abbrev pub accepted_of : ℕ → List (Made QueueCall) → ℕ
accepted_of k [] = 0
accepted_of k (m ∷ h) = cond (eqb k (length h)) (length (accepts m h)) (accepted_of k h)

-- ---- with a waiting sender: the sends that answered "waiting" and whose release no later answer shows
abbrev pub shown : List Released → Sent → Bool
shown rs x = any_of (λ (r : Released). eqb r.task x.task) rs

abbrev pub not_shown : List Released → Sent → Bool
not_shown rs x = not (shown rs x)

abbrev pub waiting_sends : List (Made QueueCall) → List Sent
waiting_sends [] = []
waiting_sends (m ∷ h) = keep (not_shown m.answer.released) (waiting_sends h) ++ when_waiting [] (send_of m h) m.answer.code

-- those whose sender a call releases
abbrev pub freed_by : Made QueueCall → List (Made QueueCall) → List Sent
freed_by m h = keep (shown m.answer.released) (waiting_sends h)

-- ---- withdrawn by a clock step (request T-04): no call that there is withdraws one
abbrev pub withdrawn : List (Made QueueCall) → List Sent
withdrawn h = []

-- ---- "A word enters or passes with its own send's E_OK, or with the receive that releases its sender"
abbrev pub enters_in : List Sent → List Sent → QueueCall → List Sent
enters_in own freed (send p w) = own
enters_in own freed (receive p) = freed
enters_in own freed (forced_send w) = own

abbrev pub enters : Made QueueCall → List (Made QueueCall) → List Sent
enters m h = when_ok [] (of_asked [] (enters_in (send_of m h) (freed_by m h)) m.asked) m.answer.code

-- the sends whose words entered the buffer or passed straight to a receiver, in that order
abbrev pub entered : List (Made QueueCall) → List Sent
entered h = gathered enters h

-- ---- a word is handed out in a receive's E_OK or with a receiver that a send releases
abbrev pub words_of : List Released → List ℕ
words_of rs = map (λ (r : Released). r.word) rs

abbrev pub handed_in : Answer → QueueCall → List ℕ
handed_in a (send p w) = words_of a.released
handed_in a (receive p) = a.word ∷ []
handed_in a (forced_send w) = words_of a.released

abbrev pub handed : Made QueueCall → List ℕ
handed m = when_ok [] (of_asked [] (handed_in m.answer) m.asked) m.answer.code

-- ---- in the buffer, dropped and handed out, of a queue with a capacity
module _ (capacity : ℕ) where
  -- 1 where a call is an accepted forced send and finds the buffer, with the sends b in it, full; else 0
  abbrev pub full_in : List Sent → QueueCall → ℕ
  full_in b (send p w) = 0
  full_in b (receive p) = 0
  full_in b (forced_send w) = cond (leb capacity (length b)) 1 0

  abbrev pub finds_full : List Sent → Made QueueCall → ℕ
  finds_full b m = when_accepted 0 (of_asked 0 (full_in b) m.asked) m.answer.code

  -- those from which a call hands out: the sends in the buffer but for the dropped one, then those that enter or pass with the call
  abbrev pub present : List Sent → Made QueueCall → List (Made QueueCall) → List Sent
  present b m h = drop (finds_full b m) b ++ enters m h

  -- in the buffer, the oldest first: a call takes as many of those present, the first ones, as it hands out words
  abbrev pub buffered : List (Made QueueCall) → List Sent
  buffered [] = []
  buffered (m ∷ h) = drop (length (handed m)) (present (buffered h) m h)

  -- "Dropped are just the words that accepted forced sends found oldest in a full buffer"
  abbrev pub drops : Made QueueCall → List (Made QueueCall) → List Sent
  drops m h = take (finds_full (buffered h) m) (buffered h)

  abbrev pub dropped : List (Made QueueCall) → List Sent
  dropped h = gathered drops h

  -- handed out: the first of those present
  abbrev pub hands : Made QueueCall → List (Made QueueCall) → List Sent
  hands m h = take (length (handed m)) (present (buffered h) m h)

  abbrev pub handed_out : List (Made QueueCall) → List Sent
  handed_out h = gathered hands h

  -- the words that leave with a call: the dropped one, then those that its answer hands out
  abbrev pub leaves : Made QueueCall → List (Made QueueCall) → List ℕ
  leaves m h = map word_of (drops m h) ++ handed m
