-- What is claimed of the calls on one data queue: its part of demand 3. Definitions only.
use Rattle.std.specs.Prelude.{◌≡◌, Bool, true, false, cond, ◌&&◌, List, [], ◌∷◌, ◌++◌, map, ℕ, ◌+◌, ◌≤◌, eqb, T, ℤ, length}
use Rattle.std.proofs.Math.Option.{Option, none, some}
use Rattle.access.specs.Patterns.{admitted}
use Rattle.model.specs.Lists.{All, keep, Each, gathered}
use Rattle.model.specs.State.{Vector, Queue, Side, receiving, sending, Waiter, no}
use Rattle.model.specs.Answers.{Released, when_ok, when_waiting}
use Rattle.model.specs.Acts.{Act, own, refer, set_vector}
use Rattle.model.specs.Queues.{QueueCall, send, receive, forced_send}
use Rattle.model.specs.Calls.{Op, on_semaphore, on_queue, on_level}
use Rattle.model.specs.History.{History, Made, seen_by, asked_if, of_asked, vector_since}
use Rattle.model.specs.LevelClaims.{running_when}
use Rattle.model.specs.Sends.{Sent, word_of, unforced, times, Ascending, accepts, accepted_of, waiting_sends, withdrawn, enters, entered, handed, finds_full, buffered, drops, dropped, hands, handed_out, leaves}

-- ---- a history as queue q sees it
abbrev pub asked_of : ℕ → Op → Option (Act QueueCall)
asked_of q (on_semaphore n a) = none
asked_of q (on_queue n a) = asked_if (eqb q (no n)) a
asked_of q (on_level c) = none

abbrev pub by_queue : ℕ → History → List (Made QueueCall)
by_queue q h = map (seen_by (asked_of q)) h

-- ---- the pattern that governs a call: all sends are normal operation 1; both receives are normal operation 2; set-vector is management, refer is reference
abbrev pub pattern_for : Vector → Act QueueCall → ℕ
pattern_for v (own (send p w)) = v.normal1
pattern_for v (own (receive p)) = v.normal2
pattern_for v (own (forced_send w)) = v.normal1
pattern_for v refer = v.reference
pattern_for v (set_vector w) = v.management

-- ---- a waiting sender, as the state and as its send show it: the task and its word
pub record Sender : Type 0 where
  pub task : ℕ
  pub word : ℕ

abbrev pub sender_of : Waiter → Sender
sender_of e = record { task = e.task; word = e.word }

abbrev pub sender_in : Sent → Sender
sender_in x = record { task = x.task; word = x.word }

abbrev pub words_in : List Waiter → List ℕ
words_in l = map (λ (e : Waiter). e.word) l

-- ---- the line of a queue in which a task sends, by the tasks' priorities: there is one line, 0; in a queue with attribute 1 there is one for each priority (request T-10)
abbrev pub line_of : (ℕ → ℕ) → Queue → ℕ → ℕ
line_of priority x t = cond (eqb x.attribute 1) (priority t) 0

-- the lines in ascending order, each any number of times
abbrev pub Rising : List ℕ → Type 0
Rising [] = Unit
Rising (k ∷ l) = All (λ (n : ℕ). k ≤ n) l × Rising l

-- whom a call serves: a send who waits to receive, a receive who waits to send
abbrev pub served_in : QueueCall → Option Side
served_in (send p w) = some receiving
served_in (receive p) = some sending
served_in (forced_send w) = some receiving

-- a call of task t that answered "waiting"
abbrev pub began : ℕ → Made QueueCall → Bool
began t m = when_waiting false true m.answer.code && eqb t m.caller

abbrev pub IsReceive : QueueCall → Type 0
IsReceive (send p w) = ⊥
IsReceive (receive p) = Unit
IsReceive (forced_send w) = ⊥

-- ---- who may: `domain` gives each task's, and the queue began with the vector v
module _ (domain : ℕ → ℤ) (v : Vector) where
  -- admitted when it called: its running domain, by the pattern for that kind of call in the vector that held after the calls h
  -- a send is normal operation 1
  abbrev pub may_send : ℕ → List (Made QueueCall) → Bool
  may_send t h = admitted (vector_since v h).normal1 (running_when domain t h)

  -- a receive is normal operation 2
  abbrev pub may_receive : ℕ → List (Made QueueCall) → Bool
  may_receive t h = admitted (vector_since v h).normal2 (running_when domain t h)

  -- an accepted send came from a running domain admitted when it called
  abbrev pub SentAllowed : Made QueueCall → List (Made QueueCall) → Type 0
  SentAllowed m h = All (λ (x : Sent). T (may_send m.caller h)) (accepts m h)

  -- task t's newest call that answered "waiting" was a receive from this queue, and was admitted when it called
  abbrev pub Came : ℕ → List (Made QueueCall) → Type 0
  Came t [] = ⊥
  Came t (m ∷ h) = cond (began t m) (of_asked ⊥ IsReceive m.asked × T (may_receive t h)) (Came t h)

  -- a word handed out went to the receive's own caller, or to a receiver that a send released, which was admitted at its own receive
  abbrev pub TakenIn : Made QueueCall → List (Made QueueCall) → QueueCall → Type 0
  TakenIn m h (send p w) = All (λ (r : Released). Came r.task h) m.answer.released
  TakenIn m h (receive p) = T (may_receive m.caller h)
  TakenIn m h (forced_send w) = All (λ (r : Released). Came r.task h) m.answer.released

  abbrev pub TakenAllowed : Made QueueCall → List (Made QueueCall) → Type 0
  TakenAllowed m h = when_ok Unit (of_asked Unit (TakenIn m h) m.asked) m.answer.code

-- ---- an answer hands out the words of those sends that entered or passed first, of all present at its call
abbrev pub HandsFirst : ℕ → Made QueueCall → List (Made QueueCall) → Type 0
HandsFirst capacity m h = handed m ≡ map word_of (hands capacity m h)

-- a forced send that finds the buffer full drops one word, and no other call drops any
abbrev pub DropsOne : ℕ → Made QueueCall → List (Made QueueCall) → Type 0
DropsOne capacity m h = length (drops capacity m h) ≡ finds_full capacity (buffered capacity h) m

-- of the sends that wait after the calls h none is more urgent
abbrev pub NoneBefore : (ℕ → ℕ) → List (Made QueueCall) → Sent → Type 0
NoneBefore line h y = All (λ (z : Sent). line y.task ≤ line z.task) (waiting_sends h)

-- of the sends that are not forced, those alone enter or pass with a call before which no more urgent one waits
abbrev pub EntersFirst : (ℕ → ℕ) → Made QueueCall → List (Made QueueCall) → Type 0
EntersFirst line m h = All (NoneBefore line h) (keep unforced (enters m h))

-- ---- demand 3, of the calls h (the newest first) as a queue saw them: the table gave it as x and each task its domain and priority, and they left it with this
-- buffer and these senders, first to last. Its order is request T-05's; with which call a word enters or passes is said by `enters` (Sends)
pub record Carried (domain : ℕ → ℤ) (priority : ℕ → ℕ) (x : Queue) (h : List (Made QueueCall)) (buffer : List ℕ) (senders : List Waiter) : Type 0 where
  -- "words in the buffer and handed or dropped out stand in the order in which they entered the buffer or passed straight to a receiver":
  -- all that left and then the buffer; and what each answer hands out, of those present at its call
  pub ordered : gathered (leaves x.capacity) h ++ buffer ≡ map word_of (entered h)
  pub handed_are : Each (HandsFirst x.capacity) h
  -- "every accepted word, told apart by its call, is in exactly one place: handed out, dropped, buffered, with a waiting sender, or withdrawn by T-04;
  -- no other word is in any of them"
  pub placed : (k : ℕ)
      → times k (handed_out x.capacity h) + times k (dropped x.capacity h) + times k (buffered x.capacity h) + times k (waiting_sends h) + times k (withdrawn h)
      ≡ accepted_of k h
  -- "Dropped are just the words that accepted forced sends found oldest in a full buffer, one for each such send"
  pub one_each : Each (DropsOne x.capacity) h
  -- "Sends not forced still enter or pass in call order", and those that wait come behind: in each line
  pub in_call_order : (k : ℕ) → Ascending (keep (λ (y : Sent). eqb k (line_of priority x y.task)) (keep unforced (entered h ++ waiting_sends h)))
  -- every accepted send came from a running domain admitted when it called
  pub senders_allowed : Each (SentAllowed domain x.vector) h
  -- every word handed out went to a receiver whose running domain was admitted when it called
  pub takers_allowed : Each (TakenAllowed domain x.vector) h
  -- the waiting senders are exactly the tasks whose send answered "waiting" and whose release no later answer shows, each with that send's word:
  -- in each line in call order, a more urgent line before a less urgent one
  pub senders_are : (k : ℕ) → keep (λ (y : Sender). eqb k (line_of priority x y.task)) (map sender_of senders) ≡ keep (λ (y : Sender). eqb k (line_of priority x y.task)) (map sender_in (waiting_sends h))
  pub in_lines : Rising (map (λ (e : Waiter). line_of priority x e.task) senders)
  -- no send that is not forced enters or passes while a more urgent one waits
  pub urgent_first : Each (EntersFirst (line_of priority x)) h
