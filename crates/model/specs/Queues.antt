-- Data queues: their calls, their entries and what each call on one does (document 01; forced send: request T-05; priority order: request T-10). Definitions only.
use Rattle.std.specs.Prelude.{Bool, true, false, List, [], ◌∷◌, ◌++◌, ℕ, ◌+◌, eqb, leb, ltb, ℤ, length, drop}
use Rattle.std.proofs.Math.Option.{Option, none, some}
use Rattle.access.specs.Vectors.{resolved}
use Rattle.access.specs.Vectors.{Choice}
use Rattle.access.specs.declared.vector.Operation.{Operation}
use Rattle.access.specs.declared.vector.Operation.TheVariants.{Normal1, Normal2}
use Rattle.itron.specs.Codes.{Code}
use Rattle.itron.specs.declared.error.Error.TheVariants.{Iluse as e_iluse}
use Rattle.itron.specs.Limits.{max_capacity, max_queues, max_words}
pub use Rattle.model.specs.declared.dtq.QueueCall.{QueueCall}
pub use Rattle.model.specs.declared.dtq.QueueCall.TheVariants.{Send as send, Receive as receive, ForcedSend as forced_send}
use Rattle.model.specs.declared.dtq.QueueRequest.{QueueRequest}
use Rattle.model.specs.declared.dtq.QueueRequest.TheVariants as Request
use Rattle.model.specs.Lists.{at, put}
use Rattle.model.specs.State.{Vector, TaskEntry, Queue, Waiter, Place, receiving, sending, place, waiter, no_queue, set_waits, set_queues}
use Rattle.model.specs.Answers.{Effect, Info, when_ok, when_accepted}
use Rattle.model.specs.Waits.{Patience, waiters_in, is_order, by_priority, standing, first_task, refusal, wakes, or_waits, gives}
use Rattle.model.specs.Acts.{Act, own, refer, set_vector, Slots, clear}
use Rattle.model.specs.Rooms.{Room}

-- ---- the calls: both sends, of a word, both receives, and the forced send, of a word
-- all sends are normal operation 1; both receives are normal operation 2
abbrev pub operation : QueueCall → Operation
operation (send p w) = Normal1
operation (receive p) = Normal2
operation (forced_send w) = Normal1

-- besides the checks of every call there are none
abbrev pub slots : List Waiter → List Queue → ℕ → QueueCall → Slots
slots ws xs q c = clear

-- the wait that a call of task t begins, if it answers "waiting"
abbrev pub begins : ℕ → ℕ → QueueCall → List Waiter
begins t q (send p w) = waiter t sending q w ∷ []
begins t q (receive p) = waiter t receiving q 0 ∷ []
begins t q (forced_send w) = waiter t sending q w ∷ []

-- for a receiver the accepted call of the opposite kind is a send of any kind, for a sender a receive;
-- a send is accepted also when it answers "waiting", a receive when it answers E_OK
abbrev pub serves : ℕ → QueueCall → Code → Option Place
serves q (send p w) k = when_accepted none (some (place receiving q)) k
serves q (receive p) k = when_ok none (some (place sending q)) k
serves q (forced_send w) k = when_accepted none (some (place receiving q)) k

-- what the program is asked for
abbrev pub act_of : QueueRequest → Act QueueCall
act_of (Request.Own c) = own c
act_of Request.Refer = refer
act_of (Request.SetVector v) = set_vector v

-- ---- the entry
-- 4. queue attributes other than 0 and 1 (priority order): E_RSATR
abbrev pub attribute_ok : ℕ → Bool
attribute_ok a = is_order a

-- 5. queue capacity 0 to its limit
abbrev pub numbers_ok : ℕ → Bool
numbers_ok capacity = leb capacity max_capacity

-- the words that all queues together can hold
abbrev pub words_used : List Queue → ℕ
words_used [] = 0
words_used (q ∷ l) = q.capacity + words_used l

-- 7. queue words above their limit in total: E_NOMEM
abbrev pub memory_ok : List Queue → ℕ → Bool
memory_ok xs capacity = leb (words_used xs + capacity) max_words

-- it starts empty
abbrev pub new_queue : ℤ → ℕ → ℕ → Choice → Queue
new_queue d a c v = record { domain = d; attribute = a; capacity = c; buffer = []; vector = resolved d v }

-- ---- the records
abbrev pub queue_in : List Queue → ℕ → Queue
queue_in xs q = at no_queue xs q

abbrev pub set_buffer : List Queue → ℕ → List ℕ → List Queue
set_buffer xs q b = put xs q (record { domain = (queue_in xs q).domain; attribute = (queue_in xs q).attribute; capacity = (queue_in xs q).capacity; buffer = b; vector = (queue_in xs q).vector })

abbrev pub has_room : Queue → Bool
has_room q = ltb (length q.buffer) q.capacity

-- the wait queue of a queue's senders; its receivers stand as they came
abbrev pub senders_of : List TaskEntry → List Waiter → List Queue → ℕ → List Waiter
senders_of ts ws xs q = standing (by_priority (queue_in xs q).attribute) ts (waiters_in ws (place sending q))

-- ---- the calls, once the checks are passed
-- send: with a waiting receiver, the first gets the word and is released; otherwise, with room, the word goes last into the buffer;
-- otherwise poll-send gives E_TMOUT and send waits with its word, the last to come
abbrev pub send_by : List Waiter → List Queue → ℕ → ℕ → ℕ → Patience → List Waiter → Bool → Effect Queue
send_by ws xs t q w p (e ∷ l) room = wakes ws xs e 0 w
send_by ws xs t q w p [] true = gives ws (set_buffer xs q ((queue_in xs q).buffer ++ (w ∷ []))) 0
send_by ws xs t q w p [] false = or_waits ws xs p (waiter t sending q w)

abbrev pub on_send : List Waiter → List Queue → ℕ → ℕ → ℕ → Patience → Effect Queue
on_send ws xs t q w p = send_by ws xs t q w p (waiters_in ws (place receiving q)) (has_room (queue_in xs q))

-- receive: a buffered word: the oldest is handed out; if a sender waits, the first sender's word moves to the buffer's end and it is released;
-- empty buffer with a waiting sender: its word is handed out and it is released; otherwise poll-receive gives E_TMOUT and receive waits, last
abbrev pub receive_by : List Waiter → List Queue → ℕ → ℕ → Patience → List ℕ → List Waiter → Effect Queue
receive_by ws xs t q p (x ∷ b) [] = gives ws (set_buffer xs q b) x
receive_by ws xs t q p (x ∷ b) (e ∷ l) = wakes ws (set_buffer xs q (b ++ (e.word ∷ []))) e x 0
receive_by ws xs t q p [] (e ∷ l) = wakes ws xs e e.word 0
receive_by ws xs t q p [] [] = or_waits ws xs p (waiter t receiving q 0)

abbrev pub on_receive : List TaskEntry → List Waiter → List Queue → ℕ → ℕ → Patience → Effect Queue
on_receive ts ws xs t q p = receive_by ws xs t q p (queue_in xs q).buffer (senders_of ts ws xs q)

-- forced send: on capacity 0 it is E_ILUSE, even with a waiting receiver; with a waiting receiver and with room it is as a send;
-- into a full buffer: the oldest word is dropped and its own goes last
abbrev pub force_by : List Waiter → List Queue → ℕ → ℕ → Bool → List Waiter → Bool → Effect Queue
force_by ws xs q w true l room = refusal ws xs e_iluse
force_by ws xs q w false (e ∷ l) room = wakes ws xs e 0 w
force_by ws xs q w false [] true = gives ws (set_buffer xs q ((queue_in xs q).buffer ++ (w ∷ []))) 0
force_by ws xs q w false [] false = gives ws (set_buffer xs q (drop 1 (queue_in xs q).buffer ++ (w ∷ []))) 0

abbrev pub on_force : List Waiter → List Queue → ℕ → ℕ → Effect Queue
on_force ws xs q w = force_by ws xs q w (eqb (queue_in xs q).capacity 0) (waiters_in ws (place receiving q)) (has_room (queue_in xs q))

abbrev pub does : List TaskEntry → List Waiter → List Queue → ℕ → ℕ → QueueCall → Effect Queue
does ts ws xs t q (send p w) = on_send ws xs t q w p
does ts ws xs t q (receive p) = on_receive ts ws xs t q p
does ts ws xs t q (forced_send w) = on_force ws xs q w

-- refer: first waiting sender, first waiting receiver, number of buffered words, vector
abbrev pub told : List TaskEntry → List Waiter → List Queue → ℕ → Info
told ts ws xs q = record { first = first_task (senders_of ts ws xs q); second = first_task (waiters_in ws (place receiving q)); amount = length (queue_in xs q).buffer; vector = (queue_in xs q).vector }

abbrev pub with_vector : Queue → Vector → Queue
with_vector x v = record { domain = x.domain; attribute = x.attribute; capacity = x.capacity; buffer = x.buffer; vector = v }

-- ---- the room
abbrev pub room : Room QueueCall Queue
room =
    record {
      most = max_queues;
      records = λ s. s.queues;
      with = λ s ws xs. set_queues (set_waits s ws) xs;
      nothing = no_queue;
      vector = λ x. x.vector;
      with_vector = with_vector;
      operation = operation;
      slots = slots;
      does = does;
      told = told;
      begins = begins;
      serves = serves;
    }
