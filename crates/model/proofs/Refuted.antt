-- What demand 3 shuts out: for each such thing a history of answers that it refutes. Closed computations; assumes nothing.
use mathlib.Core.Path.{◌≡◌, refl, ap}
use mathlib.Core.Logic.{inl, inr}
use mathlib.Core.Bool.{Bool, true, false}
use mathlib.Core.List.{List, [], ◌∷◌, ◌++◌, map}
use mathlib.Core.Option.{none, some}
use Prim.Native.Nat.{ℕ, suc, ◌≤◌, ◌<◌}
use native.Mathlib.Omega.{arith}
use lib.Dec.{eqb}
use lib.IntN.{pos, negsuc}
use lib.ListN.{length, get_or}
use Rattle.itron.specs.Limits.{min_unit}
use Rattle.access.specs.Patterns.{admitted}
use Rattle.itron.specs.Codes.{Code, ok, waiting, error}
use Rattle.itron.specs.declared.error.Error.{Error as Refusal}
use Rattle.itron.specs.declared.error.Error.TheVariants.{Sys as e_sys, Oacv as e_oacv, Qovr as e_qovr, Tmout as e_tmout}
use Rattle.model.specs.Lists.{at, gathered}
use Rattle.model.specs.State.{Vector, TaskEntry, Queue, on_sem, receiving, sending, Place, Waiter, State, state_with, set_waits, set_sems, set_queues, set_levels, place, side_number, waiter}
use Rattle.model.specs.Answers.{Released, say}
use Rattle.model.specs.Waits.{polling, forever}
use Rattle.model.specs.Acts.{own, set_vector}
use Rattle.model.specs.Semaphores.{SemaphoreCall, signal, acquire}
use Rattle.model.specs.Queues.{QueueCall, send, receive, forced_send}
use Rattle.model.specs.ExtendedCalls.{Enter, Leave}
use Rattle.model.specs.Calls.{Op, on_semaphore, on_queue, on_level, call}
use Rattle.model.specs.History.{Event, History, Made, asked_if}
use Rattle.model.specs.SemaphoreClaims.{Counted}
use Rattle.model.specs.Sends.{word_of, entered, leaves}
use Rattle.model.specs.QueueClaims.{Sender, Carried}
use Rattle.model.specs.Releases.{WaitsAt}
use Rattle.model.specs.Demand3.{Demand3}
use Rattle.model.proofs.Lists.{no_both, eqb_same}

-- ---- tasks 1, 3 and 4 are of domain 1, task 2 of domain 2; semaphore 1 and queue 1 are for domain 1 only
abbrev for : ℕ → Vector
for p = record { normal1 = p; normal2 = p; management = p; reference = p }

-- a task of a domain, of priority 1
abbrev of : ℕ → TaskEntry
of d = record { domain = pos d; priority = 1 }

abbrev table : List Waiter → ℕ → List ℕ → State
table ws k b =
    set_queues
    (set_sems (set_waits (state_with (record { closed = true; count = 2; unit = min_unit; tasks = of 1 ∷ of 2 ∷ of 1 ∷ of 1 ∷ []; regions = [] })) ws) (record { domain = negsuc 0; attribute = 0; max = 9; count = k; vector = for 1 } ∷ []))
    (record { domain = negsuc 0; attribute = 0; capacity = 2; buffer = b; vector = for 1 } ∷ [])

abbrev start : State
start = table [] 0 []

abbrev did : ℕ → Op → Code → ℕ → List Released → Event
did t op c w rs = record { before = start; call = call (pos t) op; answer = say c w rs }

abbrev sends : ℕ → ℕ → Event
sends t w = did t (on_queue (pos 1) (own (send polling w))) ok 0 []

abbrev released : ℕ → ℕ → List Released
released t w = record { task = t; word = w } ∷ []

-- the claim of the calls h, the newest first, which left nobody waiting and the words b in queue 1
abbrev Claims : History → List ℕ → Type 0
Claims h b = Demand3 start h (table [] 0 b)

-- ---- "No reading is lost, doubled, swapped or smuggled in"
pub lost : Claims (sends 1 700 ∷ []) [] → ⊥
lost d = let e : ◌≡◌ {A = ℕ} 0 1 = ap length (d.queues 1).ordered in omega arith

pub doubled : Claims (sends 1 700 ∷ []) (700 ∷ 700 ∷ []) → ⊥
doubled d = let e : ◌≡◌ {A = ℕ} 2 1 = ap length (d.queues 1).ordered in omega arith

pub swapped : Claims (sends 1 701 ∷ sends 1 700 ∷ []) (701 ∷ 700 ∷ []) → ⊥
swapped d = let e : ◌≡◌ {A = ℕ} 701 700 = ap (λ (l : List ℕ). get_or l 0 0) (d.queues 1).ordered in omega arith

pub smuggled : Claims [] (5 ∷ []) → ⊥
smuggled d = let e : ◌≡◌ {A = ℕ} 1 0 = ap length (d.queues 1).ordered in omega arith

pub handed_and_kept : Claims (did 3 (on_queue (pos 1) (own (receive polling))) ok 700 [] ∷ sends 1 700 ∷ []) (700 ∷ []) → ⊥
handed_and_kept d = let e : ◌≡◌ {A = ℕ} 2 1 = ap length (d.queues 1).ordered in omega arith

-- a released receiver gets the word that was sent
pub other_word : Claims (did 1 (on_queue (pos 1) (own (send polling 700))) ok 0 (released 3 0) ∷ did 3 (on_queue (pos 1) (own (receive forever))) waiting 0 [] ∷ []) [] → ⊥
other_word d = let e : ◌≡◌ {A = ℕ} 0 700 = ap (λ (l : List ℕ). get_or l 0 0) (d.queues 1).ordered in omega arith

-- ---- "admitted when it called": who sent, and who took
pub denied_sender : Claims (sends 2 700 ∷ []) (700 ∷ []) → ⊥
unfolding admitted
denied_sender d = (d.queues 1).senders_allowed.0.0

-- by the last accepted set-vector, and not by a refused one
pub denied_since : Claims (sends 1 700 ∷ did 1 (on_queue (pos 1) (set_vector (for 2))) ok 0 [] ∷ []) (700 ∷ []) → ⊥
unfolding admitted
denied_since d = (d.queues 1).senders_allowed.0.0

pub refused_set_vector : Claims (sends 2 700 ∷ did 1 (on_queue (pos 1) (set_vector (for 2))) (error e_oacv) 0 [] ∷ []) (700 ∷ []) → ⊥
unfolding admitted
refused_set_vector d = (d.queues 1).senders_allowed.0.0

pub denied_taker : Claims (did 2 (on_queue (pos 1) (own (receive polling))) ok 700 [] ∷ sends 1 700 ∷ []) [] → ⊥
unfolding admitted
denied_taker d = (d.queues 1).takers_allowed.0

pub denied_when_it_called : Claims (did 1 (on_queue (pos 1) (own (send polling 700))) ok 0 (released 2 700) ∷ did 2 (on_queue (pos 1) (own (receive forever))) waiting 0 [] ∷ []) [] → ⊥
unfolding admitted
denied_when_it_called d = (d.queues 1).takers_allowed.0.0.1

-- an earlier call is judged too, and not only the newest
pub denied_before : Claims (sends 1 701 ∷ sends 2 700 ∷ []) (700 ∷ 701 ∷ []) → ⊥
unfolding admitted
denied_before d = (d.queues 1).senders_allowed.1.0.0

-- a send that answers "waiting" is judged as one that answers E_OK
pub denied_waiting : Demand3 start (did 2 (on_queue (pos 1) (own (send forever 700))) waiting 0 [] ∷ []) (table (waiter 2 sending 1 700 ∷ []) 0 []) → ⊥
unfolding admitted
denied_waiting d = (d.queues 1).senders_allowed.0.0

-- who is admitted only after its call was not admitted when it called: a sender, and a receiver that waited until then
pub sender_admitted_later : Claims (did 1 (on_queue (pos 1) (set_vector (for 3))) ok 0 [] ∷ sends 2 700 ∷ []) (700 ∷ []) → ⊥
unfolding admitted
sender_admitted_later d = (d.queues 1).senders_allowed.1.0.0

pub receiver_admitted_later : Claims (did 1 (on_queue (pos 1) (own (send polling 700))) ok 0 (released 2 700) ∷ did 1 (on_queue (pos 1) (set_vector (for 3))) ok 0 [] ∷ did 2 (on_queue (pos 1) (own (receive forever))) waiting 0 [] ∷ []) [] → ⊥
unfolding admitted
receiver_admitted_later d = (d.queues 1).takers_allowed.0.0.1

pub denied_taker_before : Claims (sends 1 701 ∷ did 2 (on_queue (pos 1) (own (receive polling))) ok 700 [] ∷ sends 1 700 ∷ []) (701 ∷ []) → ⊥
unfolding admitted
denied_taker_before d = (d.queues 1).takers_allowed.1.0

-- to a task that never called, and to one that waits elsewhere
pub never_called : Claims (did 1 (on_queue (pos 1) (own (send polling 700))) ok 0 (released 3 700) ∷ []) [] → ⊥
never_called d = (d.queues 1).takers_allowed.0.0

pub waits_elsewhere : Claims (did 1 (on_queue (pos 1) (own (send polling 700))) ok 0 (released 3 700) ∷ did 3 (on_semaphore (pos 1) (own (acquire forever))) waiting 0 [] ∷ []) [] → ⊥
waits_elsewhere d = (d.queues 1).takers_allowed.0.0.0

-- even if it waited here before
pub waited_before : Claims (did 1 (on_queue (pos 1) (own (send polling 700))) ok 0 (released 3 700) ∷ did 3 (on_semaphore (pos 1) (own (acquire forever))) waiting 0 [] ∷ did 3 (on_queue (pos 1) (own (receive forever))) waiting 0 [] ∷ []) [] → ⊥
waited_before d = (d.queues 1).takers_allowed.0.0.0

-- ---- "read the domain .. as this running domain at its call" (request T-03): the level is counted from the calls
abbrev goes_in : ℕ → Event
goes_in t = did t (on_level Enter) ok 0 []

abbrev comes_out : ℕ → Event
comes_out t = did t (on_level Leave) ok 0 []

-- the claim of the calls h, which left the words b in queue 1 and these levels
abbrev Leaves : History → List ℕ → List ℕ → Type 0
Leaves h b ls = Demand3 start h (set_levels (table [] 0 b) ls)

-- a denied task's send: after its enter was refused, after it left again, by another task's enter, before its own
pub enter_refused : Leaves (sends 2 700 ∷ did 2 (on_level Enter) (error e_sys) 0 [] ∷ []) (700 ∷ []) (0 ∷ 0 ∷ []) → ⊥
unfolding admitted
enter_refused d = (d.queues 1).senders_allowed.0.0

pub left_again : Leaves (sends 2 700 ∷ comes_out 2 ∷ goes_in 2 ∷ []) (700 ∷ []) (0 ∷ 0 ∷ []) → ⊥
unfolding admitted
left_again d = (d.queues 1).senders_allowed.0.0

pub another_entered : Leaves (sends 2 700 ∷ goes_in 1 ∷ []) (700 ∷ []) (1 ∷ 0 ∷ []) → ⊥
unfolding admitted
another_entered d = (d.queues 1).senders_allowed.0.0

pub entered_after : Leaves (goes_in 2 ∷ sends 2 700 ∷ []) (700 ∷ []) (0 ∷ 1 ∷ []) → ⊥
unfolding admitted
entered_after d = (d.queues 1).senders_allowed.1.0.0

-- as many leaves as enters, whatever their number
pub left_twice : Leaves (sends 2 700 ∷ comes_out 2 ∷ comes_out 2 ∷ goes_in 2 ∷ goes_in 2 ∷ []) (700 ∷ []) (0 ∷ 0 ∷ []) → ⊥
unfolding admitted
left_twice d = (d.queues 1).senders_allowed.0.0

-- who takes a word: its own receive, and a receiver that waited, which is judged as what it ran as when it called and not when it is served
pub taker_left : Leaves (did 2 (on_queue (pos 1) (own (receive polling))) ok 700 [] ∷ comes_out 2 ∷ goes_in 2 ∷ sends 1 700 ∷ []) [] (0 ∷ 0 ∷ []) → ⊥
unfolding admitted
taker_left d = (d.queues 1).takers_allowed.0

pub receiver_entered_later : Leaves (did 1 (on_queue (pos 1) (own (send polling 700))) ok 0 (released 2 700) ∷ goes_in 2 ∷ did 2 (on_queue (pos 1) (own (receive forever))) waiting 0 [] ∷ []) [] (0 ∷ 1 ∷ []) → ⊥
unfolding admitted
receiver_entered_later d = (d.queues 1).takers_allowed.0.0.1

-- "level + accepted leaves = accepted enters": an enter that is not counted, or counted twice, or for another task; a leave that is not; one at level 0
pub enter_uncounted : Leaves (goes_in 2 ∷ []) [] (0 ∷ 0 ∷ []) → ⊥
enter_uncounted d = let e : ◌≡◌ {A = ℕ} 0 1 = d.levels 2 in omega arith

pub enter_counted_twice : Leaves (goes_in 2 ∷ []) [] (0 ∷ 2 ∷ []) → ⊥
enter_counted_twice d = let e : ◌≡◌ {A = ℕ} 2 1 = d.levels 2 in omega arith

pub enter_of_another : Leaves (goes_in 2 ∷ []) [] (1 ∷ 1 ∷ []) → ⊥
enter_of_another d = let e : ◌≡◌ {A = ℕ} 1 0 = d.levels 1 in omega arith

pub leave_uncounted : Leaves (comes_out 2 ∷ goes_in 2 ∷ []) [] (0 ∷ 1 ∷ []) → ⊥
leave_uncounted d = let e : ◌≡◌ {A = ℕ} 2 1 = d.levels 2 in omega arith

pub left_at_0 : Leaves (comes_out 2 ∷ []) [] (0 ∷ 0 ∷ []) → ⊥
left_at_0 d = let e : ◌≡◌ {A = ℕ} 1 0 = d.levels 2 in omega arith

pub refused_counted : Leaves (did 2 (on_level Enter) (error e_sys) 0 [] ∷ []) [] (0 ∷ 1 ∷ []) → ⊥
refused_counted d = let e : ◌≡◌ {A = ℕ} 1 0 = d.levels 2 in omega arith

pub waiting_counted : Leaves (did 2 (on_level Enter) waiting 0 [] ∷ []) [] (0 ∷ 1 ∷ []) → ⊥
waiting_counted d = let e : ◌≡◌ {A = ℕ} 1 0 = d.levels 2 in omega arith

-- ---- "the waiting senders are also exactly the tasks whose send on that queue answered "waiting" .., each with that send's word"
abbrev waits : Event
waits = did 1 (on_queue (pos 1) (own (send forever 700))) waiting 0 []

pub sender_forgotten : Claims (waits ∷ []) (700 ∷ []) → ⊥
sender_forgotten d = let e : ◌≡◌ {A = ℕ} 0 1 = ap length ((d.queues 1).senders_are 0) in omega arith

pub sender_other_word : Demand3 start (waits ∷ []) (table (waiter 1 sending 1 701 ∷ []) 0 []) → ⊥
sender_other_word d = let e : ◌≡◌ {A = ℕ} 701 700 = ap (λ (l : List Sender). get_or (map (λ (x : Sender). x.word) l) 0 0) ((d.queues 1).senders_are 0) in omega arith

pub still_there : Demand3 start (did 3 (on_queue (pos 1) (own (receive polling))) ok 700 (released 1 0) ∷ waits ∷ []) (table (waiter 1 sending 1 700 ∷ []) 0 []) → ⊥
still_there d = let e : ◌≡◌ {A = ℕ} 1 0 = ap length ((d.queues 1).senders_are 0) in omega arith

-- two of them: in call order, and none missing
abbrev two_wait : History
two_wait = did 3 (on_queue (pos 1) (own (send forever 701))) waiting 0 [] ∷ waits ∷ []

pub senders_swapped : Demand3 start two_wait (table (waiter 3 sending 1 701 ∷ waiter 1 sending 1 700 ∷ []) 0 []) → ⊥
senders_swapped d = let e : ◌≡◌ {A = ℕ} 3 1 = ap (λ (l : List Sender). get_or (map (λ (x : Sender). x.task) l) 0 0) ((d.queues 1).senders_are 0) in omega arith

pub words_swapped : Demand3 start two_wait (table (waiter 1 sending 1 701 ∷ waiter 3 sending 1 700 ∷ []) 0 []) → ⊥
words_swapped d = let e : ◌≡◌ {A = ℕ} 701 700 = ap (λ (l : List Sender). get_or (map (λ (x : Sender). x.word) l) 0 0) ((d.queues 1).senders_are 0) in omega arith

pub second_sender_lost : Demand3 start two_wait (table (waiter 1 sending 1 700 ∷ []) 0 []) → ⊥
second_sender_lost d = let e : ◌≡◌ {A = ℕ} 1 2 = ap length ((d.queues 1).senders_are 0) in omega arith

-- ---- where every word is (request T-05); queue 1 has room for two words
abbrev forces : ℕ → ℕ → Event
forces t w = did t (on_queue (pos 1) (own (forced_send w))) ok 0 []

abbrev full : History
full = sends 1 701 ∷ sends 1 700 ∷ []

-- "into a full buffer it drops the oldest word and appends its own": not the newest, not both, not none, and none where there is room
pub newest_dropped : Claims (forces 1 702 ∷ full) (700 ∷ 702 ∷ []) → ⊥
newest_dropped d = let e : ◌≡◌ {A = ℕ} 700 701 = ap (λ (l : List ℕ). get_or l 1 0) (d.queues 1).ordered in omega arith

pub both_dropped : Claims (forces 1 702 ∷ full) (702 ∷ []) → ⊥
both_dropped d = let e : ◌≡◌ {A = ℕ} 2 3 = ap length (d.queues 1).ordered in omega arith

pub none_dropped : Claims (forces 1 702 ∷ full) (700 ∷ 701 ∷ 702 ∷ []) → ⊥
none_dropped d = let e : ◌≡◌ {A = ℕ} 4 3 = ap length (d.queues 1).ordered in omega arith

pub dropped_with_room : Claims (forces 1 701 ∷ sends 1 700 ∷ []) (701 ∷ []) → ⊥
dropped_with_room d = let e : ◌≡◌ {A = ℕ} 1 2 = ap length (d.queues 1).ordered in omega arith

pub own_word_dropped : Claims (forces 1 702 ∷ full) (700 ∷ 701 ∷ []) → ⊥
own_word_dropped d = let e : ◌≡◌ {A = ℕ} 700 701 = ap (λ (l : List ℕ). get_or l 1 0) (d.queues 1).ordered in omega arith

-- a dropped word is handed out no more
pub dropped_and_handed : Claims (did 3 (on_queue (pos 1) (own (receive polling))) ok 700 [] ∷ forces 1 702 ∷ full) (701 ∷ 702 ∷ []) → ⊥
dropped_and_handed d = let e : ◌≡◌ {A = ℕ} 700 701 = ap (λ (l : List ℕ). get_or l 0 0) (d.queues 1).handed_are.0 in omega arith

-- a send that is not forced drops nothing
pub dropped_unforced : Claims (sends 1 702 ∷ full) (701 ∷ 702 ∷ []) → ⊥
dropped_unforced d = let e : ◌≡◌ {A = ℕ} 701 700 = ap (λ (l : List ℕ). get_or l 0 0) (d.queues 1).ordered in omega arith

-- on capacity 0 there is nothing to drop
abbrev small : State
small = set_queues start (record { domain = negsuc 0; attribute = 0; capacity = 0; buffer = []; vector = for 1 } ∷ [])

pub forced_on_0 : Demand3 small (forces 1 700 ∷ []) small → ⊥
forced_on_0 d = let e : ◌≡◌ {A = ℕ} 0 1 = (d.queues 1).one_each.0 in omega arith

-- even with a waiting receiver, and earlier in the list too
abbrev awaits : ℕ → Event
awaits t = did t (on_queue (pos 1) (own (receive forever))) waiting 0 []

abbrev passes_0 : History
passes_0 = did 1 (on_queue (pos 1) (own (forced_send 700))) ok 0 (released 3 700) ∷ awaits 3 ∷ []

pub forced_past_0 : Demand3 small passes_0 small → ⊥
forced_past_0 d = let e : ◌≡◌ {A = ℕ} 0 1 = (d.queues 1).one_each.0 in omega arith

pub forced_past_0_before : Demand3 small (did 1 (on_queue (pos 1) (set_vector (for 1))) ok 0 [] ∷ passes_0) small → ⊥
forced_past_0_before d = let e : ◌≡◌ {A = ℕ} 0 1 = (d.queues 1).one_each.1.0 in omega arith

-- the oldest handed out to a receiver and not dropped
pub handed_not_dropped : Claims (did 1 (on_queue (pos 1) (own (forced_send 702))) ok 0 (released 3 700) ∷ sends 1 701 ∷ sends 1 700 ∷ awaits 3 ∷ []) (701 ∷ 702 ∷ []) → ⊥
handed_not_dropped d = let e : ◌≡◌ {A = ℕ} 4 3 = ap length (d.queues 1).ordered in omega arith

-- a forced send that is accepted by "waiting" drops too
pub waits_and_drops_none : Demand3 start (did 3 (on_queue (pos 1) (own (forced_send 702))) waiting 0 [] ∷ full) (table (waiter 3 sending 1 702 ∷ []) 0 (700 ∷ 701 ∷ [])) → ⊥
waits_and_drops_none d = let e : ◌≡◌ {A = ℕ} 3 2 = ap length (d.queues 1).ordered in omega arith

-- a refused one does not
pub refused_and_dropped : Claims (did 1 (on_queue (pos 1) (own (forced_send 702))) (error e_oacv) 0 [] ∷ full) (701 ∷ 702 ∷ []) → ⊥
refused_and_dropped d = let e : ◌≡◌ {A = ℕ} 701 700 = ap (λ (l : List ℕ). get_or l 0 0) (d.queues 1).ordered in omega arith

-- a denied force
pub denied_force : Claims (forces 2 700 ∷ []) (700 ∷ []) → ⊥
unfolding admitted
denied_force d = (d.queues 1).senders_allowed.0.0

pub denied_taker_of_force : Claims (did 1 (on_queue (pos 1) (own (forced_send 700))) ok 0 (released 2 700) ∷ did 2 (on_queue (pos 1) (own (receive forever))) waiting 0 [] ∷ []) [] → ⊥
unfolding admitted
denied_taker_of_force d = (d.queues 1).takers_allowed.0.0.1

-- "Sends not forced still enter or pass in call order": the words are equal, only the calls tell that the second sender went before the first
pub overtaken : Demand3 start
    (did 4 (on_queue (pos 1) (own (receive polling))) ok 700 (released 3 0) ∷ did 3 (on_queue (pos 1) (own (send forever 700))) waiting 0 [] ∷ waits ∷ sends 4 700 ∷ sends 4 700 ∷ [])
    (table (waiter 1 sending 1 700 ∷ []) 0 (700 ∷ 700 ∷ [])) → ⊥
overtaken d = let e : 3 < 2 = ((d.queues 1).in_call_order 0).1.1.0.0 in omega arith

-- one that enters while another waits
pub waiter_passed : Demand3 start (sends 3 701 ∷ waits ∷ []) (table (waiter 1 sending 1 700 ∷ []) 0 (701 ∷ [])) → ⊥
waiter_passed d = let e : 1 < 0 = ((d.queues 1).in_call_order 0).0.0 in omega arith

-- where a forced send has passed it before
pub waiter_passed_after_force : Demand3 start (sends 3 701 ∷ forces 4 5 ∷ waits ∷ []) (table (waiter 1 sending 1 700 ∷ []) 0 (5 ∷ 701 ∷ [])) → ⊥
waiter_passed_after_force d = let e : 2 < 0 = ((d.queues 1).in_call_order 0).0.0 in omega arith

-- "in exactly one place": buffered and with its sender; and, once a set-vector has released the sender, nowhere
pub in_two_places : Demand3 start (waits ∷ []) (table (waiter 1 sending 1 700 ∷ []) 0 (700 ∷ [])) → ⊥
in_two_places d = let e : ◌≡◌ {A = ℕ} 1 0 = ap length (d.queues 1).ordered in omega arith

pub in_no_place : Claims (did 4 (on_queue (pos 1) (set_vector (for 1))) ok 0 (released 1 0) ∷ waits ∷ []) [] → ⊥
in_no_place d = let e : ◌≡◌ {A = ℕ} 0 1 = (d.queues 1).placed 0 in omega arith

-- nowhere, where a forced send came between, and where it is a forced send's own
pub in_no_place_after_force : Claims (did 4 (on_queue (pos 1) (own (receive forever))) waiting 0 (released 1 0) ∷ forces 3 5 ∷ waits ∷ []) (5 ∷ []) → ⊥
in_no_place_after_force d = let e : ◌≡◌ {A = ℕ} 0 1 = (d.queues 1).placed 0 in omega arith

pub forced_in_no_place : Claims (did 4 (on_queue (pos 1) (set_vector (for 1))) ok 0 (released 3 0) ∷ did 3 (on_queue (pos 1) (own (forced_send 5))) waiting 0 [] ∷ []) [] → ⊥
forced_in_no_place d = let e : ◌≡◌ {A = ℕ} 0 1 = (d.queues 1).placed 0 in omega arith

-- one word for two receivers
pub handed_to_two : Claims (did 1 (on_queue (pos 1) (own (send polling 700))) ok 0 (record { task = 3; word = 700 } ∷ record { task = 4; word = 700 } ∷ []) ∷ awaits 4 ∷ awaits 3 ∷ []) [] → ⊥
handed_to_two d = let e : ◌≡◌ {A = ℕ} 2 1 = ap length (d.queues 1).handed_are.0 in omega arith

-- a word handed out before it was sent
pub handed_before : Claims (sends 1 700 ∷ did 3 (on_queue (pos 1) (own (receive polling))) ok 700 [] ∷ []) [] → ⊥
handed_before d = let e : ◌≡◌ {A = ℕ} 1 0 = ap length (d.queues 1).handed_are.1.0 in omega arith

-- ---- all who wait, at a semaphore and to receive too: forgotten, at another place, in another order, with nobody having called
abbrev acquires : ℕ → Event
acquires t = did t (on_semaphore (pos 1) (own (acquire forever))) waiting 0 []

pub waiter_forgotten : Claims (acquires 3 ∷ []) [] → ⊥
waiter_forgotten d = let e : ◌≡◌ {A = ℕ} 0 1 = ap length d.waiters_are in omega arith

pub receiver_forgotten : Claims (did 3 (on_queue (pos 1) (own (receive forever))) waiting 0 [] ∷ []) [] → ⊥
receiver_forgotten d = let e : ◌≡◌ {A = ℕ} 0 1 = ap length d.waiters_are in omega arith

pub waits_at_another : Demand3 start (acquires 3 ∷ []) (table (waiter 3 on_sem 2 0 ∷ []) 0 []) → ⊥
waits_at_another d = let e : ◌≡◌ {A = ℕ} 2 1 = ap (λ (l : List Waiter). get_or (map (λ (x : Waiter). x.place.number) l) 0 0) d.waiters_are in omega arith

pub waiters_swapped : Demand3 start (acquires 1 ∷ acquires 3 ∷ []) (table (waiter 1 on_sem 1 0 ∷ waiter 3 on_sem 1 0 ∷ []) 0 []) → ⊥
waiters_swapped d = let e : ◌≡◌ {A = ℕ} 1 3 = ap (λ (l : List Waiter). get_or (map (λ (x : Waiter). x.task) l) 0 0) d.waiters_are in omega arith

pub waits_uncalled : Demand3 start [] (table (waiter 3 on_sem 1 0 ∷ []) 0 []) → ⊥
waits_uncalled d = let e : ◌≡◌ {A = ℕ} 1 0 = ap length d.waiters_are in omega arith

-- ---- a release belongs to a wait
refused_done : {e : Refusal} → error e ≡ ok → ⊥
refused_done h = let z : ◌≡◌ {A = ℕ} 0 1 = cc in omega arith

-- one waiting receive, released by two sends
pub released_twice : Claims (did 1 (on_queue (pos 1) (own (send polling 701))) ok 0 (released 3 701) ∷ did 1 (on_queue (pos 1) (own (send polling 700))) ok 0 (released 3 700) ∷ did 3 (on_queue (pos 1) (own (receive forever))) waiting 0 [] ∷ []) [] → ⊥
released_twice d = d.releases.0.each.0.waited

-- a signal that releases a task which never waited
pub released_unasked : Claims (did 1 (on_semaphore (pos 1) (own signal)) ok 0 (released 3 0) ∷ []) [] → ⊥
released_unasked d = d.releases.0.each.0.waited

-- earlier in the list too
pub released_unasked_before : Claims (sends 1 700 ∷ did 1 (on_semaphore (pos 1) (own signal)) ok 0 (released 3 0) ∷ []) (700 ∷ []) → ⊥
released_unasked_before d = d.releases.1.0.each.0.waited

-- one that waits at another side of an object, and one that waits at another object
pub released_from_another_side : Claims (did 1 (on_semaphore (pos 1) (own signal)) ok 0 (released 3 0) ∷ did 3 (on_queue (pos 1) (own (receive forever))) waiting 0 [] ∷ []) [] → ⊥
released_from_another_side d = go d.releases.0.each.0.waited
  where
    go : WaitsAt (some (place on_sem 1)) 3 (waiter 3 receiving 1 0 ∷ []) → ⊥
    go (inl x) = let e : ◌≡◌ {A = ℕ} 1 0 = ap (λ (p : Place). side_number p.side) x.1 in omega arith
    go (inr x) = elim x [ ]

pub released_from_another : Claims (did 1 (on_semaphore (pos 2) (own signal)) ok 0 (released 3 0) ∷ acquires 3 ∷ []) [] → ⊥
released_from_another d = go d.releases.0.each.0.waited
  where
    go : WaitsAt (some (place on_sem 2)) 3 (waiter 3 on_sem 1 0 ∷ []) → ⊥
    go (inl x) = let e : ◌≡◌ {A = ℕ} 1 2 = ap (λ (p : Place). p.number) x.1 in omega arith
    go (inr x) = elim x [ ]

-- by a call that serves nobody
pub released_by_poll : Claims (did 1 (on_semaphore (pos 1) (own (acquire polling))) ok 0 (released 3 0) ∷ acquires 3 ∷ []) [] → ⊥
released_by_poll d = d.releases.0.each.0.waited

pub released_by_set_vector : Claims (did 1 (on_semaphore (pos 1) (set_vector (for 1))) ok 0 (released 3 0) ∷ acquires 3 ∷ []) [] → ⊥
released_by_set_vector d = d.releases.0.each.0.waited

pub released_by_enter : Leaves (did 1 (on_level Enter) ok 0 (released 3 0) ∷ acquires 3 ∷ []) [] (1 ∷ []) → ⊥
released_by_enter d = d.releases.0.each.0.waited

-- and it goes on waiting
pub released_and_waits : Demand3 start (did 1 (on_queue (pos 1) (own (receive forever))) waiting 0 (released 1 0) ∷ waits ∷ []) (table (waiter 1 receiving 1 0 ∷ []) 0 []) → ⊥
released_and_waits d = d.releases.0.each.0.ended.0 refl

-- by a call that is refused: a send that hands a word to a receiver so, and a signal
pub released_by_refused_send : Claims (did 1 (on_queue (pos 1) (own (send polling 700))) (error e_tmout) 0 (released 2 999) ∷ awaits 2 ∷ []) [] → ⊥
released_by_refused_send d = refused_done d.releases.0.each.0.done

pub released_by_refused_signal : Claims (did 1 (on_semaphore (pos 1) (own signal)) (error e_qovr) 0 (released 3 0) ∷ acquires 3 ∷ []) [] → ⊥
released_by_refused_signal d = refused_done d.releases.0.each.0.done

-- twice by one answer
pub released_twice_at_once : Claims (did 1 (on_queue (pos 1) (own (send polling 700))) ok 0 (record { task = 3; word = 700 } ∷ record { task = 3; word = 701 } ∷ []) ∷ awaits 3 ∷ sends 1 701 ∷ []) [] → ⊥
released_twice_at_once d = d.releases.0.once.0.0 refl

-- ---- the count: a grant for nothing, and a signal that is lost
pub granted_for_nothing : Claims (did 1 (on_semaphore (pos 1) (own (acquire polling))) ok 0 [] ∷ []) [] → ⊥
granted_for_nothing d = let e : ◌≡◌ {A = ℕ} 1 0 = d.semaphores 1 in omega arith

pub signal_lost : Claims (did 1 (on_semaphore (pos 1) (own signal)) ok 0 [] ∷ []) [] → ⊥
signal_lost d = let e : ◌≡◌ {A = ℕ} 0 1 = d.semaphores 1 in omega arith

-- raising the count and also releasing a waiter
pub counted_twice : Demand3 start (did 1 (on_semaphore (pos 1) (own signal)) ok 0 (released 3 0) ∷ did 3 (on_semaphore (pos 1) (own (acquire forever))) waiting 0 [] ∷ []) (table [] 1 []) → ⊥
counted_twice d = let e : ◌≡◌ {A = ℕ} 2 1 = d.semaphores 1 in omega arith

-- ---- whatever the number of the queue or the semaphore: a word lost, and a grant for nothing, where there is nothing at the start
abbrev empty : State
empty = state_with (record { closed = true; count = 2; unit = min_unit; tasks = of 1 ∷ []; regions = [] })

pub lost_anywhere : (q : ℕ) → Demand3 empty (did 1 (on_queue (pos (suc q)) (own (send polling 700))) ok 0 [] ∷ []) empty → ⊥
lost_anywhere q d = go (eqb (suc q) (suc q)) (eqb_same (suc q)) (d.queues (suc q)).ordered
  where
    seen : Bool → List (Made QueueCall)
    seen b = record { caller = 1; asked = asked_if b (own (send polling 700)); extended = none; answer = say ok 0 [] } ∷ []

    go : (b : Bool) → b ≡ true → gathered (leaves 0) (seen b) ++ [] ≡ map word_of (entered (seen b)) → ⊥
    go true h c = let e : ◌≡◌ {A = ℕ} 0 1 = ap length c in omega arith
    go false h c = no_both h refl

pub granted_anywhere : (i : ℕ) → Demand3 empty (did 1 (on_semaphore (pos (suc i)) (own (acquire polling))) ok 0 [] ∷ []) empty → ⊥
granted_anywhere i d = go (eqb (suc i) (suc i)) (eqb_same (suc i)) (d.semaphores (suc i))
  where
    seen : Bool → List (Made SemaphoreCall)
    seen b = record { caller = 1; asked = asked_if b (own (acquire polling)); extended = none; answer = say ok 0 [] } ∷ []

    go : (b : Bool) → b ≡ true → Counted 0 (seen b) 0 → ⊥
    go true h c = let e : ◌≡◌ {A = ℕ} 1 0 = c in omega arith
    go false h c = no_both h refl

-- ---- four different patterns: task t is of domain t; queue 2 admits domain 1 to send, 2 to receive, 3 to set its vector and 4 to refer to it
abbrev four : List Waiter → List ℕ → State
four ws b =
    set_queues (set_waits (state_with (record { closed = true; count = 4; unit = min_unit; tasks = of 1 ∷ of 2 ∷ of 3 ∷ of 4 ∷ []; regions = [] })) ws)
    (record { domain = negsuc 0; attribute = 0; capacity = 2; buffer = []; vector = for 0 }
    ∷ record { domain = negsuc 0; attribute = 0; capacity = 2; buffer = b; vector = record { normal1 = 1; normal2 = 2; management = 4; reference = 8 } }
    ∷ [])

-- a send by task t, and one that waits; a receive by task t of a word that task 1 sent, and one that waited for it
abbrev Sends : ℕ → Type 0
Sends t = Demand3 (four [] []) (did t (on_queue (pos 2) (own (send polling 700))) ok 0 [] ∷ []) (four [] (700 ∷ []))

abbrev WaitsToSend : ℕ → Type 0
WaitsToSend t = Demand3 (four [] []) (did t (on_queue (pos 2) (own (send forever 700))) waiting 0 [] ∷ []) (four (waiter t sending 2 700 ∷ []) [])

abbrev Receives : ℕ → Type 0
Receives t = Demand3 (four [] []) (did t (on_queue (pos 2) (own (receive polling))) ok 700 [] ∷ did 1 (on_queue (pos 2) (own (send polling 700))) ok 0 [] ∷ []) (four [] [])

abbrev WaitsToReceive : ℕ → Type 0
WaitsToReceive t = Demand3 (four [] []) (did 1 (on_queue (pos 2) (own (send polling 700))) ok 0 (released t 700) ∷ did t (on_queue (pos 2) (own (receive forever))) waiting 0 [] ∷ []) (four [] [])

-- none of three tasks may
abbrev Shut : (ℕ → Type 0) → ℕ → ℕ → ℕ → Type 0
Shut C a b c = (C a → ⊥) × (C b → ⊥) × (C c → ⊥)

-- sends are normal operation 1 and receives are normal operation 2: no other pattern admits to them
pub send_by_another : Shut Sends 2 3 4
unfolding admitted
send_by_another = ((λ d. (d.queues 2).senders_allowed.0.0), (λ d. (d.queues 2).senders_allowed.0.0), (λ d. (d.queues 2).senders_allowed.0.0))

pub wait_to_send_by_another : Shut WaitsToSend 2 3 4
unfolding admitted
wait_to_send_by_another = ((λ d. (d.queues 2).senders_allowed.0.0), (λ d. (d.queues 2).senders_allowed.0.0), (λ d. (d.queues 2).senders_allowed.0.0))

pub receive_by_another : Shut Receives 1 3 4
unfolding admitted
receive_by_another = ((λ d. (d.queues 2).takers_allowed.0), (λ d. (d.queues 2).takers_allowed.0), (λ d. (d.queues 2).takers_allowed.0))

pub wait_to_receive_by_another : Shut WaitsToReceive 1 3 4
unfolding admitted
wait_to_receive_by_another = ((λ d. (d.queues 2).takers_allowed.0.0.1), (λ d. (d.queues 2).takers_allowed.0.0.1), (λ d. (d.queues 2).takers_allowed.0.0.1))

-- ---- request T-10: tasks 1 and 3 are of priority 2, tasks 2 and 4 of priority 1, task 5 of priority 3, all of domain 1; queue 1, of capacity 0, has the attribute a and is for domain 1 only
abbrev ranked : ℕ → Queue
ranked a = record { domain = negsuc 0; attribute = a; capacity = 0; buffer = []; vector = for 1 }

abbrev priority_in : ℕ → ℕ
priority_in t = at 0 (2 ∷ 1 ∷ 2 ∷ 1 ∷ 3 ∷ []) t

-- task t's send of a word answered "waiting"; a receive, by task 4, handed out a word and released task t
abbrev lines_up : ℕ → ℕ → Made QueueCall
lines_up t w = record { caller = t; asked = some (own (send forever w)); extended = none; answer = say waiting 0 [] }

abbrev takes : ℕ → ℕ → Made QueueCall
takes w t = record { caller = 4; asked = some (own (receive polling)); extended = none; answer = say ok w (released t 0) }

-- the claim of the calls h as a queue with the attribute a saw them, which left these senders, first to last
abbrev Ranked : ℕ → List (Made QueueCall) → List Waiter → Type 0
Ranked a h senders = Carried (λ (t : ℕ). pos 1) priority_in (ranked a) h [] senders

abbrev sender : ℕ → ℕ → Waiter
sender t w = waiter t sending 1 w

-- "stand by priority": a more urgent sender stands behind a less urgent one
pub urgent_behind : Ranked 1 (lines_up 2 702 ∷ lines_up 1 701 ∷ []) (sender 1 701 ∷ sender 2 702 ∷ []) → ⊥
urgent_behind d = let e : 2 ≤ 1 = d.in_lines.0.0 in omega arith

-- "and equals in order of arrival"
pub equals_exchanged : Ranked 1 (lines_up 3 703 ∷ lines_up 1 701 ∷ []) (sender 3 703 ∷ sender 1 701 ∷ []) → ⊥
equals_exchanged d = let e : ◌≡◌ {A = ℕ} 3 1 = ap (λ (l : List Sender). get_or (map (λ (x : Sender). x.task) l) 0 0) (d.senders_are 2) in omega arith

-- on a first-come queue priorities decide nothing
pub urgent_ahead_first_come : Ranked 0 (lines_up 2 702 ∷ lines_up 1 701 ∷ []) (sender 2 702 ∷ sender 1 701 ∷ []) → ⊥
urgent_ahead_first_come d = let e : ◌≡◌ {A = ℕ} 2 1 = ap (λ (l : List Sender). get_or (map (λ (x : Sender). x.task) l) 0 0) (d.senders_are 0) in omega arith

-- a sender of a priority queue is forgotten, whatever its line
pub ranked_sender_forgotten : Ranked 1 (lines_up 2 702 ∷ lines_up 1 701 ∷ []) (sender 2 702 ∷ []) → ⊥
ranked_sender_forgotten d = let e : ◌≡◌ {A = ℕ} 0 1 = ap length (d.senders_are 2) in omega arith

-- "call order .. among unforced sends of equal priority": a later one passes first
pub passed_in_line : Ranked 1 (takes 703 3 ∷ lines_up 3 703 ∷ lines_up 1 701 ∷ []) (sender 1 701 ∷ []) → ⊥
passed_in_line d = let e : 1 < 0 = (d.in_call_order 2).0.0 in omega arith

-- on a first-come queue a more urgent one passes first
pub passed_first_come : Ranked 0 (takes 702 2 ∷ lines_up 2 702 ∷ lines_up 1 701 ∷ []) (sender 1 701 ∷ []) → ⊥
passed_first_come d = let e : 1 < 0 = (d.in_call_order 0).0.0 in omega arith

-- a less urgent one passes while a more urgent one waits
pub less_urgent_passed : Ranked 1 (takes 701 1 ∷ lines_up 2 702 ∷ lines_up 1 701 ∷ []) (sender 2 702 ∷ []) → ⊥
less_urgent_passed d = let e : 2 ≤ 1 = d.urgent_first.0.0.1.0 in omega arith

-- a less urgent one that came later passes
pub later_less_urgent_passed : Ranked 1 (takes 701 1 ∷ lines_up 1 701 ∷ lines_up 2 702 ∷ []) (sender 2 702 ∷ []) → ⊥
later_less_urgent_passed d = let e : 2 ≤ 1 = d.urgent_first.0.0.0 in omega arith

-- earlier in the list too
pub less_urgent_passed_before : Ranked 1 (lines_up 3 703 ∷ takes 701 1 ∷ lines_up 2 702 ∷ lines_up 1 701 ∷ []) (sender 2 702 ∷ sender 3 703 ∷ []) → ⊥
less_urgent_passed_before d = let e : 2 ≤ 1 = d.urgent_first.1.0.0.1.0 in omega arith

-- behind the first too
pub urgent_behind_second : Ranked 1 (lines_up 1 701 ∷ lines_up 5 705 ∷ lines_up 2 702 ∷ []) (sender 2 702 ∷ sender 5 705 ∷ sender 1 701 ∷ []) → ⊥
urgent_behind_second d = let e : 3 ≤ 2 = d.in_lines.1.0.0 in omega arith

-- where words are buffered too: a queue of capacity 1, into which task 4's word 700 went first
abbrev roomy : Queue
roomy = record { domain = negsuc 0; attribute = 1; capacity = 1; buffer = []; vector = for 1 }

abbrev Roomy : List (Made QueueCall) → List ℕ → List Waiter → Type 0
Roomy h b senders = Carried (λ (t : ℕ). pos 1) priority_in roomy h b senders

abbrev buffered : Made QueueCall
buffered = record { caller = 4; asked = some (own (send polling 700)); extended = none; answer = say ok 0 [] }

pub urgent_behind_buffer : Roomy (lines_up 2 702 ∷ lines_up 1 701 ∷ buffered ∷ []) (700 ∷ []) (sender 1 701 ∷ sender 2 702 ∷ []) → ⊥
urgent_behind_buffer d = let e : 2 ≤ 1 = d.in_lines.0.0 in omega arith

pub less_urgent_refills : Roomy (takes 700 1 ∷ lines_up 2 702 ∷ lines_up 1 701 ∷ buffered ∷ []) (701 ∷ []) (sender 2 702 ∷ []) → ⊥
less_urgent_refills d = let e : 2 ≤ 1 = d.urgent_first.0.0.1.0 in omega arith

-- a less urgent one enters by its own E_OK while a more urgent one waits: a receive hands out 700 and releases nobody, and then there is room
pub less_urgent_enters : Roomy (record { caller = 1; asked = some (own (send polling 701)); extended = none; answer = say ok 0 [] } ∷ record { caller = 4; asked = some (own (receive polling)); extended = none; answer = say ok 700 [] } ∷ lines_up 2 702 ∷ buffered ∷ []) (701 ∷ []) (sender 2 702 ∷ []) → ⊥
less_urgent_enters d = let e : 2 ≤ 1 = d.urgent_first.0.0.0 in omega arith
