-- A list of calls as numbers of 32 bits, and their answers as numbers of 32 bits. Definitions only.
use Rattle.std.specs.Prelude.{ℕ, zero, suc, ◌+◌, ◌-◌, ◌*◌, ◌/◌, cond, List, [], ◌∷◌, ◌++◌, leb, ltb, ℤ, negsuc, length, get_or}
use Rattle.std.proofs.Math.Option.{Option, none, some}
use Rattle.std.specs.Int.{w32}
use Rattle.std.proofs.Common.{to_z, of_z}
use Rattle.model.specs.Answers.{Answer, outcome_of, released_of}
use Rattle.model.specs.Acts.{own, refer, set_vector}
use Rattle.model.specs.declared.sem.SemaphoreCall.TheVariants.{Signal as signal, Acquire as acquire}
use Rattle.model.specs.declared.dtq.QueueCall.TheVariants.{Send as send, Receive as receive, ForcedSend as forced_send}
use Rattle.model.specs.declared.svc.ExtendedCall.TheVariants.{Enter, Leave}
use Rattle.model.specs.Calls.{Call, call, on_semaphore, on_queue, on_level}
use Rattle.model.specs.History.{History}
use Rattle.model.specs.declared.Outcome.{Outcome}
use Rattle.model.specs.declared.Outcome.TheVariants.{Code, Waiting}
use Rattle.model.specs.declared.Patience.TheVariants.{Polling, Forever}
use Rattle.batch.specs.declared.numbers.Numbers.{Numbers}

-- ---- a call is eight words: function, caller, object, word, four patterns; signed numbers are in two's complement
abbrev pub call_words : ℕ
call_words = 8

abbrev pub numbers_at : List ℕ → ℕ → Numbers
numbers_at ws at =
    record {
      function = get_or ws at 0;
      caller = to_z w32 (get_or ws (at + 1) 0);
      object = to_z w32 (get_or ws (at + 2) 0);
      word = get_or ws (at + 3) 0;
      vector = record { normal1 = get_or ws (at + 4) 0; normal2 = get_or ws (at + 5) 0; management = get_or ws (at + 6) 0; reference = get_or ws (at + 7) 0 };
    }

-- what numbers can mean, in document 01's order of the calls; then what requests added
abbrev pub meanings : Numbers → List Call
meanings q =
    call q.caller (on_semaphore q.object (own signal))
    ∷ call q.caller (on_semaphore q.object (own (acquire Polling)))
    ∷ call q.caller (on_semaphore q.object (own (acquire Forever)))
    ∷ call q.caller (on_semaphore q.object refer)
    ∷ call q.caller (on_semaphore q.object (set_vector q.vector))
    ∷ call q.caller (on_queue q.object (own (send Polling q.word)))
    ∷ call q.caller (on_queue q.object (own (send Forever q.word)))
    ∷ call q.caller (on_queue q.object (own (receive Polling)))
    ∷ call q.caller (on_queue q.object (own (receive Forever)))
    ∷ call q.caller (on_queue q.object refer)
    ∷ call q.caller (on_queue q.object (set_vector q.vector))
    ∷ call q.caller (on_queue q.object (own (forced_send q.word)))
    ∷ call q.caller (on_level Enter)
    ∷ call q.caller (on_level Leave)
    ∷ []

-- the n-th of a list, counted from 1
abbrev pub nth : {A : Type 0} → List A → ℕ → Option A
nth l zero = none
nth [] (suc n) = none
nth (x ∷ l) (suc zero) = some x
nth (x ∷ l) (suc (suc n)) = nth l (suc n)

-- the function is the meaning's number; any other is no call
abbrev pub item_of : Numbers → Option Call
item_of q = nth (meanings q) q.function

-- the k-th item of a slice, counted from 0: its words are the eight from k * 8 on; fewer than eight are no call
abbrev pub item_at : List ℕ → ℕ → Option Call
item_at ws k = cond (leb (k * call_words + call_words) (length ws)) (item_of (numbers_at ws (k * call_words))) none

-- the first n items, THE NEWEST FIRST as in a history
abbrev pub items_in : List ℕ → ℕ → List (Option Call)
items_in ws zero = []
items_in ws (suc k) = item_at ws k ∷ items_in ws k

-- the calls among them
abbrev pub calls_in : List (Option Call) → List Call
calls_in [] = []
calls_in (none ∷ l) = calls_in l
calls_in (some c ∷ l) = c ∷ calls_in l

-- ---- an answer is eleven words: code, word, released task and its word; what a refer tells: first, second, amount, four patterns
abbrev pub answer_words : ℕ
answer_words = 11

-- "waiting" has no number in document 01; here it is 1, which is no code's
abbrev pub outcome_word : Outcome → ℕ
outcome_word (Code z) = of_z w32 z
outcome_word Waiting = 1

abbrev pub encoded : Answer → List ℕ
encoded a =
    outcome_word (outcome_of a.code)
    ∷ a.word
    ∷ (released_of a.released).task
    ∷ (released_of a.released).word
    ∷ a.info.first
    ∷ a.info.second
    ∷ a.info.amount
    ∷ a.info.vector.normal1
    ∷ a.info.vector.normal2
    ∷ a.info.vector.management
    ∷ a.info.vector.reference
    ∷ []

-- E_RSFN of μITRON4.0, a code of its own: what is no call is refused by it
abbrev pub e_rsfn : ℤ
e_rsfn = negsuc 9

abbrev pub no_call : List ℕ
no_call = of_z w32 e_rsfn ∷ 0 ∷ 0 ∷ 0 ∷ 0 ∷ 0 ∷ 0 ∷ 0 ∷ 0 ∷ 0 ∷ 0 ∷ []

-- the words of the answers to items, in the order in which they were made: a call's are those of its event's answer in the
-- history of the calls among them
abbrev pub answers_in : List (Option Call) → History → List ℕ
answers_in [] h = []
answers_in (none ∷ l) h = answers_in l h ++ no_call
answers_in (some c ∷ l) [] = []
answers_in (some c ∷ l) (e ∷ h) = answers_in l h ++ encoded e.answer

-- ---- how many are answered: all that the slice holds (what is left behind the last eight words counts as one), as far as
-- their answers have room
abbrev pub groups : ℕ → ℕ
groups n = (n + (call_words - 1)) / call_words

abbrev pub answerable : ℕ → ℕ → ℕ
answerable calls answers = cond (ltb (answers / answer_words) (groups calls)) (answers / answer_words) (groups calls)
