-- Words of 32 bits as a host has them, said apart from Encoding: those of a call, which it writes, and those of an answer, which it reads. Definitions only.
use Rattle.std.specs.Prelude.{ℕ, ◌<◌, ◌^◌, ◌≡◌, List, [], ◌∷◌, ℤ, pos, negsuc, length, get_or}
use Rattle.std.specs.Int.{w32}
use Rattle.std.proofs.Common.{of_z, to_z}
use Rattle.itron.specs.Codes.{Code, ok, waiting, error, number_of}
use Rattle.model.specs.State.{Vector}
use Rattle.model.specs.Answers.{Answer, released_of}
use Rattle.model.specs.Acts.{own, refer, set_vector}
use Rattle.model.specs.declared.sem.SemaphoreCall.TheVariants.{Signal as signal, Acquire as acquire}
use Rattle.model.specs.declared.dtq.QueueCall.TheVariants.{Send as send, Receive as receive, ForcedSend as forced_send}
use Rattle.model.specs.declared.Patience.TheVariants.{Polling, Forever}
use Rattle.model.specs.declared.svc.ExtendedCall.TheVariants.{Enter, Leave}
use Rattle.model.specs.Calls.{Op, Call, on_semaphore, on_queue, on_level}
use Rattle.batch.specs.declared.numbers.Numbers.{Numbers}

-- ---- a call's numbers: function, caller, object, word, vector
abbrev pub row : ℕ → ℤ → ℤ → ℕ → Vector → Numbers
row f t n w v = record { function = f; caller = t; object = n; word = w; vector = v }

-- where a call has no object, any number n may stand, where it has no word, any word w, and where it has no vector, any vector v: they say nothing
module _ (n : ℤ) (w : ℕ) (v : Vector) where
  -- a function for each call, in document 01's order; then what requests added
  abbrev pub numbers_by : ℤ → Op → Numbers
  numbers_by t (on_semaphore i (own signal)) = row 1 t i w v
  numbers_by t (on_semaphore i (own (acquire Polling))) = row 2 t i w v
  numbers_by t (on_semaphore i (own (acquire Forever))) = row 3 t i w v
  numbers_by t (on_semaphore i refer) = row 4 t i w v
  numbers_by t (on_semaphore i (set_vector x)) = row 5 t i w x
  numbers_by t (on_queue i (own (send Polling x))) = row 6 t i x v
  numbers_by t (on_queue i (own (send Forever x))) = row 7 t i x v
  numbers_by t (on_queue i (own (receive Polling))) = row 8 t i w v
  numbers_by t (on_queue i (own (receive Forever))) = row 9 t i w v
  numbers_by t (on_queue i refer) = row 10 t i w v
  numbers_by t (on_queue i (set_vector x)) = row 11 t i w x
  numbers_by t (on_queue i (own (forced_send x))) = row 12 t i x v
  numbers_by t (on_level Enter) = row 13 t n w v
  numbers_by t (on_level Leave) = row 14 t n w v

  abbrev pub numbers_of : Call → Numbers
  numbers_of c = numbers_by c.caller c.op

-- ---- their eight words; signed numbers are in two's complement
abbrev pub words_of : Numbers → List ℕ
words_of q =
    q.function ∷ of_z w32 q.caller ∷ of_z w32 q.object ∷ q.word
    ∷ q.vector.normal1 ∷ q.vector.normal2 ∷ q.vector.management ∷ q.vector.reference ∷ []

-- ---- the numbers that 32 bits hold
-- unsigned: 0 to 2^32 - 1
abbrev pub Unsigned : ℕ → Type 0
Unsigned n = n < 2 ^ 32

-- signed: -2^31 to 2^31 - 1; negsuc n is -(n + 1)
abbrev pub Signed : ℤ → Type 0
Signed (pos n) = n < 2 ^ 31
Signed (negsuc n) = n < 2 ^ 31

pub record Fits (q : Numbers) : Type 0 where
  pub function : Unsigned q.function
  pub caller : Signed q.caller
  pub object : Signed q.object
  pub word : Unsigned q.word
  pub normal1 : Unsigned q.vector.normal1
  pub normal2 : Unsigned q.vector.normal2
  pub management : Unsigned q.vector.management
  pub reference : Unsigned q.vector.reference

-- ---- what the words of an answer say, by their places
-- E_OK is 0 and "waiting" is 1; of a refusal the number is in two's complement
abbrev pub CodeSaid : Code → ℕ → Type 0
CodeSaid ok n = n ≡ 0
CodeSaid waiting n = n ≡ 1
CodeSaid (error e) n = to_z w32 n ≡ number_of e

pub record Says (ws : List ℕ) (a : Answer) : Type 0 where
  pub long : length ws ≡ 11
  pub code : CodeSaid a.code (get_or ws 0 0)
  pub word : get_or ws 1 0 ≡ a.word
  pub released_task : get_or ws 2 0 ≡ (released_of a.released).task
  pub released_word : get_or ws 3 0 ≡ (released_of a.released).word
  pub first : get_or ws 4 0 ≡ a.info.first
  pub second : get_or ws 5 0 ≡ a.info.second
  pub amount : get_or ws 6 0 ≡ a.info.amount
  pub normal1 : get_or ws 7 0 ≡ a.info.vector.normal1
  pub normal2 : get_or ws 8 0 ≡ a.info.vector.normal2
  pub management : get_or ws 9 0 ≡ a.info.vector.management
  pub reference : get_or ws 10 0 ≡ a.info.vector.reference
