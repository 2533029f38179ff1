-- The starred runs of document 01 ("Bench runs"): the table, one list of what is done, and the answers that are due. Definitions only.
use Rattle.std.specs.Prelude.{ℕ, List, [], ◌∷◌, ℤ, pos, negsuc}
use Rattle.std.proofs.Math.Option.{Option, none, some}
use Rattle.access.specs.declared.vector.Vector.{Vector}
use Rattle.std.specs.Prelude.{Some as Given}
use Rattle.itron.specs.Codes.{Code, ok, waiting, error}
use Rattle.itron.specs.declared.error.Error.{Error as Refusal}
use Rattle.itron.specs.declared.error.Error.TheVariants.{Oacv as e_oacv, Tmout as e_tmout, Qovr as e_qovr, Obj as e_obj, Macv as e_macv}
use Rattle.model.specs.State as Model
use Rattle.model.specs.State.{sem_at, queue_at}
use Rattle.model.specs.Answers.{Answer}
use Rattle.model.specs.Table.{Entry, task, sem, queue, region, fresh, enter, close}
use Rattle.model.specs.Verdict.{verdict}
use Rattle.model.specs.Acts.{own, set_vector}
use Rattle.model.specs.declared.sem.SemaphoreCall.TheVariants.{Signal as signal, Acquire as acquire}
use Rattle.model.specs.declared.dtq.QueueCall.TheVariants.{Send as send, Receive as receive}
use Rattle.model.specs.Calls.{Op, on_semaphore, on_queue, call, step}
use Rattle.model.specs.declared.Released.{Released}
use Rattle.model.specs.declared.Patience.TheVariants.{Polling, Forever}

abbrev pub vector : ℕ → ℕ → ℕ → ℕ → Vector
vector a b c d = record { normal1 = a; normal2 = b; management = c; reference = d }

-- ---- n = 2, unit 4,096; tasks 1 and 4 in domain 1, task 2 in domain 2, task 3 in the kernel, all of priority 1; semaphore 1, queues 1 and 2; regions 1 and 2
abbrev pub kernel_domain : ℤ
kernel_domain = negsuc 0

abbrev pub unit : ℕ
unit = 4096

abbrev pub entries : List Entry
entries =
    task (pos 1) 1 ∷ task (pos 2) 1 ∷ task kernel_domain 1 ∷ task (pos 1) 1
    ∷ sem kernel_domain 0 1 2 (Given (vector 1 1 0 3))
    ∷ queue kernel_domain 0 2 (Given (vector 1 1 0 3))
    ∷ queue kernel_domain 0 0 (Given (vector 3 3 0 3))
    ∷ region kernel_domain 5 4096 4096 (Given (vector 0 3 0 3))
    ∷ region kernel_domain 0 8192 4096 (Given (vector 1 1 0 1))
    ∷ []

abbrev pub enter_all : Model.State → List Entry → Model.State
enter_all s [] = s
enter_all s (i ∷ l) = enter_all (enter s i).state l

unfoldable pub bench : Model.State
bench = (close (enter_all (fresh (pos 2) unit).state entries)).state

-- ---- what is done, one after the other
pub data Item : Type 0 where
  -- begin again from the closed table
  restart : Item
  -- a call by a task
  does : ℕ → Op → Item
  -- a look at the count of a semaphore, or at the buffer of a queue
  count : ℕ → Item
  buffer : ℕ → Item
  -- a verdict: domain, base, size, wishes
  asks : ℕ → ℕ → ℕ → ℕ → Item

pub data Result : Type 0 where
  began : Result
  says : Code → (word : ℕ) → List Released → Result
  counts : ℕ → Result
  buffers : List ℕ → Result
  finds : Option Refusal → Result

abbrev pub result_in : Answer → Result
result_in a = says a.code a.word a.released

unfoldable pub run : Model.State → List Item → List Result
run s [] = []
run s (restart ∷ l) = began ∷ run bench l
run s (does t op ∷ l) = result_in (step s (call (pos t) op)).answer ∷ run (step s (call (pos t) op)).state l
run s (count i ∷ l) = counts (sem_at s i).count ∷ run s l
run s (buffer q ∷ l) = buffers (queue_at s q).buffer ∷ run s l
run s (asks d b z w ∷ l) = finds (verdict s (pos d) b z w) ∷ run s l

abbrev pub done : Result
done = says ok 0 []

abbrev pub refused : Refusal → Result
refused e = says (error e) 0 []

abbrev pub waits : Result
waits = says waiting 0 []

abbrev pub frees : ℕ → ℕ → Result
frees word t = says ok word (record { task = t; word = 0 } ∷ [])

-- reading is wish 2
abbrev pub reads : ℕ
reads = 2

-- an item with what it gives
pub record Step : Type 0 where
  pub item : Item
  pub result : Result

infix 20 ◌⇒◌
abbrev pub ◌⇒◌ : Item → Result → Step
i ⇒ r = record { item = i; result = r }

-- ---- the one list; steps without a star that change the state stay in it
abbrev pub starred : List Step
starred =
    -- S
    (restart ⇒ began)
    ∷ (does 1 (on_semaphore (pos 1) (own (acquire Polling))) ⇒ done)
    ∷ (does 1 (on_semaphore (pos 1) (own (acquire Polling))) ⇒ refused e_tmout)
    ∷ (does 1 (on_semaphore (pos 1) (own (acquire Forever))) ⇒ waits)
    ∷ (does 2 (on_semaphore (pos 1) (own signal)) ⇒ refused e_oacv)
    ∷ (does 3 (on_semaphore (pos 1) (set_vector (vector 2 2 0 3))) ⇒ done)
    ∷ (does 2 (on_semaphore (pos 1) (own signal)) ⇒ frees 0 1)
    ∷ (count 1 ⇒ counts 0)
    ∷ (does 2 (on_semaphore (pos 1) (own signal)) ⇒ done)
    ∷ (does 2 (on_semaphore (pos 1) (own signal)) ⇒ done)
    ∷ (does 2 (on_semaphore (pos 1) (own signal)) ⇒ refused e_qovr)
    -- Q
    ∷ (restart ⇒ began)
    ∷ (does 2 (on_queue (pos 1) (own (receive Forever))) ⇒ refused e_oacv)
    ∷ (does 1 (on_queue (pos 1) (own (send Polling 700))) ⇒ done)
    ∷ (does 1 (on_queue (pos 1) (own (send Polling 701))) ⇒ done)
    ∷ (does 1 (on_queue (pos 1) (own (send Polling 702))) ⇒ refused e_tmout)
    ∷ (does 1 (on_queue (pos 1) (own (send Forever 702))) ⇒ waits)
    ∷ (does 4 (on_queue (pos 1) (own (receive Polling))) ⇒ frees 700 1)
    ∷ (buffer 1 ⇒ buffers (701 ∷ 702 ∷ []))
    ∷ (does 2 (on_queue (pos 2) (own (send Polling 5))) ⇒ refused e_tmout)
    ∷ (does 2 (on_queue (pos 2) (own (send Forever 5))) ⇒ waits)
    ∷ (does 1 (on_queue (pos 2) (own (receive Forever))) ⇒ frees 5 2)
    -- Regions: domain 2 reads 0x1FFF size 1, size 2, and 0x2000 size 1
    ∷ (asks 2 8191 1 reads ⇒ finds none)
    ∷ (asks 2 8191 2 reads ⇒ finds (some e_obj))
    ∷ (asks 2 8192 1 reads ⇒ finds (some e_macv))
    ∷ []
