-- What is claimed of the calls on one semaphore: its part of demand 3. Definitions only.
use Rattle.std.specs.Prelude.{◌≡◌, List, map, ℕ, ◌+◌, eqb, length}
use Rattle.std.proofs.Math.Option.{Option, none, some}
use Rattle.model.specs.Lists.{total}
use Rattle.model.specs.State.{Vector, Side, on_sem, no}
use Rattle.model.specs.Answers.{Released, when_ok}
use Rattle.model.specs.Acts.{Act, own, refer, set_vector}
use Rattle.model.specs.Semaphores.{SemaphoreCall, signal, acquire}
use Rattle.model.specs.Calls.{Op, on_semaphore, on_queue, on_level}
use Rattle.model.specs.History.{History, Made, seen_by, asked_if, of_asked}

-- ---- a history as semaphore i sees it
abbrev pub asked_of : ℕ → Op → Option (Act SemaphoreCall)
asked_of i (on_semaphore n a) = asked_if (eqb i (no n)) a
asked_of i (on_queue n a) = none
asked_of i (on_level c) = none

abbrev pub by_semaphore : ℕ → History → List (Made SemaphoreCall)
by_semaphore i h = map (seen_by (asked_of i)) h

-- ---- the pattern that governs a call: signal is normal operation 1; poll and wait are normal operation 2; set-vector is management, refer is reference
abbrev pub pattern_for : Vector → Act SemaphoreCall → ℕ
pattern_for v (own signal) = v.normal1
pattern_for v (own (acquire p)) = v.normal2
pattern_for v refer = v.reference
pattern_for v (set_vector w) = v.management

-- ---- what is counted
-- a signal is accepted when it answers E_OK
abbrev pub signal_in : SemaphoreCall → ℕ
signal_in signal = 1
signal_in (acquire p) = 0

abbrev pub signals : Made SemaphoreCall → ℕ
signals m = when_ok 0 (of_asked 0 signal_in m.asked) m.answer.code

-- a grant is a poll or wait answered E_OK, or a release by a signal
abbrev pub grant_in : List Released → SemaphoreCall → ℕ
grant_in rs signal = length rs
grant_in rs (acquire p) = 1

abbrev pub grants : Made SemaphoreCall → ℕ
grants m = when_ok 0 (of_asked 0 (grant_in m.answer.released) m.asked) m.answer.code

-- whom a call serves: a signal who waits for the semaphore
abbrev pub served_in : SemaphoreCall → Option Side
served_in signal = some on_sem
served_in (acquire p) = none

-- ---- demand 3: count + grants = start + accepted signals
abbrev pub Counted : (start : ℕ) → List (Made SemaphoreCall) → (count : ℕ) → Type 0
Counted start h count = count + total grants h ≡ start + total signals h
