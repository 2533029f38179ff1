-- Built and Ran leave nothing out: every entry, refused ones too, and every call are in the claims about runs; one run has a refused entry and each kind of call. Assumes nothing.
use Prim.Native.Nat.{ℕ, zero, suc, ◌≤◌, ◌<◌}
use native.Mathlib.Omega.{arith}
use mathlib.Core.Path.{◌≡◌, refl, sym, ap, ◌∙◌}
use mathlib.Core.Logic.{◌≢◌}
use mathlib.Core.Bool.{true}
use mathlib.Core.List.{List, [], ◌∷◌, ◌++◌, append-nil}
use mathlib.Core.Option.{Option, none, some}
use lib.IntN.{ℤ, pos, negsuc, neg_ℤ}
use Rattle.access.specs.Vectors.{private_of}
use Rattle.itron.specs.declared.error.Error.{Error as Refusal}
use Rattle.itron.specs.Limits.{max_domains, min_unit}
use Rattle.model.specs.State as Model
use Rattle.model.specs.Answers.{Out, code_of, when_ok}
use Rattle.model.specs.Table.{Entry, task, fresh, check_entry, enter, enter_by, close}
use Rattle.model.specs.Units.{unit_ok}
use Rattle.model.specs.Acts.{own, refer, set_vector}
use Rattle.model.specs.declared.sem.SemaphoreCall.TheVariants.{Signal as signal, Acquire as acquire}
use Rattle.model.specs.declared.dtq.QueueCall.TheVariants.{Send as send, Receive as receive, ForcedSend as forced_send}
use Rattle.model.specs.declared.Patience.TheVariants.{Polling, Forever}
use Rattle.model.specs.declared.svc.ExtendedCall.TheVariants.{Enter, Leave}
use Rattle.model.specs.Calls.{Call, call, on_semaphore, on_queue, on_level, asks}
use Rattle.model.proofs.Numbers.{refusal_negative}
use Rattle.model.proofs.Entries.{fresh_takes, fresh_above, fresh_below}
use Rattle.kernel.specs.declared.state.State.{State}
use Rattle.kernel.specs.declared.state.Answer.{Answer}
use Rattle.kernel.specs.declared.state.Entered.{Entered}
use Rattle.kernel.specs.View.{view_of}
use Rattle.kernel.specs.Promises.{Begins, Enters, Does, Tells}
use Rattle.laws.specs.Runs.{Built, begun, entered, taken, Said, said_by, Ran, start, calls, refers}
use Rattle.laws.specs.Claims.{Whole}
use Rattle.laws.proofs.Runs.{whole}

-- ---- whatever fresh gets, whatever the entry answers, and whatever the call is
pub every_fresh : (n : ℤ) (unit : ℕ) (r : Entered) → Begins n unit r → Built r.state
every_fresh n unit r g = begun n unit r g

-- n from 0 to its limit is answered E_OK (0), a higher or lower number E_PAR (-17)
pub fresh_codes : (n : ℕ) (r : Entered) → (Begins (pos n) min_unit r → n ≤ max_domains → r.code ≡ pos 0) × (Begins (pos n) min_unit r → max_domains < n → r.code ≡ neg_ℤ (pos 17)) × (Begins (negsuc n) min_unit r → r.code ≡ neg_ℤ (pos 17))
fresh_codes n r = (
  (λ g h. ap (λ (x : Entered). x.code) g.same ∙ ap code_of (fresh_takes n min_unit h (0, (omega arith, refl))).0),
  (λ g h. ap (λ (x : Entered). x.code) g.same ∙ ap code_of (fresh_above n min_unit h).0),
  (λ g. ap (λ (x : Entered). x.code) g.same ∙ ap code_of (fresh_below n min_unit).0),
)

pub every_entry : (s : State) → Built s → (i : Entry) (r : Entered) → Enters s (enter (view_of s) i) r → Built r.state
every_entry s b i r g = entered s b i r g

-- the code of an entry or a closing is the rules'
pub code_given : (s : State) (o : Out) (r : Entered) → Enters s o r → r.code ≡ code_of o.answer.code
code_given s o r g = ap (λ (x : Entered). x.code) g.same

-- an entry is taken where the program answered E_OK (0), and otherwise not
pub taken_when_0 : (s : State) (b : Built s) (i : Entry) (r : Entered) (g : Enters s (enter (view_of s) i) r) → (r.code ≡ pos 0 → taken (entered s b i r g) ≡ taken b ++ (i ∷ [])) × (r.code ≢ pos 0 → taken (entered s b i r g) ≡ taken b)
unfolding enter
taken_when_0 s b i r g = go (check_entry (view_of s) i) (code_given s _ r g)
  where
    go : (o : Option Refusal) → r.code ≡ code_of (enter_by (view_of s) i o).answer.code
        → (r.code ≡ pos 0 → taken b ++ when_ok [] (i ∷ []) (enter_by (view_of s) i o).answer.code ≡ taken b ++ (i ∷ [])) × (r.code ≢ pos 0 → taken b ++ when_ok [] (i ∷ []) (enter_by (view_of s) i o).answer.code ≡ taken b)
    go none e = ((λ z. refl), (λ z. absurd (z e)))
    go (some x) e = ((λ z. let q : negsuc (refusal_negative x).0 ≡ pos 0 = sym (refusal_negative x).1 ∙ sym e ∙ z in cc), (λ z. append-nil (taken b)))

module _ (s₀ : State) (cs : List Call) (s : State) (l : List Said) (h : Ran s₀ cs s l) (c : Call) (r : Answer) where
  -- what it answers, whole
  abbrev whole_answer : Said
  whole_answer = record { reply = record { outcome = r.outcome; word = r.word; released = r.released }; info = r.info }

  pub every_call : Does s c r → Ran s₀ (c ∷ cs) r.state (whole_answer ∷ l)
  every_call d = calls cs s l h c r d

  pub every_refer : (asks c.op).is_refer ≡ true → Tells s c r → Ran s₀ (c ∷ cs) r.state (whole_answer ∷ l)
  every_refer e d = refers cs s l h c e r d

-- ---- one run: n = 2, a task of domain 3, which is refused, one closing, then a call of each kind, in document 01's order, then the forced send (request T-05), entering and leaving (request T-03)
abbrev signals : Call
signals = call (pos 1) (on_semaphore (pos 1) (own signal))

abbrev polls : Call
polls = call (pos 1) (on_semaphore (pos 1) (own (acquire Polling)))

abbrev waits : Call
waits = call (pos 1) (on_semaphore (pos 1) (own (acquire Forever)))

abbrev refers_to_semaphore : Call
refers_to_semaphore = call (pos 1) (on_semaphore (pos 1) refer)

abbrev sets_semaphore : Call
sets_semaphore = call (pos 1) (on_semaphore (pos 1) (set_vector (private_of (pos 1))))

abbrev poll_sends : Call
poll_sends = call (pos 1) (on_queue (pos 1) (own (send Polling 700)))

abbrev sends : Call
sends = call (pos 1) (on_queue (pos 1) (own (send Forever 700)))

abbrev poll_receives : Call
poll_receives = call (pos 1) (on_queue (pos 1) (own (receive Polling)))

abbrev receives : Call
receives = call (pos 1) (on_queue (pos 1) (own (receive Forever)))

abbrev refers_to_queue : Call
refers_to_queue = call (pos 1) (on_queue (pos 1) refer)

abbrev sets_queue : Call
sets_queue = call (pos 1) (on_queue (pos 1) (set_vector (private_of (pos 1))))

abbrev forces : Call
forces = call (pos 1) (on_queue (pos 1) (own (forced_send 700)))

abbrev enters : Call
enters = call (pos 1) (on_level Enter)

abbrev leaves : Call
leaves = call (pos 1) (on_level Leave)

-- the newest first
abbrev each : List Call
each = leaves ∷ enters ∷ forces ∷ sets_queue ∷ refers_to_queue ∷ receives ∷ poll_receives ∷ sends ∷ poll_sends ∷ sets_semaphore ∷ refers_to_semaphore ∷ waits ∷ polls ∷ signals ∷ []

-- the state that a call gets: from the first one s, from each other what the answer before gave
abbrev state_at : State → (ℕ → Answer) → ℕ → State
state_at s a zero = s
state_at s a (suc k) = (a k).state

-- the answers of the program to these calls
pub record EachKind (s : State) (a : ℕ → Answer) : Type 0 where
  pub signalled : Does (state_at s a 0) signals (a 0)
  pub polled : Does (state_at s a 1) polls (a 1)
  pub waited : Does (state_at s a 2) waits (a 2)
  pub semaphore_told : Tells (state_at s a 3) refers_to_semaphore (a 3)
  pub semaphore_set : Does (state_at s a 4) sets_semaphore (a 4)
  pub poll_sent : Does (state_at s a 5) poll_sends (a 5)
  pub sent : Does (state_at s a 6) sends (a 6)
  pub poll_received : Does (state_at s a 7) poll_receives (a 7)
  pub received : Does (state_at s a 8) receives (a 8)
  pub queue_told : Tells (state_at s a 9) refers_to_queue (a 9)
  pub queue_set : Does (state_at s a 10) sets_queue (a 10)
  pub forced : Does (state_at s a 11) forces (a 11)
  pub entered : Does (state_at s a 12) enters (a 12)
  pub left : Does (state_at s a 13) leaves (a 13)

abbrev said_to : (ℕ → Answer) → ℕ → List Said
said_to a zero = []
said_to a (suc k) = said_by (a k) ∷ said_to a k

each_ran : (s : State) (a : ℕ → Answer) → EachKind s a → Ran s each (a 13).state (said_to a 14)
each_ran s a k =
    let h₁ = calls _ _ _ start signals (a 0) k.signalled in
    let h₂ = calls _ _ _ h₁ polls (a 1) k.polled in
    let h₃ = calls _ _ _ h₂ waits (a 2) k.waited in
    let h₄ = refers _ _ _ h₃ refers_to_semaphore refl (a 3) k.semaphore_told in
    let h₅ = calls _ _ _ h₄ sets_semaphore (a 4) k.semaphore_set in
    let h₆ = calls _ _ _ h₅ poll_sends (a 5) k.poll_sent in
    let h₇ = calls _ _ _ h₆ sends (a 6) k.sent in
    let h₈ = calls _ _ _ h₇ poll_receives (a 7) k.poll_received in
    let h₉ = calls _ _ _ h₈ receives (a 8) k.received in
    let h₁₀ = refers _ _ _ h₉ refers_to_queue refl (a 9) k.queue_told in
    let h₁₁ = calls _ _ _ h₁₀ sets_queue (a 10) k.queue_set in
    let h₁₂ = calls _ _ _ h₁₁ forces (a 11) k.forced in
    let h₁₃ = calls _ _ _ h₁₂ enters (a 12) k.entered in
    calls _ _ _ h₁₃ leaves (a 13) k.left

-- the entry is refused by E_ID (-18), and demand 3 holds of the run
pub full_run : (r₀ r₁ r₂ : Entered) → Begins (pos 2) min_unit r₀ → Enters r₀.state (enter (view_of r₀.state) (task (pos 3) 1)) r₁ → Enters r₁.state (close (view_of r₁.state)) r₂
    → (a : ℕ → Answer) → EachKind r₂.state a → (r₁.code ≡ neg_ℤ (pos 18)) × Whole r₂.state (a 13).state each (said_to a 14)
unfolding enter fresh unit_ok
full_run r₀ r₁ r₂ b e g a k = (
  ap (λ (r : Entered). r.code) e.same ∙ ap (λ (m : Model.State). code_of (enter m (task (pos 3) 1)).answer.code) b.seen,
  whole (entered r₀.state (begun (pos 2) min_unit r₀ b) (task (pos 3) 1) r₁ e) g (each_ran r₂.state a k),
)
