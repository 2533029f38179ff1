-- What the claims about runs say, in plain facts: whatever the run, the task, the object and the word. Assumes nothing.
use Prim.Native.Nat.{ℕ, suc, ◌-◌, ◌≤◌, ◌<◌}
use native.Mathlib.Omega.{arith}
use mathlib.Core.Path.{◌≡◌, refl, sym, ap, ◌∙◌, subst}
use mathlib.Core.Logic.{inl, inr}
use mathlib.Core.Bool.{Bool, true, false}
use mathlib.Core.List.{List, [], ◌∷◌, ◌++◌, map}
use mathlib.Core.Option.{some}
use lib.IntN.{ℤ, pos, negsuc, neg_ℤ}
use lib.ListN.{length, drop}
use lib.Seq.{drop-length}
use Rattle.access.specs.Domains.{running_of}
use Rattle.access.specs.Patterns.{admitted}
use Rattle.access.proofs.Laws.{kernel_always, zeros_kernel_only, running_kernel, inside_admitted}
use Rattle.itron.specs.Codes.{Code, ok, waiting}
use Rattle.model.specs.State.{Place, Waiter, place, waiter, sem_at, queue_at, domain_at, priority_at, no}
use Rattle.model.specs.Answers.{outcome_of}
use Rattle.model.specs.Waits.{waiters_at, senders}
use Rattle.model.specs.Table.{close}
use Rattle.model.specs.Sends.{waiting_sends}
use Rattle.model.specs.QueueClaims.{by_queue, Sender, sender_of, sender_in}
use Rattle.model.proofs.Lines.{demand_stands}
use Rattle.model.proofs.Turns.{semaphore_first_come, senders_first_come, receivers_first_come}
use Rattle.model.specs.Acts.{Act, own}
use Rattle.model.specs.declared.Outcome.TheVariants as Outcome
use Rattle.model.specs.declared.Patience.{Patience}
use Rattle.model.specs.declared.Side.TheVariants.{OnSem as on_sem, Receiving as receiving, Sending as sending}
use Rattle.model.specs.declared.sem.SemaphoreCall.{SemaphoreCall}
use Rattle.model.specs.declared.sem.SemaphoreCall.TheVariants.{Signal as signal}
use Rattle.model.specs.declared.dtq.QueueCall.{QueueCall}
use Rattle.model.specs.declared.dtq.QueueCall.TheVariants.{Send as send, Receive as receive, ForcedSend as forced_send}
use Rattle.model.specs.declared.svc.ExtendedCall.{ExtendedCall}
use Rattle.model.specs.Calls.{Op, on_semaphore, on_queue, on_level, Call, call, step}
use Rattle.model.specs.Lists.{Some, total, arrange}
use Rattle.model.specs.History.{event, after, history, without}
use Rattle.model.specs.Demand3.{Demand3}
use Rattle.model.specs.Turns.{count_if, count_at, serves}
use Rattle.model.specs.LevelClaims.{enters_by, leaves_by, by_none}
use Rattle.model.specs.Denials.{Ready, OnObject, InRange, There, pattern_since}
use Rattle.model.proofs.Lists.{no_both}
use Rattle.model.proofs.WaitQueues as WaitQueues
use Rattle.model.proofs.Numbers.{apart}
use Rattle.model.proofs.Increments.{did, More, word_waits, word_taken, sender_joins}
use Rattle.kernel.specs.declared.state.State.{State}
use Rattle.kernel.specs.declared.state.Answer.{Answer}
use Rattle.kernel.specs.View.{view_of}
use Rattle.kernel.specs.Promises.{Enters, Does}
use Rattle.kernel.specs.Valid.{Valid}
use Rattle.kernel.specs.declared.state.Entered.{Entered}
use Rattle.laws.proofs.Runs.{whole, turns}
use Rattle.laws.specs.Runs.{Built, taken, Said, said_in, Ran}
use Rattle.laws.specs.Claims.{Whole, TakesTurns, DeniesExactly}

-- ---- "Which calls are accepted, grant or hand out a word is what demand 2 gives from the table and the calls alone"
pub alike : {s₀ s s' : State} {cs : List Call} {l l' : List Said} → Whole s₀ s cs l → Whole s₀ s' cs l' → (view_of s ≡ view_of s') × (l ≡ l')
alike w x = (w.state ∙ sym x.state, w.answers ∙ sym x.answers)

-- ---- no word is lost, by what the program answered: after the calls cs the state s and the answers l, with one call more s' and the answer x too
module _ (s₀ s s' : State) (cs : List Call) (l : List Said) (x : Said) (t n : ℤ) where
  -- the answer's code is the one that the rules give
  answer_is : (c : Call) → Whole s₀ s' (c ∷ cs) (x ∷ l) → x ≡ said_in (event (after (view_of s₀) cs) c)
  unfolding history
  answer_is c w = let e = w.answers in cc

  -- demand 3 of the calls before and with this one, whose code is k
  abbrev Both : Call → Code → Type 0
  Both c k =
      let m = view_of s₀ in
      let a = (step (after m cs) c).answer in
      More m (view_of s) (view_of s') (after m cs) (history m cs) t a.word a.info c.op k a.released

  both : (op : Op) (k : Code) → Whole s₀ s cs l → Whole s₀ s' (call t op ∷ cs) (x ∷ l) → x.reply.outcome ≡ outcome_of k → Both (call t op) k
  unfolding history
  both op k d d' o =
      let m = view_of s₀ in
      let c = call t op in
      let a = (step (after m cs) c).answer in
      let e : a.code ≡ k = apart a.code k (sym (ap (λ (y : Said). y.reply.outcome) (answer_is c d')) ∙ o) in
      (d.demand, subst (λ (k : Code). Demand3 m (did m m m (after m cs) (history m cs) t a.word a.info op k a.released ∷ history m cs) (view_of s')) e d'.demand)

  -- a send that waits: its task waits with its word, the last of all, and the buffer stays
  pub waiting_word_held : (p : Patience) (w : ℕ) → Whole s₀ s cs l → Whole s₀ s' (call t (on_queue n (own (send p w))) ∷ cs) (x ∷ l) → x.reply.outcome ≡ Outcome.Waiting
      → ((before : List Waiter) × ((view_of s').waits ≡ before ++ (waiter (no t) sending (no n) w ∷ []))) × ((queue_at (view_of s') (no n)).buffer ≡ (queue_at (view_of s) (no n)).buffer)
  waiting_word_held p w d d' o =
      let m = view_of s₀ in
      let c = on_queue n (own (send p w)) in
      let a = (step (after m cs) (call t c)).answer in
      let b = both c waiting d d' o in (
        (without a.released (view_of s).waits, sender_joins m (view_of s) (view_of s') (after m cs) (history m cs) t a.word a.info n p w a.released b),
        word_waits m (view_of s) (view_of s') (after m cs) (history m cs) t a.word a.info n p w a.released b,
      )

  -- a receive answered E_OK (0): its word is the first that was buffered, and the others move up; where none was, a sender's
  pub first_word_given : (p : Patience) → Whole s₀ s cs l → Whole s₀ s' (call t (on_queue n (own (receive p))) ∷ cs) (x ∷ l) → x.reply.outcome ≡ Outcome.Code (pos 0)
      → (behind : List ℕ) × (x.reply.word ∷ (queue_at (view_of s') (no n)).buffer ≡ (queue_at (view_of s) (no n)).buffer ++ behind)
  first_word_given p d d' o =
      let m = view_of s₀ in
      let c = on_queue n (own (receive p)) in
      let a = (step (after m cs) (call t c)).answer in (
        _,
        ap (λ (y : Said). y.reply.word ∷ (queue_at (view_of s') (no n)).buffer) (answer_is (call t c) d')
            ∙ word_taken m (view_of s) (view_of s') (after m cs) (history m cs) t a.word a.info n p a.released (both c ok d d' o),
      )

-- ---- taking turns: e waits at a place with the tasks `ahead` before it, and the calls cs follow
module _ (s₁ : State) (e : Waiter) (ahead : List Waiter) (cs : List Call) (s : State) (l : List Said) (h : Ran s₁ cs s l) where
  -- as many calls of the opposite kind were accepted as there were tasks ahead
  abbrev Due : Place → Type 0
  Due p = total (serves p) (history (view_of s₁) cs) ≡ length ahead

  stands : (a b : List Waiter) → Some (λ (x : Waiter). x ≡ e) (a ++ e ∷ b)
  stands [] b = inl refl
  stands (x ∷ a) b = inr (stands a b)

  -- until then it waits there, then it stands first
  pub waits_still : (p : Place) → TakesTurns s₁ p e ahead → total (serves p) (history (view_of s₁) cs) ≤ length ahead → Some (λ (x : Waiter). x ≡ e) (waiters_at (view_of s) p)
  waits_still p t n = let x = t.still cs s l h n in subst (Some (λ (y : Waiter). y ≡ e)) (sym x.1) (stands (drop (total (serves p) (history (view_of s₁) cs)) ahead) x.0)

  pub stands_first : (p : Place) → TakesTurns s₁ p e ahead → Due p → (m : List Waiter) × (waiters_at (view_of s) p ≡ e ∷ m)
  stands_first p t n = let x = t.still cs s l h (omega arith) in (x.0, x.1 ∙ ap (λ (a : List Waiter). a ++ e ∷ x.0) (ap (λ (k : ℕ). drop k ahead) n ∙ drop-length ahead))

  -- and the next accepted one releases it: a signal, a send, a forced send, a receive
  module _ (t n : ℤ) (r : Answer) where
    code_is : (c : Call) (k : Code) → Does s c r → r.outcome ≡ outcome_of k → (step (view_of s) c).answer.code ≡ k
    code_is c k d o = apart _ k (sym (ap (λ (y : Answer). y.outcome) d.same) ∙ o)

    at_place : (p : Place) → count_at p (some p) ≡ 1
    at_place p = ap count_if (WaitQueues.alike p)

    pub signal_releases : TakesTurns s₁ (place on_sem (no n)) e ahead → Due (place on_sem (no n)) → Does s (call t (on_semaphore n (own signal))) r → r.outcome ≡ Outcome.Code (pos 0) → r.released.task ≡ e.task
    signal_releases u z d o = u.served cs s l h z _ r d (rw (code_is _ ok d o) (at_place (place on_sem (no n))))

    pub send_releases : (p : Patience) (w : ℕ) → TakesTurns s₁ (place receiving (no n)) e ahead → Due (place receiving (no n)) → Does s (call t (on_queue n (own (send p w)))) r → r.outcome ≡ Outcome.Code (pos 0) → r.released.task ≡ e.task
    send_releases p w u z d o = u.served cs s l h z _ r d (rw (code_is _ ok d o) (at_place (place receiving (no n))))

    pub force_releases : (w : ℕ) → TakesTurns s₁ (place receiving (no n)) e ahead → Due (place receiving (no n)) → Does s (call t (on_queue n (own (forced_send w)))) r → r.outcome ≡ Outcome.Code (pos 0) → r.released.task ≡ e.task
    force_releases w u z d o = u.served cs s l h z _ r d (rw (code_is _ ok d o) (at_place (place receiving (no n))))

    pub receive_releases : (p : Patience) → TakesTurns s₁ (place sending (no n)) e ahead → Due (place sending (no n)) → Does s (call t (on_queue n (own (receive p)))) r → r.outcome ≡ Outcome.Code (pos 0) → r.released.task ≡ e.task
    receive_releases p u z d o = u.served cs s l h z _ r d (rw (code_is _ ok d o) (at_place (place sending (no n))))

-- ---- who gets E_OACV (-27)
module _ {t : State} {b : Built t} {s₀ s : State} {cs : List Call} {c : Call} {r : Answer} (d : DeniesExactly b s₀ s cs c r) where
  abbrev Denied : Type 0
  Denied = r.outcome ≡ Outcome.Code (neg_ℤ (pos 27))

  abbrev pattern_then : ℕ
  pattern_then = pattern_since (taken b) (history (view_of s₀) cs) c.op

  -- its caller's accepted enters before it less its accepted leaves
  abbrev level_then : ℕ
  level_then = total (enters_by (no c.caller)) (by_none (history (view_of s₀) cs)) - total (leaves_by (no c.caller)) (by_none (history (view_of s₀) cs))

  -- "The kernel domain is always admitted"
  pub kernel_never_denied : domain_at (view_of s) (no c.caller) ≡ negsuc 0 → Denied → ⊥
  kernel_never_denied k o = no_both (ap (λ (z : ℤ). admitted pattern_then (running_of z level_then)) k ∙ ap (admitted pattern_then) (running_kernel level_then) ∙ kernel_always pattern_then) (d.only o).denied

  -- "above 0 the caller counts as the kernel domain" (request T-03), by its accepted enters and leaves
  pub inside_never_denied : 0 < level_then → Denied → ⊥
  inside_never_denied h o = no_both (inside_admitted pattern_then (domain_at (view_of s) (no c.caller)) level_then h) (d.only o).denied

  -- entering and leaving is denied to nobody
  pub level_never_denied : (x : ExtendedCall) → c.op ≡ on_level x → Denied → ⊥
  level_never_denied x e o = subst OnObject e (d.only o).object

  -- "Giving E_OACV for a number that isn't registered" is a slip
  pub denied_registered : (n : ℤ) → ((a : Act SemaphoreCall) → c.op ≡ on_semaphore n a → Denied → no n ≤ length (view_of s).sems) × ((a : Act QueueCall) → c.op ≡ on_queue n a → Denied → no n ≤ length (view_of s).queues)
  denied_registered n = ((λ a e o. subst (There (view_of s)) e (d.only o).there), (λ a e o. subst (There (view_of s)) e (d.only o).there))

  -- nor is it given to a task that waits
  pub denied_ready : Denied → Ready (view_of s) (no c.caller)
  denied_ready o = (d.only o).ready

  -- "All zeros is kernel only": a user domain's call, outside extended service calls, on a registered object whose pattern is 0 then is denied
  pub zeros_deny : (k : ℕ) → domain_at (view_of s) (no c.caller) ≡ pos (suc k) → level_then ≡ 0 → pattern_then ≡ 0 → OnObject c.op → Ready (view_of s) (no c.caller) → InRange (view_of s) c.op → There (view_of s) c.op → Denied
  zeros_deny k e l z x y i j = d.always (record { object = x; ready = y; numbered = i; there = j; denied = (λ n. admitted (z n) (running_of (e n) (l n))) ∙ go (admitted 0 (pos (suc k))) refl })
    where
      go : (x : Bool) → admitted 0 (pos (suc k)) ≡ x → x ≡ false
      go true q = let f : pos (suc k) ≡ negsuc 0 = zeros_kernel_only (pos (suc k)) q in cc
      go false q = refl

-- ---- request T-10, of the program, whatever the table: the senders of a queue in priority order, and turns wherever those who wait stand as they came
pub senders_by_priority : {s s' : State} {r : Entered} {cs : List Call} {l : List Said} → Built s → Enters s (close (view_of s)) r → Ran r.state cs s' l → (q : ℕ) → (queue_at (view_of r.state) q).attribute ≡ 1
    → map sender_of (senders (view_of s') q) ≡ arrange (λ (y : Sender). priority_at (view_of r.state) y.task) (map sender_in (waiting_sends (by_queue q (history (view_of r.state) cs))))
senders_by_priority b g h q e = demand_stands (whole b g h).demand q e

module _ {s : State} (v : Valid s) (n : ℕ) (e : Waiter) (ahead behind : List Waiter) where
  pub turns_at_semaphore : (sem_at (view_of s) n).attribute ≡ 0 → waiters_at (view_of s) (place on_sem n) ≡ ahead ++ e ∷ behind → TakesTurns s (place on_sem n) e ahead
  turns_at_semaphore h w = turns v (place on_sem n) (semaphore_first_come (view_of s) n h) e ahead behind w

  pub turns_to_send : (queue_at (view_of s) n).attribute ≡ 0 → waiters_at (view_of s) (place sending n) ≡ ahead ++ e ∷ behind → TakesTurns s (place sending n) e ahead
  turns_to_send h w = turns v (place sending n) (senders_first_come (view_of s) n h) e ahead behind w

  pub turns_to_receive : waiters_at (view_of s) (place receiving n) ≡ ahead ++ e ∷ behind → TakesTurns s (place receiving n) e ahead
  turns_to_receive w = turns v (place receiving n) (receivers_first_come (view_of s) n) e ahead behind w
