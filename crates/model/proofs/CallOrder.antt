-- What request T-05's order says of sends that are not forced, in each line of a queue; document 01's order follows from it, for a first-come queue where no accepted send is
-- forced and none is withdrawn. Assumes nothing.
use mathlib.Core.Path.{◌≡◌, refl, sym, ap, ◌∙◌}
use mathlib.Core.Bool.{Bool, true, false, cond, not, ◌||◌}
use mathlib.Core.List.{List, [], ◌∷◌, ◌++◌, map, append_assoc, head-eq_of_cons-eq, tail-eq_of_cons-eq}
use mathlib.Core.Option.{Option, none, some}
use Prim.Native.Nat.{ℕ, suc, ◌<◌}
use native.Mathlib.Omega.{arith}
use lib.Dec.{eqb, ltb}
use lib.IntN.{ℤ}
use lib.ListN.{length, take}
use borrow.Author.Tests.{ltb-true, ltb-false}
use Rattle.itron.specs.Codes.{Code, ok, waiting, error}
use Rattle.model.specs.Lists.{All, keep, cons_if, any_of, words, gathered}
use Rattle.model.specs.State.{Queue, Waiter, State, queue_at}
use Rattle.model.specs.Answers.{when_ok, when_waiting, when_accepted}
use Rattle.model.specs.Acts.{Act, own, refer, set_vector}
use Rattle.model.specs.Queues.{QueueCall, send, receive, forced_send}
use Rattle.model.specs.Waits.{by_priority, senders}
use Rattle.model.specs.History.{History, Made, of_asked}
use Rattle.model.specs.Sends.{Sent, send_in, send_of, word_of, unforced, times, Before, Ascending, accepts, accepted, shown, not_shown, waiting_sends, freed_by, withdrawn, enters_in, enters, entered, handed, full_in, finds_full, buffered, leaves}
use Rattle.model.specs.QueueClaims.{by_queue, Sender, sender_of, sender_in, words_in, line_of, Carried}
use Rattle.model.specs.Demand3.{Demand3}
use Rattle.model.proofs.Lists.{no_both, cons_ne, eq_of, eqb_same, eqb_no, map_append, all_keep, all_append, all_parts, all_weaker}
use Rattle.model.proofs.Sends.{Of, send_of_lem, accepted_ascends, ascending_keep, accepted_once, entered_placed, times_append, words_of_lem, words_in_lem}

-- ---- what is true of every accepted send is true of those that entered and of those that wait
module _ (P : Sent → Type 0) where
  accepted_too : (m : Made QueueCall) (h : List (Made QueueCall)) → All P (accepts m h) → All P (waiting_sends h) → All P (enters m h) × All P (when_waiting [] (send_of m h) m.answer.code)
  accepted_too m h f g = go m.answer.code f
    where
      by : (a : Option (Act QueueCall)) → All P (of_asked [] (send_in (length h) m.caller) a) → All P (of_asked [] (enters_in (of_asked [] (send_in (length h) m.caller) a) (freed_by m h)) a)
      by none k = tt
      by (some (own (send p w))) k = k
      by (some (own (receive p))) k = all_keep P (shown m.answer.released) (waiting_sends h) g
      by (some (own (forced_send w))) k = k
      by (some refer) k = tt
      by (some (set_vector v)) k = tt

      go : (c : Code) → All P (when_accepted [] (send_of m h) c)
          → All P (when_ok [] (of_asked [] (enters_in (send_of m h) (freed_by m h)) m.asked) c) × All P (when_waiting [] (send_of m h) c)
      go ok k = (by m.asked k, tt)
      go waiting k = (tt, k)
      go (error e) k = (tt, tt)

  entered_too : (h : List (Made QueueCall)) → All P (accepted h) → All P (entered h) × All P (waiting_sends h)
  entered_too [] f = (tt, tt)
  entered_too (m ∷ h) f =
      let k = all_parts P (accepted h) (accepts m h) f in
      let i = entered_too h k.0 in
      let n = accepted_too m h k.1 i.1 in (
        all_append P (entered h) (enters m h) i.0 n.0,
        all_append P (keep (not_shown m.answer.released) (waiting_sends h)) (when_waiting [] (send_of m h) m.answer.code) (all_keep P (not_shown m.answer.released) (waiting_sends h) i.1) n.1,
      )

-- ---- two lists in call order that have as many of each call have the same calls
abbrev calls : List Sent → List ℕ
calls l = map (λ (x : Sent). x.call) l

times_here : (x : Sent) (l : List Sent) → times x.call (x ∷ l) ≡ suc (times x.call l)
times_here x l = ap (λ (b : Bool). length (cons_if b x (keep (λ (y : Sent). eqb x.call y.call) l))) (eqb_same x.call)

times_before : (k : ℕ) (l : List Sent) → All (λ (y : Sent). k < y.call) l → times k l ≡ 0
times_before k [] f = refl
times_before k (x ∷ l) f = ap (λ (b : Bool). length (cons_if b x (keep (λ (y : Sent). eqb k y.call) l))) (eqb_no k x.call (λ e. omega (arith, e, f.0))) ∙ times_before k l f.1

-- the first of one is not before the first of the other
not_before : (x y : Sent) (l m : List Sent) → Ascending (y ∷ m) → times x.call (x ∷ l) ≡ times x.call (y ∷ m) → x.call < y.call → ⊥
not_before x y l m a h b =
    let z = times_before x.call (y ∷ m) (b, all_weaker (Before y) (Before x) (λ u e. omega (arith, b, e)) m a.0) in
    omega (arith, h, z, times_here x l)

same_calls : (l m : List Sent) → Ascending l → Ascending m → ((k : ℕ) → times k l ≡ times k m) → calls l ≡ calls m
same_calls [] [] a b h = refl
same_calls [] (y ∷ m) a b h = absurd (omega (arith, h y.call, times_here y m))
same_calls (x ∷ l) [] a b h = absurd (omega (arith, h x.call, times_here x l))
same_calls (x ∷ l) (y ∷ m) a b h = λ i. e i ∷ same_calls l m a.1 b.1 rest i
  where
    e : x.call ≡ y.call
    e = go (ltb x.call y.call) (ltb y.call x.call) refl refl
      where
        go : (u v : Bool) → ltb x.call y.call ≡ u → ltb y.call x.call ≡ v → x.call ≡ y.call
        go true v p q = absurd (not_before x y l m b (h x.call) (ltb-true x.call y.call p))
        go false true p q = absurd (not_before y x m l a (sym (h y.call)) (ltb-true y.call x.call q))
        go false false p q = omega (arith, ltb-false x.call y.call p, ltb-false y.call x.call q)

    rest : (k : ℕ) → times k l ≡ times k m
    rest k = go (eqb k y.call) (ap (λ (n : ℕ). length (cons_if (eqb k n) x (keep (λ (z : Sent). eqb k z.call) l))) (sym e) ∙ h k)
      where
        go : (b : Bool) → length (cons_if b x (keep (λ (z : Sent). eqb k z.call) l)) ≡ length (cons_if b y (keep (λ (z : Sent). eqb k z.call) m)) → times k l ≡ times k m
        go true f = omega (arith, f)
        go false f = f

-- ---- a send is told by its call
abbrev send_at : ℕ → List (Made QueueCall) → List Sent
send_at k [] = []
send_at k (m ∷ h) = cond (eqb k (length h)) (send_of m h) (send_at k h)

-- it is the one of a call among these
abbrev Known : List (Made QueueCall) → Sent → Type 0
Known h x = (x.call < length h) × (send_at x.call h ≡ x ∷ [])

older_known : (m : Made QueueCall) (h : List (Made QueueCall)) (x : Sent) → Known h x → Known (m ∷ h) x
older_known m h x f = (omega (arith, f.0), ap (λ (b : Bool). cond b (send_of m h) (send_at x.call h)) (eqb_no x.call (length h) (λ e. omega (arith, e, f.0))) ∙ f.1)

sent_known : (m : Made QueueCall) (h : List (Made QueueCall)) → All (Known (m ∷ h)) (accepts m h)
sent_known m h = go m.answer.code
  where
    one : (l : List Sent) → Of (length h) l → send_of m h ≡ l → All (Known (m ∷ h)) l
    one [] o f = tt
    one (x ∷ []) o f = ((omega (arith, o.0.0), ap (λ (b : Bool). cond b (send_of m h) (send_at x.call h)) (ap (λ (k : ℕ). eqb k (length h)) o.0.0 ∙ eqb_same (length h)) ∙ f), tt)
    one (x ∷ (y ∷ l)) o f = absurd (omega (arith, o.1))

    go : (k : Code) → All (Known (m ∷ h)) (when_accepted [] (send_of m h) k)
    go ok = one (send_of m h) (send_of_lem m h) refl
    go waiting = one (send_of m h) (send_of_lem m h) refl
    go (error e) = tt

accepted_known : (h : List (Made QueueCall)) → All (Known h) (accepted h)
accepted_known [] = tt
accepted_known (m ∷ h) = all_append (Known (m ∷ h)) (accepted h) (accepts m h) (all_weaker (Known h) (Known (m ∷ h)) (older_known m h) (accepted h) (accepted_known h)) (sent_known m h)

-- so are those that entered and those that wait
abbrev placed : List (Made QueueCall) → List Sent
placed h = entered h ++ waiting_sends h

placed_known : (h : List (Made QueueCall)) → All (Known h) (placed h)
placed_known h = let k = entered_too (Known h) h (accepted_known h) in all_append (Known h) (entered h) (waiting_sends h) k.0 k.1

-- of the same calls, the same sends
same_sends : (h : List (Made QueueCall)) (l m : List Sent) → All (Known h) l → All (Known h) m → calls l ≡ calls m → l ≡ m
same_sends h [] [] f g e = refl
same_sends h [] (y ∷ m) f g e = absurd (cons_ne refl (sym e))
same_sends h (x ∷ l) [] f g e = absurd (cons_ne refl e)
same_sends h (x ∷ l) (y ∷ m) f g e = λ i. head-eq_of_cons-eq (sym f.0.1 ∙ ap (λ (k : ℕ). send_at k h) (head-eq_of_cons-eq e) ∙ g.0.1) i ∷ same_sends h l m f.1 g.1 (tail-eq_of_cons-eq e) i

-- ---- those that pass a test: of a call they are all of it or none
kept_times : (p : Sent → Bool) (h : List (Made QueueCall)) (k : ℕ) (l : List Sent) → All (Known h) l → times k (keep p l) ≡ cond (any_of p (send_at k h)) (times k l) 0
kept_times p h k [] f = go (any_of p (send_at k h))
  where
    go : (b : Bool) → 0 ≡ cond {A = ℕ} b 0 0
    go true = refl
    go false = refl
kept_times p h k (x ∷ l) f = go (eqb k x.call) refl (p x) (known (p x) refl) (any_of p (send_at k h)) refl (kept_times p h k l f.1)
  where
    known : (b : Bool) → p x ≡ b → b ≡ any_of p (send_at x.call h)
    known b e = or_false b ∙ ap (λ (c : Bool). c || false) (sym e) ∙ ap (any_of p) (sym f.0.1)
      where
        or_false : (b : Bool) → b ≡ b || false
        or_false true = refl
        or_false false = refl

    -- it is the first, is of call k or not, and passes or not
    counted : (b : Bool) → eqb k x.call ≡ b → length (cons_if (eqb k x.call) x (keep (λ (u : Sent). eqb k u.call) (keep p l))) ≡ length (cons_if b x (keep (λ (u : Sent). eqb k u.call) (keep p l)))
    counted b e = ap (λ (c : Bool). length (cons_if c x (keep (λ (u : Sent). eqb k u.call) (keep p l)))) e

    go : (b : Bool) → eqb k x.call ≡ b → (y : Bool) → y ≡ any_of p (send_at x.call h) → (z : Bool) → any_of p (send_at k h) ≡ z → times k (keep p l) ≡ cond z (times k l) 0
        → length (keep (λ (u : Sent). eqb k u.call) (cons_if y x (keep p l))) ≡ cond z (length (cons_if b x (keep (λ (u : Sent). eqb k u.call) l))) 0
    go true e true j true i r = counted true e ∙ ap suc r
    go true e true j false i r = absurd (no_both (sym (j ∙ ap (λ (n : ℕ). any_of p (send_at n h)) (sym (eq_of k x.call e)))) i)
    go true e false j true i r = absurd (no_both i (sym (j ∙ ap (λ (n : ℕ). any_of p (send_at n h)) (sym (eq_of k x.call e)))))
    go true e false j false i r = r
    go false e true j true i r = counted false e ∙ r
    go false e true j false i r = counted false e ∙ r
    go false e false j true i r = r
    go false e false j false i r = r

module _ {domain : ℕ → ℤ} {priority : ℕ → ℕ} {x : Queue} {h : List (Made QueueCall)} {buffer : List ℕ} {senders : List Waiter} (d : Carried domain priority x h buffer senders) (z : withdrawn h ≡ []) where
  -- every accepted send entered or waits, each call's once
  placed_once : (k : ℕ) → times k (placed h) ≡ times k (accepted h)
  placed_once k = omega (arith, times_append k (entered h) (waiting_sends h), entered_placed x.capacity k h, d.placed k, ap (times k) z, accepted_once k h)

  -- "Sends not forced still enter or pass in call order", and those that wait come behind: in each line all of them, in the order of their calls
  abbrev row : ℕ → List Sent → List Sent
  row n l = keep (λ (y : Sent). eqb n (line_of priority x y.task)) (keep unforced l)

  row_known : (n : ℕ) (l : List Sent) → All (Known h) l → All (Known h) (row n l)
  row_known n l f = all_keep (Known h) (λ (y : Sent). eqb n (line_of priority x y.task)) (keep unforced l) (all_keep (Known h) unforced l f)

  row_times : (n k : ℕ) (l : List Sent) → All (Known h) l
      → times k (row n l) ≡ cond (any_of (λ (y : Sent). eqb n (line_of priority x y.task)) (send_at k h)) (cond (any_of unforced (send_at k h)) (times k l) 0) 0
  row_times n k l f =
      kept_times (λ (y : Sent). eqb n (line_of priority x y.task)) h k (keep unforced l) (all_keep (Known h) unforced l f)
      ∙ ap (λ (i : ℕ). cond (any_of (λ (y : Sent). eqb n (line_of priority x y.task)) (send_at k h)) i 0) (kept_times unforced h k l f)

  pub line_order : (n : ℕ) → keep (λ (y : Sent). eqb n (line_of priority x y.task)) (keep unforced (entered h ++ waiting_sends h)) ≡ keep (λ (y : Sent). eqb n (line_of priority x y.task)) (keep unforced (accepted h))
  line_order n = same_sends h (row n (placed h)) (row n (accepted h)) (row_known n (placed h) (placed_known h)) (row_known n (accepted h) (accepted_known h))
      (same_calls (row n (placed h)) (row n (accepted h)) (d.in_call_order n)
      (ascending_keep (λ (y : Sent). eqb n (line_of priority x y.task)) (keep unforced (accepted h)) (ascending_keep unforced (accepted h) (accepted_ascends h)))
      (λ k. row_times n k (placed h) (placed_known h)
      ∙ ap (λ (i : ℕ). cond (any_of (λ (y : Sent). eqb n (line_of priority x y.task)) (send_at k h)) (cond (any_of unforced (send_at k h)) i 0) 0) (placed_once k)
      ∙ sym (row_times n k (accepted h) (accepted_known h))))

  -- ---- in a first-come queue, where all stand in one line
  module _ (one : by_priority x.attribute ≡ false) where
    -- the one line has them all
    whole : {A : Type 0} (f : A → ℕ) (l : List A) → keep (λ (y : A). eqb 0 (line_of priority x (f y))) l ≡ l
    whole {A} f [] = refl
    whole {A} f (y ∷ l) = ap (λ (b : Bool). cons_if (eqb 0 (cond b (priority (f y)) 0)) y (keep (λ (y : A). eqb 0 (line_of priority x (f y))) l)) one ∙ ap (λ (m : List A). y ∷ m) (whole f l)

    pub unforced_order : keep unforced (entered h ++ waiting_sends h) ≡ keep unforced (accepted h)
    unforced_order = sym (whole (λ (y : Sent). y.task) (keep unforced (placed h))) ∙ line_order 0 ∙ whole (λ (y : Sent). y.task) (keep unforced (accepted h))

    pub senders_in_order : map sender_of senders ≡ map sender_in (waiting_sends h)
    senders_in_order = sym (whole (λ (y : Sender). y.task) (map sender_of senders)) ∙ d.senders_are 0 ∙ whole (λ (y : Sender). y.task) (map sender_in (waiting_sends h))

-- ---- no accepted send is forced
abbrev Unforced : List Sent → Type 0
Unforced l = All (λ (x : Sent). x.forced ≡ false) l

all_unforced : (l : List Sent) → Unforced l → keep unforced l ≡ l
all_unforced [] f = refl
all_unforced (x ∷ l) f = ap (λ (b : Bool). cons_if (not b) x (keep unforced l)) f.0 ∙ ap (λ (m : List Sent). x ∷ m) (all_unforced l f.1)

-- as where no call is a forced send on the queue
abbrev pub NotForced : Option (Act QueueCall) → Type 0
NotForced none = Unit
NotForced (some (own (send p w))) = Unit
NotForced (some (own (receive p))) = Unit
NotForced (some (own (forced_send w))) = ⊥
NotForced (some refer) = Unit
NotForced (some (set_vector v)) = Unit

not_forced : (h : List (Made QueueCall)) → All (λ (m : Made QueueCall). NotForced m.asked) h → Unforced (accepted h)
not_forced [] f = tt
not_forced (m ∷ h) f = all_append (λ (x : Sent). x.forced ≡ false) (accepted h) (accepts m h) (not_forced h f.1) (go m.answer.code)
  where
    by : (a : Option (Act QueueCall)) → NotForced a → Unforced (of_asked [] (send_in (length h) m.caller) a)
    by none n = tt
    by (some (own (send p w))) n = (refl, tt)
    by (some (own (receive p))) n = tt
    by (some (own (forced_send w))) n = absurd n
    by (some refer) n = tt
    by (some (set_vector v)) n = tt

    go : (k : Code) → Unforced (when_accepted [] (send_of m h) k)
    go ok = by m.asked f.0
    go waiting = by m.asked f.0
    go (error e) = tt

-- so none is dropped
none_full : (c : ℕ) (b : List Sent) (m : Made QueueCall) (h : List (Made QueueCall)) → Unforced (accepts m h) → finds_full c b m ≡ 0
none_full c b m h f = go m.answer.code m.asked f
  where
    by : (a : Option (Act QueueCall)) → Unforced (of_asked [] (send_in (length h) m.caller) a) → of_asked 0 (full_in c b) a ≡ 0
    by none g = refl
    by (some (own (send p w))) g = refl
    by (some (own (receive p))) g = refl
    by (some (own (forced_send w))) g = absurd (no_both refl g.0)
    by (some refer) g = refl
    by (some (set_vector v)) g = refl

    go : (k : Code) (a : Option (Act QueueCall)) → Unforced (when_accepted [] (of_asked [] (send_in (length h) m.caller) a) k) → when_accepted 0 (of_asked 0 (full_in c b) a) k ≡ 0
    go ok a g = by a g
    go waiting a g = by a g
    go (error e) a g = refl

leaves_handed : (c : ℕ) (h : List (Made QueueCall)) → Unforced (accepted h) → gathered (leaves c) h ≡ words handed h
leaves_handed c [] f = refl
leaves_handed c (m ∷ h) f =
    let k = all_parts (λ (x : Sent). x.forced ≡ false) (accepted h) (accepts m h) f in
    let n = none_full c (buffered c h) m h k.1 in
    λ i. leaves_handed c h k.0 i ++ (map word_of (take (n i) (buffered c h)) ++ handed m)

-- ---- of a first-come queue, "the words handed out, then those buffered (oldest first), then those of the waiting senders (first to last), are the words of the accepted sends in call order"
pub call_order : {domain : ℕ → ℤ} {priority : ℕ → ℕ} {x : Queue} {h : List (Made QueueCall)} {buffer : List ℕ} {senders : List Waiter} → Carried domain priority x h buffer senders
    → by_priority x.attribute ≡ false → Unforced (accepted h) → withdrawn h ≡ [] → words handed h ++ (buffer ++ words_in senders) ≡ map word_of (accepted h)
call_order {x} {h} {buffer} {senders} d one f z =
    sym (append_assoc (words handed h) buffer (words_in senders))
    ∙ (λ i. (sym (leaves_handed x.capacity h f) i ++ buffer) ++ waits i)
    ∙ ap (λ (l : List ℕ). l ++ map word_of (waiting_sends h)) d.ordered
    ∙ sym (map_append word_of (entered h) (waiting_sends h))
    ∙ ap (map word_of) (sym (all_unforced (placed h) plain) ∙ unforced_order d z one ∙ all_unforced (accepted h) f)
  where
    waits : words_in senders ≡ map word_of (waiting_sends h)
    waits = words_of_lem senders ∙ ap (map (λ (y : Sender). y.word)) (senders_in_order d z one) ∙ sym (words_in_lem (waiting_sends h))

    plain : Unforced (placed h)
    plain = let k = entered_too (λ (y : Sent). y.forced ≡ false) h f in all_append (λ (y : Sent). y.forced ≡ false) (entered h) (waiting_sends h) k.0 k.1

pub conserved : {s₀ s : State} {h : History} → Demand3 s₀ h s → (q : ℕ) → by_priority (queue_at s₀ q).attribute ≡ false → All (λ (m : Made QueueCall). NotForced m.asked) (by_queue q h)
    → words handed (by_queue q h) ++ ((queue_at s q).buffer ++ words_in (senders s q)) ≡ map word_of (accepted (by_queue q h))
conserved {h} d q one f = call_order (d.queues q) one (not_forced (by_queue q h) f) refl
