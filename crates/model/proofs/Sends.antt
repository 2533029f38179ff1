-- The sends on one data queue: from what one call does to them to what holds after any list of calls. Assumes nothing.
use mathlib.Core.Path.{◌≡◌, refl, sym, ap, ◌∙◌, subst}
use mathlib.Core.Bool.{Bool, true, false, cond, not}
use mathlib.Core.List.{List, [], ◌∷◌, ◌++◌, map, append_assoc, append-nil}
use mathlib.Core.Option.{Option, none, some}
use Prim.Native.Nat.{ℕ, suc, ◌+◌, ◌≤◌, ◌<◌}
use native.Mathlib.Omega.{arith}
use lib.Dec.{eqb}
use lib.ListN.{length, take, drop, length-append, length-map, take-append-drop}
use Rattle.itron.specs.Codes.{Code, ok, waiting, error}
use Rattle.model.specs.Lists.{All, keep, cons_if, words, Each, gathered}
use Rattle.model.specs.Answers.{when_accepted}
use Rattle.model.specs.Acts.{Act, own, refer, set_vector}
use Rattle.model.specs.Queues.{QueueCall, send, receive, forced_send}
use Rattle.model.specs.History.{Made}
use Rattle.model.specs.Sends.{Sent, send_of, word_of, unforced, times, Before, Ascending, accepts, accepted, accepted_of, waiting_sends, withdrawn, enters, entered, handed, full_in, finds_full, present, buffered, drops, dropped, hands, handed_out, leaves}
use Rattle.model.specs.State.{Waiter}
use Rattle.model.specs.QueueClaims.{Sender, sender_of, sender_in, words_in, HandsFirst, DropsOne, EntersFirst}
use Rattle.model.proofs.Tests.{holds, fails, le_tells}
use Rattle.model.proofs.Lists.{eq_of, ne_of, eqb_same, eqb_no, keep_append, keep_comm, append_cancel, map_append, map_parts, all_keep, all_append, all_weaker}

-- ---- how many are of one call
abbrev of_call : ℕ → Sent → Bool
of_call k x = eqb k x.call

pub times_append : (k : ℕ) (l m : List Sent) → times k (l ++ m) ≡ times k l + times k m
times_append k l m = ap length (keep_append (of_call k) l m) ∙ length-append (keep (of_call k) l) (keep (of_call k) m)

times_split : (k n : ℕ) (l : List Sent) → times k (take n l) + times k (drop n l) ≡ times k l
times_split k n l = sym (times_append k (take n l) (drop n l)) ∙ ap (times k) (take-append-drop n l)

-- ---- the words of waiting senders, as the state and as their sends show them
pub words_of_lem : (l : List Waiter) → words_in l ≡ map (λ (y : Sender). y.word) (map sender_of l)
words_of_lem [] = refl
words_of_lem (e ∷ l) = ap (λ (m : List ℕ). e.word ∷ m) (words_of_lem l)

pub words_in_lem : (l : List Sent) → map word_of l ≡ map (λ (y : Sender). y.word) (map sender_in l)
words_in_lem [] = refl
words_in_lem (x ∷ l) = ap (λ (m : List ℕ). x.word ∷ m) (words_in_lem l)

-- ---- what entered is handed out, dropped or in the buffer
module _ (c : ℕ) where
  pub entered_placed : (k : ℕ) (h : List (Made QueueCall)) → times k (handed_out c h) + times k (dropped c h) + times k (buffered c h) ≡ times k (entered h)
  entered_placed k [] = refl
  entered_placed k (m ∷ h) = omega (
    arith,
    entered_placed k h,
    times_append k (handed_out c h) (hands c m h),
    times_append k (dropped c h) (drops c m h),
    times_append k (entered h) (enters m h),
    times_split k (length (handed m)) (present c (buffered c h) m h),
    times_append k (drop (finds_full c (buffered c h) m) (buffered c h)) (enters m h),
    times_split k (finds_full c (buffered c h) m) (buffered c h),
  )

  -- ---- where each answer hands out the words of the first of those present
  -- the words that left, then those of the sends in the buffer, are those that entered or passed
  pub in_order : (h : List (Made QueueCall)) → Each (HandsFirst c) h → gathered (leaves c) h ++ map word_of (buffered c h) ≡ map word_of (entered h)
  in_order [] f = refl
  in_order (m ∷ h) f =
      append_assoc g (d ++ handed m) (map word_of (drop n l))
      ∙ ap (λ (k : List ℕ). g ++ k) moved_up
      ∙ sym (append_assoc g (map word_of b) (map word_of (enters m h)))
      ∙ ap (λ (k : List ℕ). k ++ map word_of (enters m h)) (in_order h f.1)
      ∙ sym (map_append word_of (entered h) (enters m h))
    where
      b : List Sent
      b = buffered c h

      j : ℕ
      j = finds_full c b m

      l : List Sent
      l = present c b m h

      n : ℕ
      n = length (handed m)

      g : List ℕ
      g = gathered (leaves c) h

      d : List ℕ
      d = map word_of (take j b)

      map_split : (i : ℕ) (k : List Sent) → map word_of (take i k) ++ map word_of (drop i k) ≡ map word_of k
      map_split i k = sym (map_append word_of (take i k) (drop i k)) ∙ ap (map word_of) (take-append-drop i k)

      -- what leaves with this call and what stays are what was in the buffer and what enters
      moved_up : (d ++ handed m) ++ map word_of (drop n l) ≡ map word_of b ++ map word_of (enters m h)
      moved_up =
          append_assoc d (handed m) (map word_of (drop n l))
          ∙ ap (λ (k : List ℕ). d ++ k) (ap (λ (k : List ℕ). k ++ map word_of (drop n l)) f.0 ∙ map_split n l ∙ map_append word_of (drop j b) (enters m h))
          ∙ sym (append_assoc d (map word_of (drop j b)) (map word_of (enters m h)))
          ∙ ap (λ (k : List ℕ). k ++ map word_of (enters m h)) (map_split j b)

  -- the words of the sends handed out are those that the answers hand out, those of the sends in the buffer are the buffer's
  pub handed_are_lem : (h : List (Made QueueCall)) → Each (HandsFirst c) h → words handed h ≡ map word_of (handed_out c h)
  handed_are_lem [] f = refl
  handed_are_lem (m ∷ h) f = (λ i. handed_are_lem h f.1 i ++ f.0 i) ∙ sym (map_append word_of (handed_out c h) (hands c m h))

  pub buffered_are : (h : List (Made QueueCall)) (b : List ℕ) → Each (HandsFirst c) h → gathered (leaves c) h ++ b ≡ map word_of (entered h) → b ≡ map word_of (buffered c h)
  buffered_are h b f e = append_cancel (gathered (leaves c) h) (e ∙ sym (in_order h f))

  -- ---- what a forced send finds, by the words of the buffer
  module _ (h : List (Made QueueCall)) (b : List ℕ) (e : b ≡ map word_of (buffered c h)) (w : ℕ) where
    as_long : length b ≡ length (buffered c h)
    as_long = ap length e ∙ length-map (buffered c h) word_of

    pub finds_room : length b < c → full_in c (buffered c h) (forced_send w) ≡ 0
    finds_room g = ap (λ (y : Bool). cond {A = ℕ} y 1 0) (fails (le_tells c (length (buffered c h))) (λ z. omega (arith, g, z, as_long)))

    pub finds_full_lem : c ≤ length b → full_in c (buffered c h) (forced_send w) ≡ 1
    finds_full_lem g = ap (λ (y : Bool). cond {A = ℕ} y 1 0) (holds (le_tells c (length (buffered c h))) (omega (arith, g, as_long)))

-- ---- the accepted sends, in call order
-- a call's send is of that call, and there is one at most
abbrev pub Of : ℕ → List Sent → Type 0
Of k l = All (λ (x : Sent). x.call ≡ k) l × (length l ≤ 1)

none_of : (k : ℕ) → Of k []
none_of k = (tt, omega arith)

pub send_of_lem : (m : Made QueueCall) (h : List (Made QueueCall)) → Of (length h) (send_of m h)
send_of_lem m h = go m.asked
  where
    by : (a : Act QueueCall) → Of (length h) (send_of (record { caller = m.caller; asked = some a; extended = m.extended; answer = m.answer }) h)
    by (own (send p w)) = ((refl, tt), omega arith)
    by (own (receive p)) = none_of (length h)
    by (own (forced_send w)) = ((refl, tt), omega arith)
    by refer = none_of (length h)
    by (set_vector v) = none_of (length h)

    go : (o : Option (Act QueueCall)) → Of (length h) (send_of (record { caller = m.caller; asked = o; extended = m.extended; answer = m.answer }) h)
    go none = none_of (length h)
    go (some a) = by a

accepts_of : (m : Made QueueCall) (h : List (Made QueueCall)) → Of (length h) (accepts m h)
accepts_of m h = go m.answer.code
  where
    go : (k : Code) → Of (length h) (when_accepted [] (send_of m h) k)
    go ok = send_of_lem m h
    go waiting = send_of_lem m h
    go (error e) = none_of (length h)

-- of that call there are all of them, of another none
times_same : (k : ℕ) (l : List Sent) → All (λ (x : Sent). x.call ≡ k) l → times k l ≡ length l
times_same k [] f = refl
times_same k (x ∷ l) f = ap (λ b. length (cons_if b x (keep (of_call k) l))) (ap (eqb k) f.0 ∙ eqb_same k) ∙ ap suc (times_same k l f.1)

times_other : (k n : ℕ) (l : List Sent) → (k ≡ n → ⊥) → All (λ (x : Sent). x.call ≡ n) l → times k l ≡ 0
times_other k n [] z f = refl
times_other k n (x ∷ l) z f = ap (λ b. length (cons_if b x (keep (of_call k) l))) (ap (eqb k) f.0 ∙ eqb_no k n z) ∙ times_other k n l z f.1

times_newer : (k : ℕ) (l : List Sent) → All (λ (x : Sent). x.call < k) l → times k l ≡ 0
times_newer k [] f = refl
times_newer k (x ∷ l) f = ap (λ b. length (cons_if b x (keep (of_call k) l))) (eqb_no k x.call (λ e. omega (arith, e, f.0))) ∙ times_newer k l f.1

-- ascending lists
abbrev Below : ℕ → List Sent → Type 0
Below k l = All (λ (x : Sent). x.call < k) l

ascending_append : (k : ℕ) (l m : List Sent) → Ascending l → Below k l → Of k m → Ascending (l ++ m)
ascending_append k [] [] a b o = tt
ascending_append k [] (x ∷ []) a b o = (tt, tt)
ascending_append k [] (x ∷ (y ∷ m)) a b o = absurd (omega (arith, o.1))
ascending_append k (x ∷ l) m a b o = (
  all_append (Before x) l m a.0 (all_weaker (λ (y : Sent). y.call ≡ k) (Before x) (λ y e. omega (arith, e, b.0)) m o.0),
  ascending_append k l m a.1 b.1 o,
)

pub ascending_keep : (p : Sent → Bool) (l : List Sent) → Ascending l → Ascending (keep p l)
ascending_keep p [] a = tt
ascending_keep p (x ∷ l) a = go (p x) (ascending_keep p l a.1)
  where
    go : (b : Bool) → Ascending (keep p l) → Ascending (cons_if b x (keep p l))
    go true k = (all_keep (Before x) p l a.0, k)
    go false k = k

pub accepted_below : (h : List (Made QueueCall)) → Below (length h) (accepted h)
accepted_below [] = tt
accepted_below (m ∷ h) = all_append (λ (x : Sent). x.call < suc (length h)) (accepted h) (accepts m h)
    (all_weaker (λ (x : Sent). x.call < length h) (λ (x : Sent). x.call < suc (length h)) (λ x f. omega (arith, f)) (accepted h) (accepted_below h))
    (all_weaker (λ (x : Sent). x.call ≡ length h) (λ (x : Sent). x.call < suc (length h)) (λ x f. omega (arith, f)) (accepts m h) (accepts_of m h).0)

pub accepted_ascends : (h : List (Made QueueCall)) → Ascending (accepted h)
accepted_ascends [] = tt
accepted_ascends (m ∷ h) = ascending_append (length h) (accepted h) (accepts m h) (accepted_ascends h) (accepted_below h) (accepts_of m h)

-- each call's send once
pub accepted_once : (k : ℕ) (h : List (Made QueueCall)) → times k (accepted h) ≡ accepted_of k h
accepted_once k [] = refl
accepted_once k (m ∷ h) = times_append k (accepted h) (accepts m h) ∙ go (eqb k (length h)) refl (accepted_once k h)
  where
    go : (b : Bool) → eqb k (length h) ≡ b → times k (accepted h) ≡ accepted_of k h → times k (accepted h) + times k (accepts m h) ≡ cond b (length (accepts m h)) (accepted_of k h)
    go true e ih =
        let z = eq_of k (length h) e in
        omega (arith, subst (λ (n : ℕ). times n (accepted h) ≡ 0) (sym z) (times_newer (length h) (accepted h) (accepted_below h)), subst (λ (n : ℕ). times n (accepts m h) ≡ length (accepts m h)) (sym z) (times_same (length h) (accepts m h) (accepts_of m h).0))
    go false e ih = omega (arith, ih, times_other k (length h) (accepts m h) (ne_of k (length h) e) (accepts_of m h).0)

-- ---- what one call does: which sends enter, wait, waited and are accepted; in which line a task sends is told by `line`
module _ (line : ℕ → ℕ) where
  abbrev pub in_line : ℕ → Sent → Bool
  in_line n x = eqb n (line x.task)

  pub record Line (enter wait waited accept : List Sent) : Type 0 where
    -- each call's send is there as often before and after
    pub counts : (k : ℕ) → times k enter + times k wait ≡ times k waited + times k accept
    -- in each line those that waited go in turn, and who comes is the last, but for forced sends
    pub keeps : (n : ℕ) → keep (in_line n) (keep unforced (enter ++ wait)) ≡ keep (in_line n) (keep unforced (waited ++ accept))

  -- all go in turn
  pub in_turn : {e w w' a : List Sent} → e ++ w ≡ w' ++ a → Line e w w' a
  in_turn {e} {w} {w'} {a} h = record {
    counts = λ k. sym (times_append k e w) ∙ ap (times k) h ∙ times_append k w' a;
    keeps = λ n. ap (λ (l : List Sent). keep (in_line n) (keep unforced l)) h;
  }

  -- a forced send passes those that wait
  pub ahead : {e w w' a : List Sent} → e ≡ a → w ≡ w' → keep unforced a ≡ [] → Line e w w' a
  ahead {e} {w} {w'} {a} p q f = record {
    counts = λ k. omega (arith, ap (times k) p, ap (times k) q);
    keeps = λ n. ap (keep (in_line n)) (
        keep_append unforced e w
        ∙ (λ i. keep unforced (p i) ++ keep unforced (q i))
        ∙ (λ i. f i ++ keep unforced w')
        ∙ sym (append-nil (keep unforced w'))
        ∙ ap (λ (l : List Sent). keep unforced w' ++ l) (sym f)
        ∙ sym (keep_append unforced w' a)
        );
  }

  -- of those that wait one leaves, which is the first of its line, and nobody comes
  pub first_goes : (p : Sent → Bool) (x : Sent) (l : List Sent) → keep p l ≡ x ∷ [] → ((n : ℕ) → keep (in_line n) (x ∷ keep (λ (y : Sent). not (p y)) l) ≡ keep (in_line n) l)
      → Line (keep p l) (keep (λ (y : Sent). not (p y)) l ++ []) l []
  first_goes p x l e f = record {
    counts = λ k. omega (arith, times_parts k p l, ap (times k) (append-nil (keep (λ (y : Sent). not (p y)) l)));
    keeps = λ n.
        ap (λ (m : List Sent). keep (in_line n) (keep unforced m)) ((λ i. e i ++ append-nil (keep (λ (y : Sent). not (p y)) l) i))
        ∙ keep_comm (in_line n) unforced (x ∷ keep (λ (y : Sent). not (p y)) l)
        ∙ ap (keep unforced) (f n)
        ∙ sym (keep_comm (in_line n) unforced l)
        ∙ ap (λ (m : List Sent). keep (in_line n) (keep unforced m)) (sym (append-nil l));
  }
    where
      times_parts : (k : ℕ) (p : Sent → Bool) (l : List Sent) → times k (keep p l) + times k (keep (λ (y : Sent). not (p y)) l) ≡ times k l
      times_parts k p [] = refl
      times_parts k p (y ∷ l) = go (p y) (of_call k y) refl (times_parts k p l)
        where
          go : (b c : Bool) → of_call k y ≡ c → times k (keep p l) + times k (keep (λ (y : Sent). not (p y)) l) ≡ times k l
              → times k (cons_if b y (keep p l)) + times k (cons_if (not b) y (keep (λ (y : Sent). not (p y)) l)) ≡ length (cons_if c y (keep (of_call k) l))
          go true true h r = rw h (omega (arith, r))
          go true false h r = rw h r
          go false true h r = rw h (omega (arith, r))
          go false false h r = rw h r

module _ (c : ℕ) (line : ℕ → ℕ) where
  -- a call after the calls h, which leaves the buffer b'
  pub record Moves (m : Made QueueCall) (h : List (Made QueueCall)) (b' : List ℕ) : Type 0 where
    -- what it hands out and what is in the buffer then are the words of those present
    pub flow : handed m ++ b' ≡ map word_of (present c (buffered c h) m h)
    pub one : DropsOne c m h
    pub turn : Line line (enters m h) (waiting_sends (m ∷ h)) (waiting_sends h) (accepts m h)
    pub urgent : EntersFirst line m h

  -- ---- what holds after the calls h, which left the buffer b
  pub record Held (h : List (Made QueueCall)) (b : List ℕ) : Type 0 where
    pub words : b ≡ map word_of (buffered c h)
    pub handed_are : Each (HandsFirst c) h
    pub one_each : Each (DropsOne c) h
    pub counted : (k : ℕ) → times k (entered h) + times k (waiting_sends h) ≡ times k (accepted h)
    pub urgent_first : Each (EntersFirst line) h
    pub kept : (n : ℕ) → keep (in_line line n) (keep unforced (entered h ++ waiting_sends h)) ≡ keep (in_line line n) (keep unforced (accepted h))

  pub none_yet : Held [] []
  none_yet = record { words = refl; handed_are = tt; one_each = tt; counted = λ k. refl; urgent_first = tt; kept = λ n. refl }

  module _ (m : Made QueueCall) (h : List (Made QueueCall)) (b b' : List ℕ) (i : Held h b) (f : Moves m h b') where
    -- the unforced sends of a line
    abbrev row : ℕ → List Sent → List Sent
    row n l = keep (in_line line n) (keep unforced l)

    row_append : (n : ℕ) (l k : List Sent) → row n (l ++ k) ≡ row n l ++ row n k
    row_append n l k = ap (keep (in_line line n)) (keep_append unforced l k) ∙ keep_append (in_line line n) (keep unforced l) (keep unforced k)

    kept_next : (n : ℕ) → row n (entered (m ∷ h) ++ waiting_sends (m ∷ h)) ≡ row n (accepted (m ∷ h))
    kept_next n =
        let e = entered h in
        ap (row n) (append_assoc e (enters m h) (waiting_sends (m ∷ h)))
        ∙ row_append n e (enters m h ++ waiting_sends (m ∷ h))
        ∙ ap (λ (k : List Sent). row n e ++ k) (f.turn.keeps n)
        ∙ sym (row_append n e (waiting_sends h ++ accepts m h))
        ∙ ap (row n) (sym (append_assoc e (waiting_sends h) (accepts m h)))
        ∙ row_append n (e ++ waiting_sends h) (accepts m h)
        ∙ ap (λ (k : List Sent). k ++ row n (accepts m h)) (i.kept n)
        ∙ sym (row_append n (accepted h) (accepts m h))

    pub one_more : Held (m ∷ h) b'
    one_more =
        let p = map_parts word_of (handed m) b' (present c (buffered c h) m h) f.flow in
        record {
          words = p.1;
          handed_are = (p.0, i.handed_are);
          one_each = (f.one, i.one_each);
          counted = λ k. omega (arith, i.counted k, times_append k (entered h) (enters m h), times_append k (accepted h) (accepts m h), f.turn.counts k);
          urgent_first = (f.urgent, i.urgent_first);
          kept = kept_next;
        }

  -- ---- the claims
  pub in_order_held : (h : List (Made QueueCall)) (b : List ℕ) → Held h b → gathered (leaves c) h ++ b ≡ map word_of (entered h)
  in_order_held h b i = ap (λ (l : List ℕ). gathered (leaves c) h ++ l) i.words ∙ in_order c h i.handed_are

  pub all_placed : (h : List (Made QueueCall)) (b : List ℕ) → Held h b → (k : ℕ)
      → times k (handed_out c h) + times k (dropped c h) + times k (buffered c h) + times k (waiting_sends h) + times k (withdrawn h) ≡ accepted_of k h
  all_placed h b i k = omega (arith, entered_placed c k h, i.counted k, accepted_once k h)

  pub in_call_order_lem : (h : List (Made QueueCall)) (b : List ℕ) → Held h b → (n : ℕ) → Ascending (keep (in_line line n) (keep unforced (entered h ++ waiting_sends h)))
  in_call_order_lem h b i n = subst Ascending (sym (i.kept n)) (ascending_keep (in_line line n) (keep unforced (accepted h)) (ascending_keep unforced (accepted h) (accepted_ascends h)))
