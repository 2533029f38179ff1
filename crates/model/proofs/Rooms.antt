-- Rooms: what each room proves of its own calls, and what follows for every act on one of its objects. Assumes nothing.
use mathlib.Core.Path.{◌≡◌, refl, sym, ap, ◌∙◌}
use mathlib.Core.Logic.{◌≢◌}
use mathlib.Core.Bool.{Bool, true, false, not, ◌&&◌}
use mathlib.Core.List.{List, [], ◌∷◌}
use mathlib.Core.Option.{none, some}
use Prim.Native.Nat.{ℕ, ◌≤◌}
use native.Mathlib.Omega.{arith}
use lib.Dec.{eqb, leb, leb→le}
use lib.IntN.{ℤ}
use lib.ListN.{length}
use Rattle.access.specs.Vectors.{pattern_of}
use Rattle.itron.specs.Codes.{Code, ok, waiting, error}
use Rattle.itron.specs.declared.error.Error.{Error as Refusal}
use Rattle.itron.specs.declared.error.Error.TheVariants.{Ctx as e_ctx, Id as e_id, Par as e_par, Noexs as e_noexs, Oacv as e_oacv}
use Rattle.model.specs.Lists.{at, All}
use Rattle.model.specs.State.{Vector, TaskEntry, Waiter, Side, on_sem, receiving, sending, Place, State, set_waits, set_levels, running_at, no}
use Rattle.model.specs.Answers.{when_ok, when_accepted}
use Rattle.model.specs.Waits.{absent, waiters_in, standing, order_of, first_task}
use Rattle.model.specs.Acts.{Act, own, refer, set_vector, of_own, operation_of, is_refer}
use Rattle.model.specs.Rooms.{Room, ready, in_range, admits, vector_at, slots_of, check, act_on, Asks, on_object}
use Rattle.model.specs.ExtendedCalls.{ExtendedCall, of_level}
use Rattle.model.specs.History.{vector_by}
use Rattle.model.specs.Conditions.{Plain, Registered}
use Rattle.model.proofs.Lists.{eq_of, and_left, and_right, no_both, both, eqb_same, eqb_no, Distinct, at_put_same}
use Rattle.model.proofs.Tests.{true_tells, passed_by}
use Rattle.model.proofs.Endings.{SameBut, same_all, same_put, Ends, frame, keeps, not_denied}

-- ---- whose a place is: the room of its side, and its number
abbrev pub room_of : Side → ℕ
room_of on_sem = 0
room_of receiving = 1
room_of sending = 1

abbrev pub is_at : ℕ → ℕ → Place → Bool
is_at k n p = eqb k (room_of p.side) && eqb n p.number

pub is_at_lem : (k n : ℕ) (p : Place) → room_of p.side ≡ k → p.number ≡ n → is_at k n p ≡ true
is_at_lem k n p h e =
    let a : eqb k (room_of p.side) ≡ true = rw h (eqb_same k) in
    let b : eqb n p.number ≡ true = rw e (eqb_same n) in
    both a b

-- a place of one room is none of another's, and of one object none of another's
pub other_room : (k m n : ℕ) (p : Place) → room_of p.side ≡ k → m ≢ k → is_at m n p ≡ false
other_room k m n p h d = rw (h, eqb_no m k d) refl

pub room_at : (k n : ℕ) (p : Place) → is_at k n p ≡ true → room_of p.side ≡ k
room_at k n p h = sym (eq_of k (room_of p.side) (and_left (eqb k (room_of p.side)) (eqb n p.number) h))

pub other_number : (k m n : ℕ) (p : Place) → is_at k n p ≡ true → m ≢ n → is_at k m p ≡ false
other_number k m n p h d =
    let e : n ≡ p.number = eq_of n p.number (and_right (eqb k (room_of p.side)) (eqb n p.number) h) in
    rw (sym e, eqb_no m n d) (no_second (eqb k (room_of p.side)))
  where
    no_second : (b : Bool) → b && false ≡ false
    no_second true = refl
    no_second false = refl

-- ---- what a room proves
pub record RoomLaws {C R : Type 0} (r : Room C R) : Type 0 where
  -- which room it is
  pub tag : ℕ
  -- the state with other waiting tasks and records has these, and differs in nothing else
  pub fixed_with : (s : State) (ws : List Waiter) (xs : List R) → (r.with s ws xs).fixed ≡ s.fixed
  pub waits_with : (s : State) (ws : List Waiter) (xs : List R) → (r.with s ws xs).waits ≡ ws
  pub records_with : (s : State) (ws : List Waiter) (xs : List R) → r.records (r.with s ws xs) ≡ xs
  pub same_with : (s : State) (ws : List Waiter) → r.with s ws (r.records s) ≡ set_waits s ws
  -- what no own call changes of a record, and what no call changes
  pub entry : R → R
  pub bare : R → R
  pub bare_entry : (x : R) → bare (entry x) ≡ bare x
  pub bare_vector : (x : R) (v : Vector) → bare (r.with_vector x v) ≡ bare x
  pub vector_entry : (x : R) → r.vector (entry x) ≡ r.vector x
  pub vector_set : (x : R) (v : Vector) → r.vector (r.with_vector x v) ≡ v
  -- in which order those who wait at one of its places stand
  pub order : List R → Place → Bool
  pub order_at : (s : State) (p : Place) → room_of p.side ≡ tag → order (r.records s) p ≡ order_of s p.side p.number
  -- how its own calls end
  pub ends : (ts : List TaskEntry) (ws : List Waiter) (xs : List R) (t n : ℕ) (c : C)
      → Ends R ts ws xs t (is_at tag n) (order xs) (SameBut r.nothing entry n xs) (r.begins t n c) (r.serves n c) (r.does ts ws xs t n c)
  -- the wait that a call begins is on its object, which is registered if the checks found it, and has a word only if it sends; a refused call serves nobody
  pub begun : (t n : ℕ) (c : C) → All (λ (e : Waiter). is_at tag n e.place ≡ true) (r.begins t n c)
  pub plain : (s : State) (t n : ℕ) → n ≢ 0 → n ≤ length (r.records s) → (c : C) → All (λ (e : Waiter). Plain e × Registered s e) (r.begins t n c)
  pub unserved : (n : ℕ) (e : Refusal) (c : C) → r.serves n c (error e) ≡ none
  -- a refer tells of tasks that wait
  pub told_first : (ts : List TaskEntry) (ws : List Waiter) (xs : List R) (n m : ℕ) → ((b : Bool) (p : Place) → first_task (standing b ts (waiters_in ws p)) ≤ m) → (r.told ts ws xs n).first ≤ m
  pub told_second : (ts : List TaskEntry) (ws : List Waiter) (xs : List R) (n m : ℕ) → ((b : Bool) (p : Place) → first_task (standing b ts (waiters_in ws p)) ≤ m) → (r.told ts ws xs n).second ≤ m

-- ---- what holds of the room's own calls and of nothing asked holds of every act
pub own_same : {A C : Type 0} (x : A) (f : C → A) → ((c : C) → f c ≡ x) → (a : Act C) → of_own x f a ≡ x
own_same x f g (own c) = g c
own_same x f g refer = refl
own_same x f g (set_vector v) = refl

pub own_all : {A C : Type 0} (P : List A → Type 0) (f : C → List A) → P [] → ((c : C) → P (f c)) → (a : Act C) → P (of_own [] f a)
own_all P f z g (own c) = g c
own_all P f z g refer = z
own_all P f z g (set_vector v) = z

pub is_refer_lem : {C : Type 0} (a : Act C) → is_refer a ≡ true → a ≡ refer
is_refer_lem (own c) h = absurd (no_both h refl)
is_refer_lem refer h = refl
is_refer_lem (set_vector v) h = absurd (no_both h refl)

pub ok_same : {A : Type 0} (x : A) (k : Code) → when_ok x x k ≡ x
ok_same x ok = refl
ok_same x waiting = refl
ok_same x (error e) = refl

pub accepted_same : {A : Type 0} (x : A) (k : Code) → when_accepted x x k ≡ x
accepted_same x ok = refl
accepted_same x waiting = refl
accepted_same x (error e) = refl

-- ---- what the checks leave
-- the caller is a registered ready task
pub record Calls (s : State) (t : ℕ) : Type 0 where
  pub caller : t ≢ 0
  pub known : t ≤ length s.fixed.tasks
  pub free : absent t s.waits ≡ true

pub calls_of : (s : State) (t : ℕ) → ready s t ≡ true → Calls s t
calls_of s t y =
    let b : not (eqb t 0) && leb t (length s.fixed.tasks) ≡ true = and_left (not (eqb t 0) && leb t (length s.fixed.tasks)) (absent t s.waits) y in
    let l : leb t (length s.fixed.tasks) ≡ true = and_right (not (eqb t 0)) (leb t (length s.fixed.tasks)) b in
    record {
      caller = λ e. no_both (and_left (not (eqb t 0)) (leb t (length s.fixed.tasks)) b) (rw e refl);
      known = leb→le t (length s.fixed.tasks) (rw l tt);
      free = and_right (not (eqb t 0) && leb t (length s.fixed.tasks)) (absent t s.waits) y;
    }

module _ {C R : Type 0} (r : Room C R) where
  pub record Passed (s : State) (t n : ℕ) (a : Act C) : Type 0 where
    pub calls : Calls s t
    pub numbered : n ≢ 0
    pub there : n ≤ length (r.records s)
    pub may : admits (running_at s t) (pattern_of (vector_at r s n) (operation_of r.operation a)) ≡ true

  pub passed : (s : State) (t n : ℕ) (a : Act C) → check r s t n a ≡ none → Passed s t n a
  unfolding check
  passed s t n a h =
      let h₁ = passed_by (true_tells (s.fixed.closed && ready s t)) e_ctx _ h in
      let h₂ = passed_by (true_tells (in_range r.most n)) e_id _ h₁.1 in
      let h₃ = passed_by (true_tells (slots_of r s n a).arguments) e_par _ h₂.1 in
      let h₄ = passed_by (true_tells (leb n (length (r.records s)))) e_noexs _ h₃.1 in
      let h₅ = passed_by (true_tells (slots_of r s n a).numbers) e_par _ h₄.1 in
      let h₆ = passed_by (true_tells (admits (running_at s t) (pattern_of (vector_at r s n) (operation_of r.operation a)))) e_oacv _ h₅.1 in
      record {
        calls = calls_of s t (and_right s.fixed.closed (ready s t) h₁.0);
        numbered = λ e. no_both (and_left (not (eqb n 0)) (leb n r.most) h₂.0) (rw e refl);
        there = leb→le n (length (r.records s)) (rw h₄.0 tt);
        may = h₆.0;
      }

-- ---- every act, by the room's laws
module _ {C R : Type 0} {r : Room C R} (l : RoomLaws r) (ts : List TaskEntry) (ws : List Waiter) (xs : List R) (t n : ℕ) where
  own_keeps : (c : C) → SameBut r.nothing l.entry n xs (r.does ts ws xs t n c).records
  own_keeps c = keeps (same_all r.nothing l.entry n xs) (l.ends ts ws xs t n c)

  -- the frame: it leaves the wait queues of every other object alone
  pub waits_apart : Distinct ws → (a : Act C) (p : Place) → is_at l.tag n p ≡ false → waiters_in (act_on r ts ws xs t n a).waits p ≡ waiters_in ws p
  waits_apart d (own c) p h = frame (l.ends ts ws xs t n c) d p h
  waits_apart d refer p h = refl
  waits_apart d (set_vector v) p h = refl

  -- its records differ at most under its own number, and there not in what the entry gave
  pub stays : (a : Act C) → SameBut r.nothing l.bare n xs (act_on r ts ws xs t n a).records
  stays (own c) =
      let k = own_keeps c in
      record { other = k.other; entries = λ i. sym (l.bare_entry _) ∙ ap l.bare (k.entries i) ∙ l.bare_entry _; count = k.count }
  stays refer = same_all r.nothing l.bare n xs
  stays (set_vector v) = same_put r.nothing l.bare n xs _ (l.bare_vector _ v)

  -- the vector of its object is the one that was set, if one was
  pub vectors : (a : Act C) → n ≢ 0 → n ≤ length xs → r.vector (at r.nothing (act_on r ts ws xs t n a).records n) ≡ vector_by (some a) (act_on r ts ws xs t n a).answer.code (r.vector (at r.nothing xs n))
  vectors (own c) h b =
      sym (l.vector_entry _) ∙ ap r.vector ((own_keeps c).entries n) ∙ l.vector_entry _
      ∙ sym (ok_same (r.vector (at r.nothing xs n)) (r.does ts ws xs t n c).answer.code)
  vectors refer h b = refl
  vectors (set_vector v) h b = ap r.vector (at_put_same r.nothing xs n _ h b) ∙ l.vector_set _ v

  -- who passes the checks is not denied
  pub act_not_denied : (a : Act C) → (act_on r ts ws xs t n a).answer.code ≡ error e_oacv → ⊥
  act_not_denied (own c) q = not_denied (l.ends ts ws xs t n c) q
  act_not_denied refer q = let z : ◌≡◌ {A = ℕ} 0 1 = cc in omega arith
  act_not_denied (set_vector v) q = let z : ◌≡◌ {A = ℕ} 0 1 = cc in omega arith

-- ---- a call that has nothing to do with a room: it leaves the room's records and wait queues alone, and begins no wait there
pub record Stranger {C R : Type 0} (r : Room C R) (k : ℕ) (x : Asks) : Type 0 where
  pub records : (s : State) (t : ℕ) → r.records (x.act s t).state ≡ r.records s
  pub waits : (s : State) (t : ℕ) → Distinct s.waits → (p : Place) → room_of p.side ≡ k → waiters_in (x.act s t).state.waits p ≡ waiters_in s.waits p
  pub begins : (t : ℕ) → All (λ (e : Waiter). room_of e.place.side ≢ k) (x.begins t)

-- every call on the caller's level is one
pub stranger_level : {C R : Type 0} (r : Room C R) (k : ℕ) → ((s : State) (ls : List ℕ) → r.records (set_levels s ls) ≡ r.records s) → (c : ExtendedCall) → Stranger r k (of_level c)
stranger_level r k apart c = record { records = λ s t. apart s _; waits = λ s t d p h. refl; begins = λ t. tt }

-- every call on an object of another room is one
module _ {C R D S : Type 0} (r : Room C R) (k : ℕ) {q : Room D S} (l : RoomLaws q) (d : l.tag ≢ k)
    (apart : (s : State) (ws : List Waiter) (xs : List S) → r.records (q.with s ws xs) ≡ r.records s) where
  pub stranger : (n : ℤ) (a : Act D) → Stranger r k (on_object q n a)
  stranger n a = record {
    records = λ s t. apart s _ _;
    waits = λ s t e p h. ap (λ (ws : List Waiter). waiters_in ws p) (l.waits_with s _ _) ∙ waits_apart l s.fixed.tasks s.waits (q.records s) t (no n) e a p (other_room k l.tag (no n) p h d);
    begins = λ t. own_all (All (λ (e : Waiter). room_of e.place.side ≢ k)) (q.begins t (no n)) tt (λ c. begun (q.begins t (no n) c) (l.begun t (no n) c)) a;
  }
    where
      begun : (ws : List Waiter) → All (λ (e : Waiter). is_at l.tag (no n) e.place ≡ true) ws → All (λ (e : Waiter). room_of e.place.side ≢ k) ws
      begun [] h = tt
      begun (e ∷ ws) h = ((λ z. d (sym (room_at l.tag (no n) e.place h.0) ∙ z)), begun ws h.1)
