-- Case analyses of a call for all laws: by how it ends, whatever it asks of whom; and by what one object sees of it. Assumes nothing.
use mathlib.Core.Path.{◌≡◌, refl, sym, ap, ◌∙◌, subst}
use mathlib.Core.Bool.{Bool, true, false}
use mathlib.Core.List.{List, [], ◌∷◌}
use mathlib.Core.Option.{Option, none, some}
use Prim.Native.Nat.{ℕ, ◌≤◌}
use native.Mathlib.Omega.{arith}
use lib.Dec.{eqb}
use lib.IntN.{ℤ}
use lib.ListN.{length}
use Rattle.itron.specs.Codes.{ok, waiting, error}
use Rattle.itron.specs.declared.error.Error.{Error as Refusal}
use Rattle.itron.specs.declared.error.Error.TheVariants.{Ctx as e_ctx, Oacv as e_oacv}
use Rattle.model.specs.Lists.{at, All}
use Rattle.model.specs.State.{Vector, Place, Waiter, State, set_waits, no}
use Rattle.model.specs.Answers.{Answer, Effect, Out, out, say, refuse, tells}
use Rattle.model.specs.Waits.{standing, waiters_at, wait_queue, first_task, leave, join, freed}
use Rattle.model.specs.Acts.{Act, own, refer, set_vector, is_refer}
use Rattle.model.specs.Rooms.{Room, check, act_on, on_records, set_vector_of, Asks, on_object}
use Rattle.model.specs.Calls.{Op, on_semaphore, on_queue, on_level, Call, asks, act_if, step}
use Rattle.model.specs.ExtendedCalls as Extended
use Rattle.model.specs.ExtendedCalls.{ExtendedCall, of_level}
use Rattle.model.specs.History.{event, Made, seen_by, asked_if, extended_of, vector_by}
use Rattle.model.specs.Conditions.{Plain, Registered}
use Rattle.model.proofs.Lists.{eq_of, ne_of, no_both, Distinct, all_alike}
use Rattle.model.proofs.Endings.{Vacant, SameBut, Ends}
use Rattle.model.proofs.Endings as Ended
use Rattle.model.proofs.Rooms.{RoomLaws, Calls, Passed, passed, Stranger, is_at, room_at, other_number, own_same, is_refer_lem, waits_apart, stays, vectors, act_not_denied}
use Rattle.model.proofs.Semaphores as SemaphoreRoom
use Rattle.model.proofs.Queues as QueueRoom

-- ---- by how it ends: for laws that ask nothing of the records
-- a state in which other records may stand, and these tasks wait
pub record Alike (s : State) (ws : List Waiter) (s' : State) : Type 0 where
  pub fixed : s'.fixed ≡ s.fixed
  pub waits : s'.waits ≡ ws

-- a claim about a call of task t that asks x, and what it gives
pub record Endings (s : State) (P : ℕ → Asks → Out → Type 0) : Type 0 where
  pub refused : (t : ℕ) (x : Asks) (e : Refusal) → x.serves (error e) ≡ none → P t x (refuse s e)
  pub tells : (t : ℕ) (x : Asks) → x.is_refer ≡ true → x.serves ok ≡ none → P t x (out (tells (x.told s)) s)
  pub gives : (t : ℕ) (x : Asks) (s' : State) (w : ℕ) → Alike s s.waits s' → Vacant s.waits (x.serves ok) → P t x (out (say ok w []) s')
  pub wakes : (t : ℕ) (x : Asks) (s' : State) (p : Place) (e : Waiter) (l : List Waiter) (w h : ℕ) → Alike s (leave e.task s.waits) s' → x.serves ok ≡ some p → wait_queue s p ≡ e ∷ l
      → P t x (out (say ok w (freed e h)) s')
  pub waits : (t : ℕ) (x : Asks) (e : Waiter) → x.check s t ≡ none → Calls s t → e.task ≡ t → Plain e × Registered s e → x.begins t ≡ e ∷ [] → Vacant s.waits (x.serves waiting)
      → P t x (out (say waiting 0 []) (set_waits s (join e s.waits)))

-- ---- what holds of every call, whatever it asks of whom
pub record Lawful (x : Asks) : Type 1 where
  -- a call that passes its checks ends in one of these ways; it is not denied
  pub ends : (s : State) (P : ℕ → Asks → Out → Type 0) → Endings s P → (t : ℕ) → x.check s t ≡ none → P t x (x.act s t)
  pub undenied : (s : State) (t : ℕ) → (x.act s t).answer.code ≡ error e_oacv → ⊥
  -- an open table refuses it; refused it serves nobody
  pub closed_first : (s : State) (t : ℕ) → s.fixed.closed ≡ false → x.check s t ≡ some e_ctx
  pub unserved : (e : Refusal) → x.serves (error e) ≡ none
  -- a refer tells, of tasks that wait, and changes nothing
  pub refers : (s : State) (t : ℕ) → x.is_refer ≡ true → x.act s t ≡ out (tells (x.told s)) s
  pub tells_first : (s : State) (m : ℕ) → ((b : Bool) (p : Place) → first_task (standing b s.fixed.tasks (waiters_at s p)) ≤ m) → (x.told s).first ≤ m
  pub tells_second : (s : State) (m : ℕ) → ((b : Bool) (p : Place) → first_task (standing b s.fixed.tasks (waiters_at s p)) ≤ m) → (x.told s).second ≤ m

-- a call on an object of a room
module _ {C R : Type 0} {r : Room C R} (l : RoomLaws r) (n : ℤ) where
  serves_none : (a : Act C) (e : Refusal) → (on_object r n a).serves (error e) ≡ none
  serves_none a e = own_same none (λ c. r.serves (no n) c (error e)) (l.unserved (no n) e) a

  module _ (s : State) (P : ℕ → Asks → Out → Type 0) (es : Endings s P) (t : ℕ) where
    in_room : (ws : List Waiter) (xs : List R) → Alike s ws (r.with s ws xs)
    in_room ws xs = record { fixed = l.fixed_with s ws xs; waits = l.waits_with s ws xs }

    end_own : (c : C) → check r s t (no n) (own c) ≡ none → {o : Effect R}
        → Ends R s.fixed.tasks s.waits (r.records s) t (is_at l.tag (no n)) (l.order (r.records s)) (SameBut r.nothing l.entry (no n) (r.records s)) (r.begins t (no n) c) (r.serves (no n) c) o
        → P t (on_object r n (own c)) (on_records r s o)
    end_own c h (Ended.refused e x) =
        subst (λ (s' : State). P t (on_object r n (own c)) (out (say (error e) 0 []) s')) (sym (l.same_with s s.waits)) (es.refused t (on_object r n (own c)) e (serves_none (own c) e))
    end_own c h (Ended.gives xs w k v) = es.gives t (on_object r n (own c)) _ w (in_room s.waits xs) v
    end_own c h (Ended.wakes xs p e m w v k y z f) = es.wakes t (on_object r n (own c)) _ p e m w v (in_room (leave e.task s.waits) xs) z
        (subst (λ (b : Bool). standing b s.fixed.tasks (waiters_at s p) ≡ e ∷ m) (l.order_at s p (room_at l.tag (no n) p y)) f)
    end_own c h (Ended.waits e z m b v) =
        let p = passed r s t (no n) (own c) h in
        let g = subst (All (λ (y : Waiter). Plain y × Registered s y)) b (l.plain s t (no n) p.numbered p.there c) in
        subst (λ (s' : State). P t (on_object r n (own c)) (out (say waiting 0 []) s')) (sym (l.same_with s (join e s.waits))) (es.waits t (on_object r n (own c)) e h p.calls z g.0 b v)

    end_room : (a : Act C) → check r s t (no n) a ≡ none → P t (on_object r n a) ((on_object r n a).act s t)
    end_room (own c) h = end_own c h (l.ends s.fixed.tasks s.waits (r.records s) t (no n) c)
    end_room refer h = subst (λ (s' : State). P t (on_object r n refer) (out (tells ((on_object r n refer).told s)) s')) (sym (l.same_with s s.waits)) (es.tells t (on_object r n refer) refl refl)
    end_room (set_vector v) h = es.gives t (on_object r n (set_vector v)) _ 0 (in_room s.waits (set_vector_of r (r.records s) (no n) v)) tt

  refers_room : (s : State) (t : ℕ) (a : Act C) → is_refer a ≡ true → (on_object r n a).act s t ≡ out (tells ((on_object r n a).told s)) s
  refers_room s t a h =
      ap (λ (b : Act C). (on_object r n b).act s t) (is_refer_lem a h) ∙ ap (out (tells ((on_object r n a).told s))) (l.same_with s s.waits)

  opened_first : (s : State) (t : ℕ) (a : Act C) → s.fixed.closed ≡ false → check r s t (no n) a ≡ some e_ctx
  unfolding check
  opened_first s t a h = rw h

  pub lawful_room : (a : Act C) → Lawful (on_object r n a)
  lawful_room a = record {
    ends = λ s P es t h. end_room s P es t a h;
    undenied = λ s t q. act_not_denied l s.fixed.tasks s.waits (r.records s) t (no n) a q;
    closed_first = λ s t h. opened_first s t a h;
    unserved = serves_none a;
    refers = λ s t h. refers_room s t a h;
    tells_first = λ s m h. l.told_first s.fixed.tasks s.waits (r.records s) (no n) m h;
    tells_second = λ s m h. l.told_second s.fixed.tasks s.waits (r.records s) (no n) m h;
  }

-- a call on the caller's level
levels_closed : (s : State) (t : ℕ) (c : ExtendedCall) → s.fixed.closed ≡ false → Extended.check s t c ≡ some e_ctx
unfolding Extended.check
levels_closed s t c h = rw h

lawful_level : (c : ExtendedCall) → Lawful (of_level c)
lawful_level c = record {
  ends = λ s P es t h. es.gives t (of_level c) _ 0 (record { fixed = refl; waits = refl }) tt;
  undenied = λ s t q. let z : ◌≡◌ {A = ℕ} 0 1 = cc in omega arith;
  closed_first = λ s t h. levels_closed s t c h;
  unserved = λ e. refl;
  refers = λ s t h. absurd (no_both h refl);
  tells_first = λ s m h. omega arith;
  tells_second = λ s m h. omega arith;
}

pub lawful : (op : Op) → Lawful (asks op)
lawful (on_semaphore n a) = lawful_room SemaphoreRoom.laws n a
lawful (on_queue n a) = lawful_room QueueRoom.laws n a
lawful (on_level c) = lawful_level c

module _ (s : State) (P : ℕ → Asks → Out → Type 0) (es : Endings s P) where
  pub ends : (c : Call) → P (no c.caller) (asks c.op) (step s c)
  unfolding step
  ends c = go ((asks c.op).check s (no c.caller)) refl
    where
      go : (o : Option Refusal) → (asks c.op).check s (no c.caller) ≡ o → P (no c.caller) (asks c.op) (act_if s (no c.caller) (asks c.op) o)
      go (some e) h = es.refused (no c.caller) (asks c.op) e ((lawful c.op).unserved e)
      go none h = (lawful c.op).ends s P es (no c.caller) h

-- ---- by what one object sees of it
-- whose a call is, as a room sees it: it is on one of the room's objects, or has nothing to do with the room
pub data Whose {C R : Type 0} (r : Room C R) (l : RoomLaws r) (asked_of : ℕ → Op → Option (Act C)) (op : Op) : Type 0 where
  mine : (n : ℤ) (a : Act C) → asks op ≡ on_object r n a → ((i : ℕ) → asked_of i op ≡ asked_if (eqb i (no n)) a) → Whose r l asked_of op
  foreign : Stranger r l.tag (asks op) → ((i : ℕ) → asked_of i op ≡ none) → Whose r l asked_of op

-- a claim about what the object i sees of a call, and the state after it: what is asked of another object leaves its record and its wait queues alone
pub record Sees {C R : Type 0} (r : Room C R) (l : RoomLaws r) (s : State) (i : ℕ) (P : Made C → State → Type 0) : Type 0 where
  pub refused : (t : ℕ) (a : Option (Act C)) (x : Option ExtendedCall) (e : Refusal) → P (record { caller = t; asked = a; extended = x; answer = say (error e) 0 [] }) s
  pub elsewhere : (t : ℕ) (x : Option ExtendedCall) (a : Answer) (s' : State) → at r.nothing (r.records s') i ≡ at r.nothing (r.records s) i
      → (Distinct s.waits → (p : Place) → is_at l.tag i p ≡ true → waiters_at s' p ≡ waiters_at s p) → P (record { caller = t; asked = none; extended = x; answer = a }) s'
  pub here : (t : ℕ) (a : Act C) (x : Option ExtendedCall) → Passed r s t i a
      → P (record { caller = t; asked = some a; extended = x; answer = (act_on r s.fixed.tasks s.waits (r.records s) t i a).answer }) (on_records r s (act_on r s.fixed.tasks s.waits (r.records s) t i a)).state

module _ {C R : Type 0} (r : Room C R) (l : RoomLaws r) (asked_of : ℕ → Op → Option (Act C)) (whose : (op : Op) → Whose r l asked_of op) (s : State) where
  module _ (i : ℕ) (P : Made C → State → Type 0) (cs : Sees r l s i P) (t : ℕ) (y : Option ExtendedCall) where
    -- what the object sees of a call that asks x
    abbrev Seen : Option (Act C) → Asks → Type 0
    Seen a x = P (record { caller = t; asked = a; extended = y; answer = (x.act s t).answer }) (x.act s t).state

    seen_here : (n : ℤ) (a : Act C) → check r s t (no n) a ≡ none → Seen (asked_if (eqb i (no n)) a) (on_object r n a)
    seen_here n a h = go (eqb i (no n)) refl
      where
        o : ℕ → Effect R
        o j = act_on r s.fixed.tasks s.waits (r.records s) t j a

        go : (b : Bool) → eqb i (no n) ≡ b → Seen (asked_if b a) (on_object r n a)
        go true e = subst (λ (j : ℕ). P (record { caller = t; asked = some a; extended = y; answer = (o j).answer }) (on_records r s (o j)).state) (eq_of i (no n) e)
            (cs.here t a y (subst (λ (j : ℕ). Passed r s t j a) (sym (eq_of i (no n) e)) (passed r s t (no n) a h)))
        go false e =
            let z = ne_of i (no n) e in
            cs.elsewhere t y (o (no n)).answer _ (ap (λ (xs : List R). at r.nothing xs i) (l.records_with s _ _) ∙ (stays l s.fixed.tasks s.waits (r.records s) t (no n) a).other i z)
            (λ d p f. ap (λ (ws : List Waiter). waiters_at (set_waits s ws) p) (l.waits_with s _ _) ∙ waits_apart l s.fixed.tasks s.waits (r.records s) t (no n) d a p (other_number l.tag (no n) i p f (λ q. z (sym q))))

    by_whose : (op : Op) → (asks op).check s t ≡ none → Whose r l asked_of op → Seen (asked_of i op) (asks op)
    by_whose op h (mine n a e f) =
        subst (λ (b : Option (Act C)). Seen b (asks op)) (sym (f i))
        (subst (λ (x : Asks). Seen (asked_if (eqb i (no n)) a) x) (sym e) (seen_here n a (subst (λ (x : Asks). x.check s t ≡ none) e h)))
    by_whose op h (foreign k f) =
        subst (λ (b : Option (Act C)). Seen b (asks op)) (sym (f i))
        (cs.elsewhere t y ((asks op).act s t).answer ((asks op).act s t).state (ap (λ (xs : List R). at r.nothing xs i) (k.records s t)) (λ d p g. k.waits s t d p (room_at l.tag i p g)))

  module _ (i : ℕ) (P : Made C → State → Type 0) (cs : Sees r l s i P) where
    pub sees : (c : Call) → P (seen_by (asked_of i) (event s c)) (step s c).state
    unfolding step
    sees c = go ((asks c.op).check s (no c.caller)) refl
      where
        go : (o : Option Refusal) → (asks c.op).check s (no c.caller) ≡ o
            → P (record { caller = no c.caller; asked = asked_of i c.op; extended = extended_of c.op; answer = (act_if s (no c.caller) (asks c.op) o).answer }) (act_if s (no c.caller) (asks c.op) o).state
        go (some e) h = cs.refused (no c.caller) (asked_of i c.op) (extended_of c.op) e
        go none h = by_whose i P cs (no c.caller) (extended_of c.op) c.op h (whose c.op)

  -- a claim about all records of the room
  module _ (Q : List R → Type 0) (z : Q (r.records s)) (k : (t n : ℕ) (a : Act C) → Passed r s t n a → Q (act_on r s.fixed.tasks s.waits (r.records s) t n a).records) where
    by_records : (t : ℕ) (op : Op) → (asks op).check s t ≡ none → Whose r l asked_of op → Q (r.records ((asks op).act s t).state)
    by_records t op h (mine n a e f) = subst (λ (x : Asks). Q (r.records (x.act s t).state)) (sym e) (subst Q (sym (l.records_with s _ _)) (k t (no n) a (passed r s t (no n) a (subst (λ (x : Asks). x.check s t ≡ none) e h))))
    by_records t op h (foreign g f) = subst Q (sym (g.records s t)) z

    pub keeps_records : (c : Call) → Q (r.records (step s c).state)
    unfolding step
    keeps_records c = go ((asks c.op).check s (no c.caller)) refl
      where
        go : (o : Option Refusal) → (asks c.op).check s (no c.caller) ≡ o → Q (r.records (act_if s (no c.caller) (asks c.op) o).state)
        go (some e) h = z
        go none h = by_records (no c.caller) c.op h (whose c.op)

  -- ---- an entry is kept as given: no call changes what it gave of any object, or the number of objects
  pub entries_stay : (c : Call) → ((i : ℕ) → l.bare (at r.nothing (r.records (step s c).state) i) ≡ l.bare (at r.nothing (r.records s) i)) × (length (r.records (step s c).state) ≡ length (r.records s))
  entries_stay = keeps_records (λ (xs : List R). ((i : ℕ) → l.bare (at r.nothing xs i) ≡ l.bare (at r.nothing (r.records s) i)) × (length xs ≡ length (r.records s))) ((λ i. refl), refl)
      (λ t n a p. let k = stays l s.fixed.tasks s.waits (r.records s) t n a in (k.entries, k.count))

  -- so what holds of every object by its entry alone stays
  pub all_stay : (P : R → Type 0) → All (λ (x : R). P (l.bare x)) (r.records s) → (c : Call) → All (λ (x : R). P (l.bare x)) (r.records (step s c).state)
  all_stay P h c = let k = entries_stay c in all_alike (λ (x : R). P (l.bare x)) r.nothing (r.records s) (r.records (step s c).state) k.1 (λ i. subst P (sym (k.0 i))) h

  -- ---- the vectors: that of an object is the last one set on it
  -- a refusal sets none
  unset : (a : Option (Act C)) (e : Refusal) (v : Vector) → v ≡ vector_by a (error e) v
  unset none e v = refl
  unset (some a) e v = refl

  pub vector_law : (i : ℕ) (c : Call)
      → r.vector (at r.nothing (r.records (step s c).state) i) ≡ vector_by (asked_of i c.op) (step s c).answer.code (r.vector (at r.nothing (r.records s) i))
  vector_law i c = sees i (λ m s'. r.vector (at r.nothing (r.records s') i) ≡ vector_by m.asked m.answer.code (r.vector (at r.nothing (r.records s) i))) (record {
    refused = λ t a x e. unset a e (r.vector (at r.nothing (r.records s) i));
    elsewhere = λ t x a s' e f. ap r.vector e;
    here = λ t a x p. ap (λ (xs : List R). r.vector (at r.nothing xs i)) (l.records_with s _ _) ∙ vectors l s.fixed.tasks s.waits (r.records s) t i a p.numbered p.there;
  }) c
