-- "E_OACV exactly when denied", after any entries and any calls: by the pattern of the last accepted set-vector, or else of the entry. Assumes nothing.
use mathlib.Core.Path.{◌≡◌, refl, sym, ap, ◌∙◌, subst}
use mathlib.Core.Bool.{Bool, true, false, ◌&&◌}
use mathlib.Core.List.{List, [], ◌∷◌, ◌++◌, map, append-nil}
use mathlib.Core.Option.{Option, none, some}
use Prim.Native.Nat.{ℕ, zero, suc, ◌<◌}
use lib.Dec.{leb}
use lib.IntN.{ℤ, pos, negsuc}
use Rattle.access.proofs.Laws.{kernel_always}
use Rattle.access.specs.Domains.{running_of}
use Rattle.access.specs.Patterns.{admitted}
use Rattle.access.specs.Vectors.{resolved}
use Rattle.itron.specs.Codes.{error}
use Rattle.itron.specs.declared.error.Error.{Error as Refusal}
use Rattle.itron.specs.declared.error.Error.TheVariants.{Oacv as e_oacv}
use Rattle.itron.specs.Limits.{max_domains}
use Rattle.model.specs.Lists.{at, total}
use Rattle.model.specs.State.{Vector, Sem, Queue, State, zero_vector, no_sem, no_queue, domain_at, running_at, no}
use Rattle.model.specs.Answers.{when_ok}
use Rattle.model.specs.Acts.{Act}
use Rattle.model.specs.Rooms.{Room}
use Rattle.model.specs.Semaphores as Semaphores
use Rattle.model.specs.Queues as Queues
use Rattle.model.specs.Units.{unit_ok}
use Rattle.model.specs.Table.{Entry, task, sem, queue, region, fresh, fresh_by, check_entry, add, enter, enter_by, close, close_by}
use Rattle.model.specs.Calls.{Op, on_semaphore, on_queue, on_level, Call, call, step}
use Rattle.model.specs.History.{History, seen_by, vector_by, vector_since, after, history}
use Rattle.model.specs.SemaphoreClaims as SemaphoreClaims
use Rattle.model.specs.QueueClaims as QueueClaims
use Rattle.model.specs.Denials.{Ready, OnObject, InRange, There, sem_vectors, queue_vectors, pattern_since, DeniedSince}
use Rattle.model.specs.LevelClaims.{enters_by, leaves_by, running_when, by_none}
use Rattle.model.specs.Demand3.{JustClosed}
use Rattle.model.proofs.Lists.{no_both}
use Rattle.model.proofs.Rooms.{RoomLaws}
use Rattle.model.proofs.Semaphores as SemaphoreRoom
use Rattle.model.proofs.Queues as QueueRoom
use Rattle.model.proofs.Cover.{Whose, vector_law}
use Rattle.model.proofs.LevelClaims.{tally, level_since_lem, ran_outside, ran_inside}
use Rattle.model.proofs.SemaphoreClaims as SemaphoreLaws
use Rattle.model.proofs.QueueClaims as QueueLaws
use Rattle.model.proofs.Answers.{pattern_now, oacv_exactly}

-- ---- after any calls an object's vector is that of the last accepted set-vector, or else the one at the start
module _ {C R : Type 0} (r : Room C R) (l : RoomLaws r) (asked_of : ℕ → Op → Option (Act C)) (whose : (op : Op) → Whose r l asked_of op) (s₀ : State) (i : ℕ) where
  vectors_since : (cs : List Call) → r.vector (at r.nothing (r.records (after s₀ cs)) i) ≡ vector_since (r.vector (at r.nothing (r.records s₀) i)) (map (seen_by (asked_of i)) (history s₀ cs))
  unfolding after history
  vectors_since [] = refl
  vectors_since (c ∷ cs) = vector_law r l asked_of whose (after s₀ cs) i c ∙ ap (vector_by (asked_of i c.op) (step (after s₀ cs) c).answer.code) (vectors_since cs)

-- ---- the table's vectors are those that the entries gave
pub record Gave (l : List Entry) (s : State) : Type 0 where
  pub sems : map (λ (x : Sem). x.vector) s.sems ≡ sem_vectors l
  pub queues : map (λ (x : Queue). x.vector) s.queues ≡ queue_vectors l

pub gave_fresh : (n : ℤ) (unit : ℕ) → Gave [] (fresh n unit).state
unfolding fresh
gave_fresh (negsuc k) unit = record { sems = refl; queues = refl }
gave_fresh (pos n) unit = go (leb n max_domains && unit_ok unit)
  where
    go : (b : Bool) → Gave [] (fresh_by b n unit).state
    go true = record { sems = refl; queues = refl }
    go false = record { sems = refl; queues = refl }

-- one more at the end
module _ {A B : Type 0} (f : A → B) where
  map_snoc : (l : List A) (x : A) → map f (l ++ (x ∷ [])) ≡ map f l ++ (f x ∷ [])
  map_snoc [] x = refl
  map_snoc (y ∷ l) x = ap (λ (k : List B). f y ∷ k) (map_snoc l x)

sems_append : (l m : List Entry) → sem_vectors (l ++ m) ≡ sem_vectors l ++ sem_vectors m
sems_append [] m = refl
sems_append (task d p ∷ l) m = sems_append l m
sems_append (sem d a b x v ∷ l) m = ap (λ (k : List Vector). resolved d v ∷ k) (sems_append l m)
sems_append (queue d a c v ∷ l) m = sems_append l m
sems_append (region d a b z v ∷ l) m = sems_append l m

queues_append : (l m : List Entry) → queue_vectors (l ++ m) ≡ queue_vectors l ++ queue_vectors m
queues_append [] m = refl
queues_append (task d p ∷ l) m = queues_append l m
queues_append (sem d a b x v ∷ l) m = queues_append l m
queues_append (queue d a c v ∷ l) m = ap (λ (k : List Vector). resolved d v ∷ k) (queues_append l m)
queues_append (region d a b z v ∷ l) m = queues_append l m

-- an entry that is taken counts, a refused one does not
pub gave_enter : (l : List Entry) (s : State) (i : Entry) → Gave l s → Gave (l ++ when_ok [] (i ∷ []) (enter s i).answer.code) (enter s i).state
unfolding enter
gave_enter l s i g = go i (check_entry s i)
  where
    same : (i : Entry) → sem_vectors (i ∷ []) ≡ [] → queue_vectors (i ∷ []) ≡ [] → (s' : State) → s'.sems ≡ s.sems → s'.queues ≡ s.queues → Gave (l ++ (i ∷ [])) s'
    same i a b s' e f = record {
      sems = ap (map (λ (x : Sem). x.vector)) e ∙ g.sems ∙ sym (append-nil (sem_vectors l)) ∙ ap (λ (k : List Vector). sem_vectors l ++ k) (sym a) ∙ sym (sems_append l (i ∷ []));
      queues = ap (map (λ (x : Queue). x.vector)) f ∙ g.queues ∙ sym (append-nil (queue_vectors l)) ∙ ap (λ (k : List Vector). queue_vectors l ++ k) (sym b) ∙ sym (queues_append l (i ∷ []));
    }

    go : (i : Entry) (o : Option Refusal) → Gave (l ++ when_ok [] (i ∷ []) (enter_by s i o).answer.code) (enter_by s i o).state
    go i (some e) = subst (λ (k : List Entry). Gave k s) (sym (append-nil l)) g
    go (task d p) none = same (task d p) refl refl (add s (task d p)) refl refl
    go (sem d a b m v) none = record {
      sems = map_snoc (λ (x : Sem). x.vector) s.sems (Semaphores.new_sem d a b m v) ∙ ap (λ (k : List Vector). k ++ (resolved d v ∷ [])) g.sems ∙ sym (sems_append l (sem d a b m v ∷ []));
      queues = g.queues ∙ sym (append-nil (queue_vectors l)) ∙ sym (queues_append l (sem d a b m v ∷ []));
    }
    go (queue d a c v) none = record {
      sems = g.sems ∙ sym (append-nil (sem_vectors l)) ∙ sym (sems_append l (queue d a c v ∷ []));
      queues = map_snoc (λ (x : Queue). x.vector) s.queues (Queues.new_queue d a c v) ∙ ap (λ (k : List Vector). k ++ (resolved d v ∷ [])) g.queues ∙ sym (queues_append l (queue d a c v ∷ []));
    }
    go (region d a b z v) none = same (region d a b z v) refl refl (add s (region d a b z v)) refl refl

pub gave_close : (l : List Entry) (s : State) → Gave l s → Gave l (close s).state
unfolding close
gave_close l s g = go s.fixed.closed
  where
    go : (b : Bool) → Gave l (close_by b s).state
    go true = g
    go false = record { sems = g.sems; queues = g.queues }

-- ---- who is denied
module _ {A B : Type 0} (f : A → B) (d : A) where
  at_map : (l : List A) (i : ℕ) → f (at d l i) ≡ at (f d) (map f l) i
  at_map l zero = refl
  at_map [] (suc i) = refl
  at_map (x ∷ l) (suc zero) = refl
  at_map (x ∷ l) (suc (suc i)) = at_map l (suc i)

-- ---- what DeniedSince says, in plain facts: who left as often as it entered is judged by its own domain; who did not is denied nothing
module _ (l : List Entry) (h : History) (s : State) (t : ℤ) (op : Op) where
  abbrev Outside : Type 0
  Outside = total (enters_by (no t)) (by_none h) ≡ total (leaves_by (no t)) (by_none h)

  pub denied_outside : DeniedSince l h s t op → Outside → admitted (pattern_since l h op) (domain_at s (no t)) ≡ false
  denied_outside d e = sym (ap (admitted (pattern_since l h op)) (ran_outside (domain_at s) (no t) (by_none h) e)) ∙ d.denied

  pub outside_denies : OnObject op → Ready s (no t) → InRange s op → There s op → Outside → admitted (pattern_since l h op) (domain_at s (no t)) ≡ false → DeniedSince l h s t op
  outside_denies o r i n e f = record { object = o; ready = r; numbered = i; there = n; denied = ap (admitted (pattern_since l h op)) (ran_outside (domain_at s) (no t) (by_none h) e) ∙ f }

  pub denied_inside : DeniedSince l h s t op → total (leaves_by (no t)) (by_none h) < total (enters_by (no t)) (by_none h) → ⊥
  denied_inside d e = no_both (ap (admitted (pattern_since l h op)) (ran_inside (domain_at s) (no t) (by_none h) e) ∙ kernel_always (pattern_since l h op)) d.denied

module _ (l : List Entry) (s₀ : State) (g : Gave l s₀) (j : JustClosed s₀) (cs : List Call) where
  -- the pattern that governs a call, by the state and by entries and history
  pattern_is : (op : Op) → pattern_now (after s₀ cs) op ≡ pattern_since l (history s₀ cs) op
  pattern_is (on_semaphore n a) =
      ap (λ (v : Vector). SemaphoreClaims.pattern_for v a)
      (vectors_since Semaphores.room SemaphoreRoom.laws SemaphoreClaims.asked_of SemaphoreLaws.whose s₀ (no n) cs
      ∙ ap (λ (v : Vector). vector_since v (SemaphoreClaims.by_semaphore (no n) (history s₀ cs))) (at_map (λ (x : Sem). x.vector) no_sem s₀.sems (no n) ∙ ap (λ (k : List Vector). at zero_vector k (no n)) g.sems))
  pattern_is (on_queue n a) =
      ap (λ (v : Vector). QueueClaims.pattern_for v a)
      (vectors_since Queues.room QueueRoom.laws QueueClaims.asked_of QueueLaws.whose s₀ (no n) cs
      ∙ ap (λ (v : Vector). vector_since v (QueueClaims.by_queue (no n) (history s₀ cs))) (at_map (λ (x : Queue). x.vector) no_queue s₀.queues (no n) ∙ ap (λ (k : List Vector). at zero_vector k (no n)) g.queues))
  pattern_is (on_level c) = refl

  -- and the domain as which a task runs
  running_is : (t : ℕ) → running_at (after s₀ cs) t ≡ running_when (domain_at (after s₀ cs)) t (by_none (history s₀ cs))
  running_is t = ap (running_of (domain_at (after s₀ cs) t)) (level_since_lem (λ (op : Op). none) t (tally s₀ j cs))

  not_admitted : (b : Bool) → (b ≡ true → ⊥) → b ≡ false
  not_admitted true f = absurd (f refl)
  not_admitted false f = refl

  module _ (t : ℤ) (op : Op) where
    same_verdict : admitted (pattern_now (after s₀ cs) op) (running_at (after s₀ cs) (no t)) ≡ admitted (pattern_since l (history s₀ cs) op) (running_when (domain_at (after s₀ cs)) (no t) (by_none (history s₀ cs)))
    same_verdict = let p = pattern_is op in let d = running_is (no t) in λ i. admitted (p i) (d i)

    pub denied_only : (step (after s₀ cs) (call t op)).answer.code ≡ error e_oacv → DeniedSince l (history s₀ cs) (after s₀ cs) t op
    denied_only q =
        let d = (oacv_exactly (after s₀ cs) t op).0 q in
        record { object = d.0; ready = d.1.0; numbered = d.1.1.0; there = d.1.1.1.0; denied = sym same_verdict ∙ not_admitted _ d.1.1.1.1 }

    pub denied_always : DeniedSince l (history s₀ cs) (after s₀ cs) t op → (step (after s₀ cs) (call t op)).answer.code ≡ error e_oacv
    denied_always d = (oacv_exactly (after s₀ cs) t op).1 (d.object, (d.ready, (d.numbered, (d.there, λ m. no_both m (same_verdict ∙ d.denied)))))
