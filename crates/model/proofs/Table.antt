-- Fresh, entries and closing give sound states. Assumes nothing.
use mathlib.Core.Path.{◌≡◌, refl, sym, ap, ◌∙◌}
use mathlib.Core.Logic.{inl}
use mathlib.Core.Bool.{Bool, true, false, not, ◌&&◌}
use mathlib.Core.List.{List, [], ◌∷◌, ◌++◌}
use mathlib.Core.Option.{Option, none, some}
use Prim.Native.Nat.{ℕ, zero, suc, ◌+◌, ◌≤◌}
use native.Mathlib.Omega.{arith}
use lib.ListN.{length-append}
use lib.Dec.{leb}
use lib.IntN.{ℤ, pos, negsuc}
use borrow.Author.Tests.{leb-true}
use Rattle.itron.specs.Codes.{ok, error}
use Rattle.itron.specs.declared.error.Error.{Error as Refusal}
use Rattle.model.specs.Answers.{refuse_if}
use Rattle.model.specs.Conditions.{BufferFits, Bounded, Ascending, Whole, TaskEntryFits, SemEntryFits, QueueEntryFits, RegionEntryFits, Spent, NoWords, QueueOk, qview_of, Sound}
use Rattle.model.specs.Lists.{at}
use Rattle.model.specs.Semaphores.{new_sem}
use Rattle.model.specs.Queues.{words_used, new_queue}
use Rattle.model.specs.State.{TaskEntry, Sem, Queue, Region, State, no_sem, place}
use Rattle.model.specs.Table.{Entry, task, sem, queue, region, tests_of, check_entry, new_task, add, enter_by, enter, empty_state, fresh_by, fresh, close_by, close}
use Rattle.itron.specs.Limits.{max_words, max_domains, min_unit}
use Rattle.model.specs.Regions.{last_end, new_region}
use Rattle.model.specs.Units.{unit_ok}
use Rattle.model.proofs.Lists.{and_left, and_right, no_both, map_append, all_snoc}
use Rattle.model.proofs.Units.{unit_one}
use Rattle.model.proofs.Entries.{told}

pass : (b : Bool) (e : Refusal) (r : Option Refusal) → refuse_if (not b) e r ≡ none → (b ≡ true) × (r ≡ none)
pass false e r h = absurd (let z : ◌≡◌ {A = Bool} true false = cc in no_both {b = true} refl z)
pass true e r h = (refl, h)

open_of : (b : Bool) (e : Refusal) (r : Option Refusal) → refuse_if b e r ≡ none → (b ≡ false) × (r ≡ none)
open_of true e r h = absurd (let z : ◌≡◌ {A = Bool} true false = cc in no_both {b = true} refl z)
open_of false e r h = (refl, h)

-- what a taken entry has passed
pub record Taken (s : State) (i : Entry) : Type 0 where
  pub opened : s.fixed.closed ≡ false
  pub room : (tests_of s i).has_room ≡ true
  pub owner : (tests_of s i).domain_ok ≡ true
  pub attribute : (tests_of s i).attribute_ok ≡ true
  pub numbers : (tests_of s i).numbers_ok ≡ true
  pub place : (tests_of s i).place_ok ≡ true
  pub memory : (tests_of s i).memory_ok ≡ true

pub taken : (s : State) (i : Entry) → check_entry s i ≡ none → Taken s i
taken s i h =
    let h₁ = open_of s.fixed.closed _ _ h in
    let h₂ = pass (tests_of s i).has_room _ _ h₁.1 in
    let h₃ = pass (tests_of s i).domain_ok _ _ h₂.1 in
    let h₄ = pass (tests_of s i).attribute_ok _ _ h₃.1 in
    let h₅ = pass (tests_of s i).numbers_ok _ _ h₄.1 in
    let h₆ = pass (tests_of s i).place_ok _ _ h₅.1 in
    let h₇ = pass (tests_of s i).memory_ok _ _ h₆.1 in
    record { opened = h₁.0; room = h₂.0; owner = h₃.0; attribute = h₄.0; numbers = h₅.0; place = h₆.0; memory = h₇.0 }

all_of : {A : Type 0} (P : A → Type 0) (d : A) (l : List A) (x : A) → P d → P x → ((i : ℕ) → P (at d l i)) → (i : ℕ) → P (at d (l ++ (x ∷ [])) i)
all_of P d l x z k h zero = z
all_of P d [] x z k h (suc zero) = k
all_of P d [] x z k h (suc (suc i)) = z
all_of P d (y ∷ l) x z k h (suc zero) = h 1
all_of P d (y ∷ l) x z k h (suc (suc i)) = all_of P d l x z k (λ j. next j) (suc i)
  where
    next : (j : ℕ) → P (at d l j)
    next zero = z
    next (suc j) = h (suc (suc j))

used_snoc : (l : List Queue) (q : Queue) → words_used (l ++ (q ∷ [])) ≡ words_used l + q.capacity
used_snoc [] q = omega arith
used_snoc (x ∷ l) q = let e = used_snoc l q in omega arith

-- a state in which nobody waits
module _ (s : State) (w : s.waits ≡ []) where
  pub still_spent : (i : ℕ) → Spent s i
  still_spent i = inl (rw w refl)

  pub still_fine : (q : ℕ) → QueueOk (qview_of s q)
  still_fine q = record { idle = inl (rw w refl); full = inl (rw w refl) }

-- a region that starts at or above the end of the last one
ascending_snoc : (l : List Region) (r : Region) → Ascending l → last_end l ≤ r.base → Ascending (l ++ (r ∷ []))
ascending_snoc [] r a h = tt
ascending_snoc (x ∷ []) r a h = (h, tt)
ascending_snoc (x ∷ (y ∷ l)) r a h = (a.0, ascending_snoc (y ∷ l) r a.1 h)

sound_add : (s : State) (i : Entry) → Sound s → Taken s i → Sound (add s i)
sound_add s (task d p) k t =
    let w = k.quiet t.opened in
    let f = k.fit in
    let e = k.entries in
    let g = told s (task d p) in
    let r = g.room.yes t.room in
    let b = g.numbers.yes t.numbers in
    let x = new_task d p in
    let a = length-append s.fixed.tasks (x ∷ []) in
    record {
      fit = record { waits = record { tasks = omega arith; distinct = f.waits.distinct; known = rw w tt; plain = f.waits.plain }; levels = record { each = let z = length-append s.levels (0 ∷ []) in let y = f.levels.each in omega arith; bounded = all_snoc _ s.levels 0 f.levels.bounded (omega arith) }; sems = f.sems; queues = f.queues; regions = f.regions };
      entries = record { domains = e.domains; tasks = all_snoc (TaskEntryFits s.fixed.count) s.fixed.tasks x e.tasks (g.owned.yes t.owner, b.0, b.1); sems = e.sems; queues = e.queues; regions = e.regions };
      registered = rw w tt;
      within = k.within;
      spent = k.spent;
      fine = k.fine;
      unit = record { power = k.unit.power; whole = k.unit.whole };
      quiet = k.quiet;
      empty = k.empty;
      outside = λ h. ap (λ (l : List ℕ). l ++ (0 ∷ [])) (k.outside h) ∙ sym (map_append (λ (y : TaskEntry). 0) s.fixed.tasks (x ∷ []));
    }
sound_add s (sem d a b m v) k t =
    let w = k.quiet t.opened in
    let f = k.fit in
    let e = k.entries in
    let g = told s (sem d a b m v) in
    let r = g.room.yes t.room in
    let c = g.numbers.yes t.numbers in
    let x = new_sem d a b m v in
    let n = length-append s.sems (x ∷ []) in
    record {
      fit = record { waits = f.waits; levels = f.levels; sems = omega arith; queues = f.queues; regions = f.regions };
      entries = record { domains = e.domains; tasks = e.tasks; sems = all_snoc (SemEntryFits s.fixed.count) s.sems x e.sems (g.owned.yes t.owner, g.attribute.yes t.attribute, c.0.0, c.0.1); queues = e.queues; regions = e.regions };
      registered = rw w tt;
      within = all_of (λ (y : Sem). y.count ≤ y.max) no_sem s.sems x (omega arith) c.1 k.within;
      spent = still_spent (add s (sem d a b m v)) w;
      fine = k.fine;
      unit = k.unit;
      quiet = k.quiet;
      empty = k.empty;
      outside = k.outside;
    }
sound_add s (queue d a c v) k t =
    let w = k.quiet t.opened in
    let f = k.fit.queues in
    let e = k.entries in
    let g = told s (queue d a c v) in
    let r = g.room.yes t.room in
    let x = new_queue d a c v in
    let n = length-append s.queues (x ∷ []) in
    let u = used_snoc s.queues x in
    let l = leb-true (words_used s.queues + c) max_words t.memory in
    record {
      fit = record { waits = k.fit.waits; levels = k.fit.levels; sems = k.fit.sems; queues = record { few = omega arith; words = omega arith; buffers = all_snoc BufferFits s.queues x f.buffers (omega arith) }; regions = k.fit.regions };
      entries = record { domains = e.domains; tasks = e.tasks; sems = e.sems; queues = all_snoc (QueueEntryFits s.fixed.count) s.queues x e.queues (g.owned.yes t.owner, g.attribute.yes t.attribute, g.numbers.yes t.numbers); regions = e.regions };
      registered = rw w tt;
      within = k.within;
      spent = k.spent;
      fine = still_fine (add s (queue d a c v)) w;
      unit = k.unit;
      quiet = k.quiet;
      empty = λ h. all_snoc NoWords s.queues x (k.empty h) refl;
      outside = k.outside;
    }
sound_add s (region d a b z v) k t =
    let w = k.quiet t.opened in
    let f = k.fit.regions in
    let e = k.entries in
    let rs = s.fixed.regions in
    let g = told s (region d a b z v) in
    let r = g.room.yes t.room in
    let x = new_region d a b z v in
    let n = length-append rs (x ∷ []) in
    let y = g.numbers.yes t.numbers in
    record {
      fit = record { waits = k.fit.waits; levels = k.fit.levels; sems = k.fit.sems; queues = k.fit.queues; regions = record { few = omega arith; bounded = all_snoc Bounded rs x f.bounded y.0; ascending = ascending_snoc rs x f.ascending (leb-true (last_end rs) b t.place) } };
      entries = record { domains = e.domains; tasks = e.tasks; sems = e.sems; queues = e.queues; regions = all_snoc (RegionEntryFits s.fixed.count) rs x e.regions (g.owned.yes t.owner, g.attribute.yes t.attribute) };
      registered = rw w tt;
      within = k.within;
      spent = k.spent;
      fine = k.fine;
      unit = record { power = k.unit.power; whole = all_snoc (Whole s.fixed.unit) rs x k.unit.whole y.1 };
      quiet = k.quiet;
      empty = k.empty;
      outside = k.outside;
    }

pub sound_enter : (s : State) (i : Entry) → Sound s → Sound (enter s i).state
unfolding enter
sound_enter s i k = go (check_entry s i) refl
  where
    go : (o : Option Refusal) → check_entry s i ≡ o → Sound (enter_by s i o).state
    go (some e) h = k
    go none h = sound_add s i k (taken s i h)

sound_empty : (n unit : ℕ) → n ≤ max_domains → unit_ok unit ≡ true → Sound (empty_state n unit)
sound_empty n unit h u = record {
  fit = record { waits = record { tasks = omega arith; distinct = tt; known = tt; plain = tt }; levels = record { each = refl; bounded = tt }; sems = omega arith; queues = record { few = omega arith; words = omega arith; buffers = tt }; regions = record { few = omega arith; bounded = tt; ascending = tt } };
  entries = record { domains = h; tasks = tt; sems = tt; queues = tt; regions = tt };
  registered = tt;
  within = λ i. none_at i;
  spent = λ i. inl refl;
  fine = λ q. record { idle = inl refl; full = inl refl };
  unit = record { power = u; whole = tt };
  quiet = λ h. refl;
  empty = λ h. tt;
  outside = λ h. refl;
}
  where
    none_at : (i : ℕ) → (at no_sem [] i).count ≤ (at no_sem [] i).max
    none_at zero = omega arith
    none_at (suc i) = omega arith

pub sound_fresh : (n : ℤ) (unit : ℕ) → Sound (fresh n unit).state
unfolding fresh
sound_fresh (negsuc k) unit = sound_empty 0 min_unit (omega arith) unit_one
sound_fresh (pos n) unit = go (leb n max_domains && unit_ok unit) refl
  where
    go : (b : Bool) → leb n max_domains && unit_ok unit ≡ b → Sound (fresh_by b n unit).state
    go true h = sound_empty n unit (leb-true n max_domains (and_left (leb n max_domains) (unit_ok unit) h)) (and_right (leb n max_domains) (unit_ok unit) h)
    go false h = sound_empty 0 min_unit (omega arith) unit_one

pub sound_close : (s : State) → Sound s → Sound (close s).state
unfolding close
sound_close s k = go s.fixed.closed refl
  where
    go : (b : Bool) → s.fixed.closed ≡ b → Sound (close_by b s).state
    go true o = k
    go false o = record {
      fit = record { waits = k.fit.waits; levels = k.fit.levels; sems = k.fit.sems; queues = k.fit.queues; regions = k.fit.regions };
      entries = record { domains = k.entries.domains; tasks = k.entries.tasks; sems = k.entries.sems; queues = k.entries.queues; regions = k.entries.regions };
      registered = rw (k.quiet o) tt;
      within = k.within;
      spent = k.spent;
      fine = k.fine;
      unit = record { power = k.unit.power; whole = k.unit.whole };
      quiet = λ h. absurd (no_both {b = true} refl h);
      empty = λ h. absurd (no_both {b = true} refl h);
      outside = λ h. absurd (no_both {b = true} refl h);
    }

-- ---- a refused entry or closing changes nothing
done_no : {X : Type 0} {e : Refusal} → ok ≡ error e → X
done_no h = absurd (let z : ◌≡◌ {A = ℕ} 0 1 = cc in omega arith)

pub enter_kept : (s : State) (i : Entry) (e : Refusal) → (enter s i).answer.code ≡ error e → (enter s i).state ≡ s
unfolding enter
enter_kept s i e h = go (check_entry s i) h
  where
    go : (o : Option Refusal) → (enter_by s i o).answer.code ≡ error e → (enter_by s i o).state ≡ s
    go (some x) q = refl
    go none q = done_no q

pub close_kept : (s : State) (e : Refusal) → (close s).answer.code ≡ error e → (close s).state ≡ s
unfolding close
close_kept s e h = go s.fixed.closed h
  where
    go : (b : Bool) → (close_by b s).answer.code ≡ error e → (close_by b s).state ≡ s
    go true q = refl
    go false q = done_no q
