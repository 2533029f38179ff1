-- Building the table (document 01): which entry is taken and which code another gets, and what an entry or the closing changes. Plain facts only.
use mathlib.Core.Logic.{◌⊎◌}
use mathlib.Core.Path.{◌≡◌, refl, sym, ap, ◌∙◌, subst}
use mathlib.Core.Bool.{Bool, true, false, not, ◌&&◌}
use mathlib.Core.List.{List, [], ◌∷◌, ◌++◌}
use mathlib.Core.Option.{Option, none, some}
use Prim.Native.Nat.{ℕ, zero, suc, ◌+◌, ◌≤◌, ◌<◌, ◌∣◌}
use native.Mathlib.Omega.{arith}
use native.Mathlib.Numerals.{add-one}
use lib.Dec.{leb}
use lib.ListN.{length, length-append}
use lib.IntN.{ℤ, pos, negsuc}
use Rattle.access.specs.Vectors.{resolved}
use Rattle.access.specs.Vectors.{Choice}
use Rattle.itron.specs.Codes.{ok, error}
use Rattle.itron.specs.declared.error.Error.{Error as Refusal}
use Rattle.itron.specs.declared.error.Error.TheVariants.{Ctx as e_ctx, Id as e_id, Noid as e_noid, Rsatr as e_rsatr, Par as e_par, Obj as e_obj, Nomem as e_nomem}
use Rattle.itron.specs.Limits.{max_domains, max_tasks, max_priority, max_semaphores, max_queues, max_regions, max_count, max_capacity, max_words, address_end}
use Rattle.model.specs.Lists.{at}
use Rattle.model.specs.State.{TaskEntry, Sem, Queue, Region, State, no_task, no_sem, no_queue, no_region}
use Rattle.model.specs.Answers.{Out, refuse_if}
use Rattle.model.specs.Queues.{words_used}
use Rattle.model.specs.Regions.{last_end, place_ok}
use Rattle.model.specs.Conditions.{TaskOwner, Owner, RegionAttribute}
use Rattle.model.specs.Units.{unit_ok}
use Rattle.model.specs.Table.{Entry, task, sem, queue, region, owns, owns_task, Tests, tests_of, check_entry, enter_by, enter, fresh_by, fresh, close_by, close}
use Rattle.model.proofs.Tests.{Tells, holds, fails, le_tells, lt_tells, eq_tells, always_tells, never_tells, and_tells, or_tells, not_tells, passes_on, stops_at}
use Rattle.model.proofs.Units.{IsUnit, unit_tells, region_numbers_tells}

-- ---- what the checks ask; whose an entry may be and a region's attributes are in Conditions
-- "1 <= max <= 65,535 and 0 <= start <= max"; "region size at least 1 and base + size at most 2^32", both multiples of the unit
abbrev pub Counts : ℕ → ℕ → Type 0
Counts start max = ((1 ≤ max) × (max ≤ max_count)) × (start ≤ max)

abbrev pub Area : ℕ → ℕ → ℕ → Type 0
Area unit base size = ((1 ≤ size) × (base + size ≤ address_end)) × ((unit ∣ base) × (unit ∣ size))

-- "region starting below the end of the region entered before it"
abbrev pub Above : List Region → ℕ → Type 0
Above rs base = (l : List Region) (r : Region) → rs ≡ l ++ (r ∷ []) → r.base + r.size ≤ base

-- queue words above their limit in total
abbrev pub capacities : List Queue → ℕ
capacities [] = 0
capacities (q ∷ l) = q.capacity + capacities l

-- the facts that each check asks of an entry, by its kind
pub record Facts : Type 1 where
  pub room : Type 0
  pub owned : Type 0
  pub attribute : Type 0
  pub numbers : Type 0
  pub above : Type 0
  pub memory : Type 0

abbrev pub facts : State → Entry → Facts
facts s (task d p) = record { room = length s.fixed.tasks < max_tasks; owned = TaskOwner s.fixed.count d; attribute = Unit; numbers = (1 ≤ p) × (p ≤ max_priority); above = Unit; memory = Unit }
facts s (sem d a b m v) = record { room = length s.sems < max_semaphores; owned = Owner s.fixed.count d; attribute = (a ≡ 0) ⊎ (a ≡ 1); numbers = Counts b m; above = Unit; memory = Unit }
facts s (queue d a c v) = record { room = length s.queues < max_queues; owned = Owner s.fixed.count d; attribute = (a ≡ 0) ⊎ (a ≡ 1); numbers = c ≤ max_capacity; above = Unit; memory = capacities s.queues + c ≤ max_words }
facts s (region d a b z v) =
    record { room = length s.fixed.regions < max_regions; owned = Owner s.fixed.count d; attribute = RegionAttribute a; numbers = Area s.fixed.unit b z; above = Above s.fixed.regions b; memory = Unit }

-- ---- the tests tell these facts
owner_tells : (n : ℕ) (d : ℤ) → Tells (owns n d) (Owner n d)
owner_tells n (pos d) = and_tells (not_tells (eq_tells d 0)) (le_tells d n)
owner_tells n (negsuc zero) = always_tells
owner_tells n (negsuc (suc zero)) = always_tells
owner_tells n (negsuc (suc (suc k))) = never_tells

task_owner_tells : (n : ℕ) (d : ℤ) → Tells (owns_task n d) (TaskOwner n d)
task_owner_tells n (pos d) = and_tells (not_tells (eq_tells d 0)) (le_tells d n)
task_owner_tells n (negsuc zero) = always_tells
task_owner_tells n (negsuc (suc k)) = never_tells

last_end_lem : (l : List Region) (r : Region) → last_end (l ++ (r ∷ [])) ≡ r.base + r.size
last_end_lem [] r = refl
last_end_lem (x ∷ []) r = refl
last_end_lem (x ∷ (y ∷ l)) r = last_end_lem (y ∷ l) r

above_tells : (rs : List Region) (b : ℕ) → Tells (place_ok rs b) (Above rs b)
above_tells rs b = record {
  yes = λ h l r e. let k = (le_tells (last_end rs) b).yes h in omega (arith, k, ap last_end e ∙ last_end_lem l r);
  no = λ h f. (le_tells (last_end rs) b).no h (go rs f);
}
  where
    go : (rs : List Region) → ((l : List Region) (r : Region) → rs ≡ l ++ (r ∷ []) → r.base + r.size ≤ b) → last_end rs ≤ b
    go [] f = omega arith
    go (x ∷ []) f = f [] x refl
    go (x ∷ (y ∷ rs)) f = go (y ∷ rs) (λ l r e. f (x ∷ l) r (ap (λ (m : List Region). x ∷ m) e))

used_is : (l : List Queue) → words_used l ≡ capacities l
used_is [] = refl
used_is (q ∷ l) = ap (λ (n : ℕ). q.capacity + n) (used_is l)

pub record Told (t : Tests) (f : Facts) : Type 0 where
  pub room : Tells t.has_room f.room
  pub owned : Tells t.domain_ok f.owned
  pub attribute : Tells t.attribute_ok f.attribute
  pub numbers : Tells t.numbers_ok f.numbers
  pub above : Tells t.place_ok f.above
  pub memory : Tells t.memory_ok f.memory

pub told : (s : State) (e : Entry) → Told (tests_of s e) (facts s e)
told s (task d p) = record { room = lt_tells _ max_tasks; owned = task_owner_tells s.fixed.count d; attribute = always_tells; numbers = and_tells (le_tells 1 p) (le_tells p max_priority); above = always_tells; memory = always_tells }
told s (sem d a b m v) =
    record {
      room = lt_tells _ max_semaphores;
      owned = owner_tells s.fixed.count d;
      attribute = or_tells (eq_tells a 0) (eq_tells a 1);
      numbers = and_tells (and_tells (le_tells 1 m) (le_tells m max_count)) (le_tells b m);
      above = always_tells;
      memory = always_tells;
    }
told s (queue d a c v) =
    record {
      room = lt_tells _ max_queues;
      owned = owner_tells s.fixed.count d;
      attribute = or_tells (eq_tells a 0) (eq_tells a 1);
      numbers = le_tells c max_capacity;
      above = always_tells;
      memory = rw (used_is s.queues) (le_tells (capacities s.queues + c) max_words);
    }
told s (region d a b z v) =
    record {
      room = lt_tells _ max_regions;
      owned = owner_tells s.fixed.count d;
      attribute = or_tells (or_tells (or_tells (eq_tells a 0) (eq_tells a 1)) (eq_tells a 4)) (eq_tells a 5);
      numbers = region_numbers_tells s.fixed.unit b z;
      above = above_tells s.fixed.regions b;
      memory = always_tells;
    }

-- ---- first hit wins
module _ (s : State) (e : Entry) where
  by_check : (o : Option Refusal) → check_entry s e ≡ o → enter s e ≡ enter_by s e o
  unfolding enter
  by_check o h = ap (enter_by s e) h

  code_by : (x : Refusal) → check_entry s e ≡ some x → (enter s e).answer.code ≡ error x
  code_by x h = ap (λ (o : Out). o.answer.code) (by_check (some x) h)

  -- what is left to check after each check
  abbrev after_place : Option Refusal
  after_place = refuse_if (not (tests_of s e).memory_ok) e_nomem none

  abbrev after_numbers : Option Refusal
  after_numbers = refuse_if (not (tests_of s e).place_ok) e_obj after_place

  abbrev after_attribute : Option Refusal
  after_attribute = refuse_if (not (tests_of s e).numbers_ok) e_par after_numbers

  abbrev after_domain : Option Refusal
  after_domain = refuse_if (not (tests_of s e).attribute_ok) e_rsatr after_attribute

  abbrev after_room : Option Refusal
  after_room = refuse_if (not (tests_of s e).domain_ok) e_id after_domain

  abbrev after_closed : Option Refusal
  after_closed = refuse_if (not (tests_of s e).has_room) e_noid after_room

  -- "table already closed: E_CTX"
  pub enter_ctx : s.fixed.closed ≡ true → (enter s e).answer.code ≡ error e_ctx
  enter_ctx h = code_by e_ctx (ap (λ (b : Bool). refuse_if b e_ctx after_closed) h)

  module _ (o : s.fixed.closed ≡ false) where
    past_ctx : check_entry s e ≡ after_closed
    past_ctx = ap (λ (b : Bool). refuse_if b e_ctx after_closed) o

    -- "kind full: E_NOID"
    pub enter_noid : ((facts s e).room → ⊥) → (enter s e).answer.code ≡ error e_noid
    enter_noid f = code_by e_noid (past_ctx ∙ stops_at (told s e).room e_noid after_room f)

    module _ (r : (facts s e).room) where
      past_noid : check_entry s e ≡ after_room
      past_noid = past_ctx ∙ passes_on (told s e).room e_noid after_room r

      -- "domain not -1, not -2 and not 1 to n, or -2 for a task: E_ID"
      pub enter_id : ((facts s e).owned → ⊥) → (enter s e).answer.code ≡ error e_id
      enter_id f = code_by e_id (past_noid ∙ stops_at (told s e).owned e_id after_domain f)

      module _ (w : (facts s e).owned) where
        past_id : check_entry s e ≡ after_domain
        past_id = past_noid ∙ passes_on (told s e).owned e_id after_domain w

        -- "attribute: E_RSATR"
        pub enter_rsatr : ((facts s e).attribute → ⊥) → (enter s e).answer.code ≡ error e_rsatr
        enter_rsatr f = code_by e_rsatr (past_id ∙ stops_at (told s e).attribute e_rsatr after_attribute f)

        module _ (a : (facts s e).attribute) where
          past_rsatr : check_entry s e ≡ after_attribute
          past_rsatr = past_id ∙ passes_on (told s e).attribute e_rsatr after_attribute a

          -- "numbers: E_PAR"
          pub enter_par : ((facts s e).numbers → ⊥) → (enter s e).answer.code ≡ error e_par
          enter_par f = code_by e_par (past_rsatr ∙ stops_at (told s e).numbers e_par after_numbers f)

          module _ (n : (facts s e).numbers) where
            past_par : check_entry s e ≡ after_numbers
            past_par = past_rsatr ∙ passes_on (told s e).numbers e_par after_numbers n

            -- "region starting below the end of the region entered before it: E_OBJ"
            pub enter_obj : ((facts s e).above → ⊥) → (enter s e).answer.code ≡ error e_obj
            enter_obj f = code_by e_obj (past_par ∙ stops_at (told s e).above e_obj after_place f)

            module _ (u : (facts s e).above) where
              past_obj : check_entry s e ≡ after_place
              past_obj = past_par ∙ passes_on (told s e).above e_obj after_place u

              -- queue words above their limit in total: E_NOMEM
              pub enter_nomem : ((facts s e).memory → ⊥) → (enter s e).answer.code ≡ error e_nomem
              enter_nomem f = code_by e_nomem (past_obj ∙ stops_at (told s e).memory e_nomem none f)

              taken_by : (facts s e).memory → enter s e ≡ enter_by s e none
              taken_by m = by_check none (past_obj ∙ passes_on (told s e).memory e_nomem none m)

-- ---- what is taken
pub record Fits (s : State) (e : Entry) : Type 0 where
  pub opened : s.fixed.closed ≡ false
  pub room : (facts s e).room
  pub owned : (facts s e).owned
  pub attribute : (facts s e).attribute
  pub numbers : (facts s e).numbers
  pub above : (facts s e).above
  pub memory : (facts s e).memory

taken : (s : State) (e : Entry) → Fits s e → enter s e ≡ enter_by s e none
taken s e f = taken_by s e f.opened f.room f.owned f.attribute f.numbers f.above f.memory

-- "Whatever is taken answers E_OK"
pub enter_ok : (s : State) (e : Entry) → Fits s e → (enter s e).answer.code ≡ ok
enter_ok s e f = ap (λ (o : Out). o.answer.code) (taken s e f)

-- "an entry is kept as given, last of its kind": the list l' is l and one more
pub record OneMore {A : Type 0} (d : A) (l l' : List A) (x : A) : Type 0 where
  pub last : at d l' (suc (length l)) ≡ x
  pub kept : (i : ℕ) → i ≤ length l → at d l' i ≡ at d l i
  pub more : length l' ≡ suc (length l)

module _ {A : Type 0} where
  snoc_last : (d : A) (l : List A) (x : A) → at d (l ++ (x ∷ [])) (suc (length l)) ≡ x
  snoc_last d [] x = refl
  snoc_last d (y ∷ l) x = snoc_last d l x

  snoc_kept : (d : A) (l : List A) (x : A) (i : ℕ) → i ≤ length l → at d (l ++ (x ∷ [])) i ≡ at d l i
  snoc_kept d l x zero h = refl
  snoc_kept d [] x (suc i) h = absurd (omega arith)
  snoc_kept d (y ∷ l) x (suc zero) h = refl
  snoc_kept d (y ∷ l) x (suc (suc i)) h = snoc_kept d l x (suc i) (omega arith)

  one_more : (d : A) (l : List A) (x : A) → OneMore d l (l ++ (x ∷ [])) x
  one_more d l x = record { last = snoc_last d l x; kept = snoc_kept d l x; more = length-append l (x ∷ []) ∙ add-one (length l) }

-- "and nothing else changes"
pub record TaskEntered (s s' : State) (x : TaskEntry) : Type 0 where
  pub tasks : OneMore no_task s.fixed.tasks s'.fixed.tasks x
  pub closed : s'.fixed.closed ≡ s.fixed.closed
  pub count : s'.fixed.count ≡ s.fixed.count
  pub unit : s'.fixed.unit ≡ s.fixed.unit
  pub regions : s'.fixed.regions ≡ s.fixed.regions
  pub waits : s'.waits ≡ s.waits
  pub sems : s'.sems ≡ s.sems
  pub queues : s'.queues ≡ s.queues
  -- its level is "0 at first" (request T-03), and no other changes
  pub levels : s'.levels ≡ s.levels ++ (0 ∷ [])

pub task_entered : (s : State) (d : ℤ) (p : ℕ) → Fits s (task d p) → TaskEntered s (enter s (task d p)).state (record { domain = d; priority = p })
task_entered s d p f = subst (λ (o : Out). TaskEntered s o.state (record { domain = d; priority = p })) (sym (taken s (task d p) f))
    (record { tasks = one_more no_task s.fixed.tasks _; closed = refl; count = refl; unit = refl; regions = refl; waits = refl; sems = refl; queues = refl; levels = refl })

-- "semaphores at their start count"
pub record SemEntered (s s' : State) (x : Sem) : Type 0 where
  pub sems : OneMore no_sem s.sems s'.sems x
  pub fixed : s'.fixed ≡ s.fixed
  pub waits : s'.waits ≡ s.waits
  pub queues : s'.queues ≡ s.queues
  pub levels : s'.levels ≡ s.levels

pub sem_entered : (s : State) (d : ℤ) (a start max : ℕ) (v : Choice) → Fits s (sem d a start max v)
    → SemEntered s (enter s (sem d a start max v)).state (record { domain = d; attribute = a; max = max; count = start; vector = resolved d v })
sem_entered s d a start max v f = subst (λ (o : Out). SemEntered s o.state (record { domain = d; attribute = a; max = max; count = start; vector = resolved d v })) (sym (taken s (sem d a start max v) f))
    (record { sems = one_more no_sem s.sems _; fixed = refl; waits = refl; queues = refl; levels = refl })

-- "queues empty"
pub record QueueEntered (s s' : State) (x : Queue) : Type 0 where
  pub queues : OneMore no_queue s.queues s'.queues x
  pub fixed : s'.fixed ≡ s.fixed
  pub waits : s'.waits ≡ s.waits
  pub sems : s'.sems ≡ s.sems
  pub levels : s'.levels ≡ s.levels

pub queue_entered : (s : State) (d : ℤ) (a c : ℕ) (v : Choice) → Fits s (queue d a c v)
    → QueueEntered s (enter s (queue d a c v)).state (record { domain = d; attribute = a; capacity = c; buffer = []; vector = resolved d v })
queue_entered s d a c v f = subst (λ (o : Out). QueueEntered s o.state (record { domain = d; attribute = a; capacity = c; buffer = []; vector = resolved d v })) (sym (taken s (queue d a c v) f))
    (record { queues = one_more no_queue s.queues _; fixed = refl; waits = refl; sems = refl; levels = refl })

pub record RegionEntered (s s' : State) (x : Region) : Type 0 where
  pub regions : OneMore no_region s.fixed.regions s'.fixed.regions x
  pub closed : s'.fixed.closed ≡ s.fixed.closed
  pub count : s'.fixed.count ≡ s.fixed.count
  pub unit : s'.fixed.unit ≡ s.fixed.unit
  pub tasks : s'.fixed.tasks ≡ s.fixed.tasks
  pub waits : s'.waits ≡ s.waits
  pub sems : s'.sems ≡ s.sems
  pub queues : s'.queues ≡ s.queues
  pub levels : s'.levels ≡ s.levels

pub region_entered : (s : State) (d : ℤ) (a b z : ℕ) (v : Choice) → Fits s (region d a b z v)
    → RegionEntered s (enter s (region d a b z v)).state (record { domain = d; attribute = a; base = b; size = z; vector = resolved d v })
region_entered s d a b z v f = subst (λ (o : Out). RegionEntered s o.state (record { domain = d; attribute = a; base = b; size = z; vector = resolved d v })) (sym (taken s (region d a b z v) f))
    (record { regions = one_more no_region s.fixed.regions _; closed = refl; count = refl; unit = refl; tasks = refl; waits = refl; sems = refl; queues = refl; levels = refl })

-- ---- "closing only closes"
pub record Closed (s s' : State) : Type 0 where
  pub closed : s'.fixed.closed ≡ true
  pub count : s'.fixed.count ≡ s.fixed.count
  pub unit : s'.fixed.unit ≡ s.fixed.unit
  pub tasks : s'.fixed.tasks ≡ s.fixed.tasks
  pub regions : s'.fixed.regions ≡ s.fixed.regions
  pub waits : s'.waits ≡ s.waits
  pub sems : s'.sems ≡ s.sems
  pub queues : s'.queues ≡ s.queues
  pub levels : s'.levels ≡ s.levels

pub close_only : (s : State) → s.fixed.closed ≡ false → ((close s).answer.code ≡ ok) × Closed s (close s).state
unfolding close
close_only s h = subst (λ (b : Bool). ((close_by b s).answer.code ≡ ok) × Closed s (close_by b s).state) (sym h)
    (refl, record { closed = refl; count = refl; unit = refl; tasks = refl; regions = refl; waits = refl; sems = refl; queues = refl; levels = refl })

-- "closing it again too: E_CTX"
pub close_again : (s : State) → s.fixed.closed ≡ true → (close s).answer.code ≡ error e_ctx
unfolding close
close_again s h = ap (λ (b : Bool). (close_by b s).answer.code) h

-- ---- "The fresh state takes a unit size"; "a bad n or unit is E_PAR with the empty state for n = 0 and unit 1"
pub record Empty (s : State) (n u : ℕ) : Type 0 where
  pub closed : s.fixed.closed ≡ false
  pub count : s.fixed.count ≡ n
  pub unit : s.fixed.unit ≡ u
  pub tasks : s.fixed.tasks ≡ []
  pub regions : s.fixed.regions ≡ []
  pub waits : s.waits ≡ []
  pub sems : s.sems ≡ []
  pub queues : s.queues ≡ []
  pub levels : s.levels ≡ []

module _ (n unit : ℕ) where
  fresh_tells : Tells (leb n max_domains && unit_ok unit) ((n ≤ max_domains) × IsUnit unit)
  fresh_tells = and_tells (le_tells n max_domains) (unit_tells unit)

  pub fresh_takes : n ≤ max_domains → IsUnit unit → ((fresh (pos n) unit).answer.code ≡ ok) × Empty (fresh (pos n) unit).state n unit
  unfolding fresh
  fresh_takes h u = subst (λ (b : Bool). ((fresh_by b n unit).answer.code ≡ ok) × Empty (fresh_by b n unit).state n unit) (sym (holds fresh_tells (h, u)))
      (refl, record { closed = refl; count = refl; unit = refl; tasks = refl; regions = refl; waits = refl; sems = refl; queues = refl; levels = refl })

  bad : ((n ≤ max_domains) × IsUnit unit → ⊥) → ((fresh (pos n) unit).answer.code ≡ error e_par) × Empty (fresh (pos n) unit).state 0 1
  unfolding fresh
  bad f = subst (λ (b : Bool). ((fresh_by b n unit).answer.code ≡ error e_par) × Empty (fresh_by b n unit).state 0 1) (sym (fails fresh_tells f))
      (refl, record { closed = refl; count = refl; unit = refl; tasks = refl; regions = refl; waits = refl; sems = refl; queues = refl; levels = refl })

  pub fresh_above : max_domains < n → ((fresh (pos n) unit).answer.code ≡ error e_par) × Empty (fresh (pos n) unit).state 0 1
  fresh_above h = bad (λ p. omega (arith, p.0))

  pub fresh_unit : (IsUnit unit → ⊥) → ((fresh (pos n) unit).answer.code ≡ error e_par) × Empty (fresh (pos n) unit).state 0 1
  fresh_unit f = bad (λ p. f p.1)

pub fresh_below : (k unit : ℕ) → ((fresh (negsuc k) unit).answer.code ≡ error e_par) × Empty (fresh (negsuc k) unit).state 0 1
unfolding fresh
fresh_below k unit = (refl, record { closed = refl; count = refl; unit = refl; tasks = refl; regions = refl; waits = refl; sems = refl; queues = refl; levels = refl })
