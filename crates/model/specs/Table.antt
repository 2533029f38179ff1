-- Building the table: fresh, entries, closing (document 01, "Building the table"). Definitions only.
use Rattle.std.specs.Prelude.{Bool, true, false, not, ◌&&◌, [], ◌∷◌, ◌++◌, ℕ, zero, suc, length, eqb, ltb, leb, ℤ, pos, negsuc}
use Rattle.std.proofs.Math.Option.{Option, none, some}
use Rattle.access.specs.Vectors.{Choice}
use Rattle.itron.specs.declared.error.Error.{Error as Refusal}
use Rattle.itron.specs.declared.error.Error.TheVariants.{Ctx as e_ctx, Id as e_id, Noid as e_noid, Rsatr as e_rsatr, Par as e_par, Obj as e_obj, Nomem as e_nomem}
use Rattle.itron.specs.Limits.{max_domains, max_tasks, max_priority, max_semaphores, max_queues, max_regions, min_unit}
use Rattle.model.specs.State.{TaskEntry, State, state_with, set_fixed, set_sems, set_queues, set_levels, set_closed, set_tasks, set_regions}
use Rattle.model.specs.Answers.{Out, refuse, done, refuse_if}
use Rattle.model.specs.Semaphores as Semaphores
use Rattle.model.specs.Queues as Queues
use Rattle.model.specs.Units.{unit_ok}
use Rattle.model.specs.Regions as Regions

-- an entry of each kind, with its numbers as given, and the vector given or none
pub data Entry : Type 0 where
  task : (domain : ℤ) (priority : ℕ) → Entry
  sem : (domain : ℤ) (attribute start max : ℕ) → Choice → Entry
  queue : (domain : ℤ) (attribute capacity : ℕ) → Choice → Entry
  region : (domain : ℤ) (attribute base size : ℕ) → Choice → Entry

-- ---- whose an entry may be
abbrev pub is_user : ℕ → ℤ → Bool
is_user n (pos d) = not (eqb d 0) && leb d n
is_user n (negsuc k) = false

abbrev pub owns : ℕ → ℤ → Bool
owns n (pos d) = is_user n (pos d)
owns n (negsuc zero) = true
owns n (negsuc (suc zero)) = true
owns n (negsuc (suc (suc k))) = false

abbrev pub owns_task : ℕ → ℤ → Bool
owns_task n (pos d) = is_user n (pos d)
owns_task n (negsuc zero) = true
owns_task n (negsuc (suc k)) = false

-- ---- the checks of an entry, by its kind
pub record Tests : Type 0 where
  -- 2. kind full: E_NOID
  pub has_room : Bool
  -- 3. domain not -1, not -2 and not 1 to n, or -2 for a task: E_ID
  pub domain_ok : Bool
  -- 4. attribute: E_RSATR
  pub attribute_ok : Bool
  -- 5. numbers: E_PAR
  pub numbers_ok : Bool
  -- 6. region starting below the end of the region entered before it: E_OBJ
  pub place_ok : Bool
  -- 7. queue words above their limit in total: E_NOMEM
  pub memory_ok : Bool

-- a priority from 1 to its limit
abbrev pub priority_ok : ℕ → Bool
priority_ok p = leb 1 p && leb p max_priority

abbrev pub tests_of : State → Entry → Tests
tests_of s (task d p) = record { has_room = ltb (length s.fixed.tasks) max_tasks; domain_ok = owns_task s.fixed.count d; attribute_ok = true; numbers_ok = priority_ok p; place_ok = true; memory_ok = true }
tests_of s (sem d a b m v) = record { has_room = ltb (length s.sems) max_semaphores; domain_ok = owns s.fixed.count d; attribute_ok = Semaphores.attribute_ok a; numbers_ok = Semaphores.numbers_ok b m; place_ok = true; memory_ok = true }
tests_of s (queue d a c v) = record { has_room = ltb (length s.queues) max_queues; domain_ok = owns s.fixed.count d; attribute_ok = Queues.attribute_ok a; numbers_ok = Queues.numbers_ok c; place_ok = true; memory_ok = Queues.memory_ok s.queues c }
tests_of s (region d a b z v) =
    record {
      has_room = ltb (length s.fixed.regions) max_regions;
      domain_ok = owns s.fixed.count d;
      attribute_ok = Regions.attribute_ok a;
      numbers_ok = Regions.numbers_ok s.fixed.unit b z;
      place_ok = Regions.place_ok s.fixed.regions b;
      memory_ok = true;
    }

-- checks, first hit wins
abbrev pub check_entry : State → Entry → Option Refusal
check_entry s e =
    refuse_if s.fixed.closed e_ctx
    (refuse_if (not (tests_of s e).has_room) e_noid
    (refuse_if (not (tests_of s e).domain_ok) e_id
    (refuse_if (not (tests_of s e).attribute_ok) e_rsatr
    (refuse_if (not (tests_of s e).numbers_ok) e_par
    (refuse_if (not (tests_of s e).place_ok) e_obj
    (refuse_if (not (tests_of s e).memory_ok) e_nomem none))))))

-- ---- an entry is kept as given, last of its kind, the default vector resolved, a task at level 0, and nothing else changes
abbrev pub new_task : ℤ → ℕ → TaskEntry
new_task d p = record { domain = d; priority = p }

abbrev pub add : State → Entry → State
add s (task d p) = set_levels (set_fixed s (set_tasks s.fixed (s.fixed.tasks ++ (new_task d p ∷ [])))) (s.levels ++ (0 ∷ []))
add s (sem d a b m v) = set_sems s (s.sems ++ (Semaphores.new_sem d a b m v ∷ []))
add s (queue d a c v) = set_queues s (s.queues ++ (Queues.new_queue d a c v ∷ []))
add s (region d a b z v) = set_fixed s (set_regions s.fixed (s.fixed.regions ++ (Regions.new_region d a b z v ∷ [])))

-- one entry
abbrev pub enter_by : State → Entry → Option Refusal → Out
enter_by s e (some x) = refuse s x
enter_by s e none = done (add s e)

unfoldable pub enter : State → Entry → Out
enter s e = enter_by s e (check_entry s e)

-- ---- a fresh state takes n and a unit; n outside 0 to 32 or a bad unit is E_PAR and gives the empty open state for n = 0 and unit 1
abbrev pub empty_state : ℕ → ℕ → State
empty_state n unit = state_with (record { closed = false; count = n; unit = unit; tasks = []; regions = [] })

abbrev pub fresh_by : Bool → ℕ → ℕ → Out
fresh_by true n unit = done (empty_state n unit)
fresh_by false n unit = refuse (empty_state 0 min_unit) e_par

unfoldable pub fresh : ℤ → ℕ → Out
fresh (pos n) unit = fresh_by (leb n max_domains && unit_ok unit) n unit
fresh (negsuc k) unit = fresh_by false 0 unit

-- ---- closing only closes; closing again is E_CTX
abbrev pub shut : State → State
shut s = set_fixed s (set_closed s.fixed true)

abbrev pub close_by : Bool → State → Out
close_by true s = refuse s e_ctx
close_by false s = done (shut s)

unfoldable pub close : State → Out
close s = close_by s.fixed.closed s
