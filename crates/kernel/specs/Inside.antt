-- What the kernel's private functions give; no promise cites it. Definitions only.
use Rattle.std.specs.Prelude.{ℕ, Bool, true, cond, not, ◌&&◌, ltb, ℤ, Option as Optional, Some, None, Result, Ok, Err as Refused}
use Rattle.std.proofs.Math.Option.{Option, none}
use Rattle.access.specs.Patterns.{admitted}
use Rattle.access.specs.Vectors.{pattern_of}
use Rattle.access.specs.declared.vector.Operation.{Operation}
use Rattle.itron.specs.Codes.{Code, ok, waiting, error, ok_number, number_of}
use Rattle.itron.specs.declared.error.Error.{Error as Refusal}
use Rattle.itron.specs.declared.error.Error.TheVariants.{Ctx as e_ctx, Noid as e_noid, Id as e_id, Oacv as e_oacv}
use Rattle.model.specs.Lists.{index}
use Rattle.model.specs.State as Model
use Rattle.model.specs.State.{running_at, no}
use Rattle.model.specs.Answers.{Out, plain, no_info, refuse_if}
use Rattle.model.specs.Acts.{Act}
use Rattle.model.specs.Rooms.{Room, ready, check}
use Rattle.model.specs.Checks.{checked}
use Rattle.model.specs.declared.check.Admitted.{Admitted}
use Rattle.model.specs.declared.check.Target.{Target}
use Rattle.tasks.specs.declared.state.Tasks.{Tasks}
use Rattle.tasks.specs.declared.wait.Caller.{Caller}
use Rattle.levels.specs.declared.state.Levels.{Levels}
use Rattle.levels.specs.Form.{levels_as}
use Rattle.semaphore.specs.declared.state.Semaphores.{Semaphores}
use Rattle.dataqueue.specs.declared.state.Queues.{Queues}
use Rattle.regions.specs.declared.state.Regions.{Regions}
use Rattle.kernel.specs.declared.state.State.{State}
use Rattle.kernel.specs.declared.state.Answer.{Answer}
use Rattle.kernel.specs.Answers.{answered}
use Rattle.kernel.specs.View.{view_of}

-- ---- the state with another part
abbrev pub with_tasks : State → Tasks → State
with_tasks s t = record { domains = s.domains; closed = s.closed; tasks = t; levels = s.levels; semaphores = s.semaphores; queues = s.queues; regions = s.regions }

abbrev pub with_levels : State → Levels → State
with_levels s x = record { domains = s.domains; closed = s.closed; tasks = s.tasks; levels = x; semaphores = s.semaphores; queues = s.queues; regions = s.regions }

abbrev pub with_semaphores : State → Semaphores → State
with_semaphores s x = record { domains = s.domains; closed = s.closed; tasks = s.tasks; levels = s.levels; semaphores = x; queues = s.queues; regions = s.regions }

abbrev pub with_queues : State → Queues → State
with_queues s x = record { domains = s.domains; closed = s.closed; tasks = s.tasks; levels = s.levels; semaphores = s.semaphores; queues = x; regions = s.regions }

abbrev pub with_regions : State → Regions → State
with_regions s x = record { domains = s.domains; closed = s.closed; tasks = s.tasks; levels = s.levels; semaphores = s.semaphores; queues = s.queues; regions = x }

abbrev pub shut : State → State
shut s = record { domains = s.domains; closed = true; tasks = s.tasks; levels = s.levels; semaphores = s.semaphores; queues = s.queues; regions = s.regions }

-- ---- the checks
-- a registered ready task of a closed table, with the domain as which it runs
abbrev pub caller_in : Model.State → ℕ → Optional Caller
caller_in m t = cond (m.fixed.closed && ready m t) (Some (record { task = index t; domain = running_at m t })) None

-- first hit wins: who calls, which object, and whether the caller's running domain is admitted
abbrev pub checked_by : Optional Caller → Operation → Result Target Refusal → Result Admitted Refusal
checked_by None o x = Refused e_ctx
checked_by (Some c) o (Refused e) = Refused e
checked_by (Some c) o (Ok x) = cond (admitted (pattern_of x.vector o) c.domain) (Ok (record { task = c.task; object = x.object })) (Refused e_oacv)

-- what the checks give for an act of task z on the object n
abbrev pub check_of : {C R : Type 0} → Room C R → State → ℤ → ℤ → Act C → Result Admitted Refusal
check_of r s z n a = checked (check r (view_of s) (no z) (no n) a) (no z) (no n)

-- a refusal by its code
abbrev pub coded : Result Admitted Refusal → Result Admitted ℤ
coded (Ok x) = Ok x
coded (Refused e) = Refused (number_of e)

-- ---- what a call on the caller's level gives: a refusal, or the levels after it
abbrev pub given_by : Code → Levels → Result Levels Refusal
given_by ok x = Ok x
given_by waiting x = Ok x
given_by (error e) x = Refused e

abbrev pub levels_given : Out → Result Levels Refusal
levels_given o = given_by o.answer.code (levels_as o.state.levels)

-- the answer that it makes; a refusal leaves the very state
abbrev pub levels_answered : State → Result Levels Refusal → Answer
levels_answered s (Ok x) = answered (plain ok_number 0) no_info (with_levels s x)
levels_answered s (Refused e) = answered (plain (number_of e) 0) no_info s

-- ---- steps 1 to 3 of an entry's checks
abbrev pub opening : Bool → ℕ → ℕ → Bool → Option Refusal
opening closed used most owned = refuse_if closed e_ctx (refuse_if (not (ltb used most)) e_noid (refuse_if (not owned) e_id none))
