-- Extended service calls: a task enters a checked library routine, which runs as the kernel domain, and leaves it (request T-03). Definitions only.
use Rattle.std.specs.Prelude.{false, not, ◌&&◌, [], ℕ, suc, ◌-◌, eqb, leb}
use Rattle.std.proofs.Math.Option.{Option, none}
use Rattle.itron.specs.declared.error.Error.{Error as Refusal}
use Rattle.itron.specs.declared.error.Error.TheVariants.{Ctx as e_ctx, Sys as e_sys}
use Rattle.itron.specs.Limits.{max_level}
pub use Rattle.model.specs.declared.svc.ExtendedCall.{ExtendedCall}
pub use Rattle.model.specs.declared.svc.ExtendedCall.TheVariants.{Enter, Leave}
use Rattle.model.specs.Lists.{put}
use Rattle.model.specs.State.{State, set_levels, level_at}
use Rattle.model.specs.Answers.{Out, done, no_info, refuse_if}
use Rattle.model.specs.Rooms.{ready, Asks}

-- "entering at 255 is E_SYS, leaving at 0 is E_CTX"
abbrev pub level_check : ExtendedCall → ℕ → Option Refusal
level_check Enter k = refuse_if (leb max_level k) e_sys none
level_check Leave k = refuse_if (eqb k 0) e_ctx none

-- "Entering adds one, leaving takes one off"
abbrev pub level_after : ExtendedCall → ℕ → ℕ
level_after Enter k = suc k
level_after Leave k = k - 1

-- first hit wins: table not closed, or caller not a registered ready task: E_CTX; then the level
unfoldable pub check : State → ℕ → ExtendedCall → Option Refusal
check s t c = refuse_if (not (s.fixed.closed && ready s t)) e_ctx (level_check c (level_at s t))

-- then the caller has another level
abbrev pub act : State → ℕ → ExtendedCall → Out
act s t c = done (set_levels s (put s.levels t (level_after c (level_at s t))))

-- it is on no object: nobody begins to wait by it, and it serves nobody
abbrev pub of_level : ExtendedCall → Asks
of_level c =
    record {
      check = λ s t. check s t c;
      act = λ s t. act s t c;
      is_refer = false;
      told = λ s. no_info;
      begins = λ t. [];
      serves = λ k. none;
    }
