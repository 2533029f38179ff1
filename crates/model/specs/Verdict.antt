-- The memory verdict (document 01). Definitions only.
use Rattle.std.specs.Prelude.{not, ℕ, ℤ}
use Rattle.std.proofs.Math.Option.{Option}
use Rattle.itron.specs.declared.error.Error.{Error as Refusal}
use Rattle.itron.specs.declared.error.Error.TheVariants.{Ctx as e_ctx, Id as e_id}
use Rattle.model.specs.State.{State}
use Rattle.model.specs.Answers.{refuse_if}
use Rattle.model.specs.Table.{owns_task}
use Rattle.model.specs.Regions.{judge}

-- first hit wins: table not closed E_CTX; domain not -1 and not 1 to n, the domains that a task can have, E_ID; then the area, its region and the wishes
unfoldable pub verdict : State → ℤ → ℕ → ℕ → ℕ → Option Refusal
verdict s d base size w =
    refuse_if (not s.fixed.closed) e_ctx
    (refuse_if (not (owns_task s.fixed.count d)) e_id
    (judge s.fixed.regions d base size w))
