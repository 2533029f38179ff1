-- The one form in which the array holds the levels: 0 where there is no task. Definitions only.
use Rattle.std.specs.Prelude.{ℕ, List, set}
use Rattle.arrays.specs.Pad.{pad}
use Rattle.itron.specs.Limits.{max_tasks}
use Rattle.levels.specs.declared.state.Levels.{Levels}

unfoldable pub levels_as : List ℕ → Levels
levels_as ks = record { entries = pad max_tasks 0 ks }

-- the task with an index has another level
abbrev pub with_level : Levels → ℕ → ℕ → Levels
with_level x t k = record { entries = set x.entries t k }
