-- What is seen of the levels: those of so many tasks. Definitions only.
use Rattle.std.specs.Prelude.{ℕ, List, take}
use Rattle.levels.specs.declared.state.Levels.{Levels}

unfoldable pub levels_of : ℕ → Levels → List ℕ
levels_of n x = take n x.entries
