-- The numbers of a command. Definitions only.
use Rattle.std.specs.Prelude.{◌≤◌}
use Rattle.command.specs.declared.shape.Shape.{Shape}

-- the most that any command takes of each
abbrev pub Small : Shape → Type 0
Small s = (s.signed ≤ 2) × (s.unsigned ≤ 4) × (s.optional ≤ 4)

-- the same, with the commands that hand out bytes
abbrev pub Wide : Shape → Type 0
Wide s = (s.signed ≤ 2) × (s.unsigned ≤ 6) × (s.optional ≤ 4)
