-- The most urgent along the order of arrival. Definitions only.
use Rattle.std.specs.Prelude.{ℕ, cond, ltb, suc, Option, Some, None}
use Rattle.tasks.specs.declared.lead.Lead.{Lead}

abbrev pub lead : ℕ → ℕ → Lead
lead i p = record { task = i; priority = p }

-- one who comes later leads only if it is more urgent
abbrev pub lead_of : Option Lead → Lead → Lead
lead_of None x = x
lead_of (Some a) x = cond (ltb x.priority a.priority) x a

-- the number of the one who leads, 0 if nobody does
abbrev pub leader : Option Lead → ℕ
leader None = 0
leader (Some a) = suc a.task
