-- The order of arrival, on arrays. Definitions only.
use Rattle.std.specs.Prelude.{ℕ, ◌+◌, Bool, not, List, eqb, length, set, take}
use Rattle.arrays.specs.Pad.{pad}
use Rattle.itron.specs.Limits.{max_tasks}
use Rattle.model.specs.Lists.{keep}
use Rattle.tasks.specs.declared.order.Order.{Order}

abbrev pub order_of : List ℕ → Order
order_of l = record { entries = pad max_tasks 0 l; count = length l }

-- the indexes in an order
abbrev pub arrivals : Order → List ℕ
arrivals o = take o.count o.entries

-- one more, the last
abbrev pub pushed : Order → ℕ → Order
pushed o t = record { entries = set o.entries o.count t; count = o.count + 1 }

abbrev pub not_index : ℕ → ℕ → Bool
not_index t u = not (eqb t u)

-- a list without one number
abbrev pub without : ℕ → List ℕ → List ℕ
without t l = keep (not_index t) l
