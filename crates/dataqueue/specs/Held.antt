-- What every function on the data queues asks of them and keeps. Definitions only.
use Rattle.std.specs.Prelude.{◌≤◌, ◌≡◌}
use Rattle.itron.specs.Limits.{max_queues}
use Rattle.model.specs.Conditions.{QueuesFit}
use Rattle.dataqueue.specs.declared.state.Queues.{Queues}
use Rattle.dataqueue.specs.View.{queues_of}
use Rattle.dataqueue.specs.Form.{queues_as}

-- the queues are the form of what is seen of them, within the limits; the last follows from these
pub record Held (q : Queues) : Type 0 where
  pub form : q ≡ queues_as (queues_of q)
  pub fit : QueuesFit (queues_of q)
  pub few : q.count ≤ max_queues
