-- What is seen of the data queues: each with its buffered words. Definitions only.
use Rattle.std.specs.Prelude.{ℕ, List, map, length, take, drop}
use Rattle.model.specs.State as Model
use Rattle.dataqueue.specs.declared.state.Queue.{Queue}
use Rattle.dataqueue.specs.declared.state.Queues.{Queues}
use Rattle.dataqueue.specs.declared.state.QueueInfo.{QueueInfo}

-- a record with its words
abbrev pub queue_seen : List ℕ → Queue → Model.Queue
queue_seen ws q = record { domain = q.domain; attribute = q.attribute; capacity = q.capacity; buffer = take q.len (drop q.first ws); vector = q.vector }

unfoldable pub queues_of : Queues → List Model.Queue
queues_of q = map (queue_seen q.words) (take q.count q.records)

-- a queue but for its words
abbrev pub info_of : Model.Queue → QueueInfo
info_of q = record { domain = q.domain; attribute = q.attribute; capacity = q.capacity; count = length q.buffer; vector = q.vector }
