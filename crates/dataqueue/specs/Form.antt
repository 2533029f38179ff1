-- The one form in which the arrays hold the data queues: parts one behind the other, unused cells zero. Definitions only.
use Rattle.std.specs.Prelude.{ℕ, ◌+◌, List, [], ◌∷◌, ◌++◌, pos, length}
use Rattle.arrays.specs.Pad.{pad}
use Rattle.itron.specs.Limits.{max_queues, max_words}
use Rattle.model.specs.State as Model
use Rattle.model.specs.State.{zero_vector}
use Rattle.dataqueue.specs.declared.state.Queue.{Queue}
use Rattle.dataqueue.specs.declared.state.Queues.{Queues}

-- what an unused cell holds
abbrev pub no_record : Queue
no_record = record { domain = pos 0; attribute = 0; first = 0; len = 0; capacity = 0; vector = zero_vector }

-- the record of a queue whose part of the words starts at f
abbrev pub record_of : Model.Queue → ℕ → Queue
record_of q f = record { domain = q.domain; attribute = q.attribute; first = f; len = length q.buffer; capacity = q.capacity; vector = q.vector }

-- the records, with the parts from f on
abbrev pub laid : ℕ → List Model.Queue → List Queue
laid f [] = []
laid f (q ∷ qs) = record_of q f ∷ laid (f + q.capacity) qs

-- the words: each part has the buffered ones, the oldest first, then zeros
abbrev pub spread : List Model.Queue → List ℕ
spread [] = []
spread (q ∷ qs) = pad q.capacity 0 q.buffer ++ spread qs

unfoldable pub queues_as : List Model.Queue → Queues
queues_as qs = record { count = length qs; records = pad max_queues no_record (laid 0 qs); words = pad max_words 0 (spread qs) }
