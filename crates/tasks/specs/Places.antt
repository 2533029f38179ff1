-- Where a task waits. Definitions only.
use Rattle.std.specs.Prelude.{suc}
use Rattle.model.specs.State as Model
use Rattle.tasks.specs.declared.task.Place.{Place}

-- a place, by the number of its object
abbrev pub place_in : Place → Model.Place
place_in p = Model.place p.side (suc p.object)
