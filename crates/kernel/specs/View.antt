-- What is seen of a state: the model's state that it stands for. Definitions only.
use Rattle.std.specs.Prelude.{length}
use Rattle.model.specs.State as Model
use Rattle.tasks.specs.View.{entries_of, waits_of}
use Rattle.levels.specs.View.{levels_of}
use Rattle.semaphore.specs.View.{sems_of}
use Rattle.dataqueue.specs.View.{queues_of}
use Rattle.regions.specs.View.{regions_of}
use Rattle.kernel.specs.declared.state.State.{State}

abbrev pub view_of : State → Model.State
view_of s =
    record {
      fixed = record { closed = s.closed; count = s.domains; unit = s.regions.unit; tasks = entries_of s.tasks; regions = regions_of s.regions };
      waits = waits_of s.tasks;
      sems = sems_of s.semaphores;
      queues = queues_of s.queues;
      levels = levels_of (length (entries_of s.tasks)) s.levels;
    }
