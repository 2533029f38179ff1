-- The one form in which the parts hold a model's state. Definitions only.
use Rattle.model.specs.State as Model
use Rattle.tasks.specs.Form.{tasks_as}
use Rattle.levels.specs.Form.{levels_as}
use Rattle.semaphore.specs.Form.{sems_as}
use Rattle.dataqueue.specs.Form.{queues_as}
use Rattle.regions.specs.Form.{regions_as}
use Rattle.kernel.specs.declared.state.State.{State}

abbrev pub state_of : Model.State → State
state_of m =
    record {
      domains = m.fixed.count;
      closed = m.fixed.closed;
      tasks = tasks_as m.fixed.tasks m.waits;
      levels = levels_as m.levels;
      semaphores = sems_as m.sems;
      queues = queues_as m.queues;
      regions = regions_as m.fixed.unit m.fixed.regions;
    }
