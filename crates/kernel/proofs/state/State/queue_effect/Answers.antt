-- `State::queue_effect` meets its contract. Assumes nothing.
use mathlib.Core.Path.{◌≡◌, refl, sym, ap, ◌∙◌}
use mir.Facts.{to_z-of_z}
use Rattle.model.specs.State.{no}
use Rattle.model.specs.Acts.{clear}
use Rattle.model.specs.Queues.{slots, act_of, room}
use Rattle.model.proofs.Rooms.{own_same}
use Rattle.dataqueue.specs.Effects.{acted}
use Rattle.kernel.specs.View.{view_of}
use Rattle.kernel.specs.Inside.{caller_in, checked_by, check_of, coded}
use Rattle.kernel.proofs.Back.{tasks_held, queues_held}
use Rattle.kernel.proofs.Checks.{check_is, passes}
use Rattle.kernel.proofs.state.State.queue_effect.Goals as goal
use Rattle.kernel.proofs.state.State.queue_effect.Goals.{After-check-check, After-coded}

pub find-requires : goal.find-requires
find-requires c = queues_held c.requires

-- what the checks give is what the rules' checks give
checks : (c : After-check-check) → let a = c.args in check_of room a.self a.caller a.id (act_of a.request) ≡ c.check-check.result
checks c =
    let a = c.args in
    let m = view_of a.self in
    let o = c.operation.ensures in
    let f = rw (to_z-of_z c.ranges.id) at c.find.ensures in
    sym
    (rw (to_z-of_z c.ranges.caller) at c.check-check.ensures
    ∙ (λ i. checked_by (caller_in m (no a.caller)) (o i) (f i))
    ∙ check_is room m (no a.caller) (no a.id) (act_of a.request) (own_same clear (slots m.waits m.queues (no a.id)) (λ c. refl) (act_of a.request)))

-- the code of a refusal, as `act` takes it
found : (c : After-coded) → let a = c.args in c.coded.result ≡ coded (check_of room a.self a.caller a.id (act_of a.request))
found c = c.coded.ensures ∙ ap coded (sym (checks c.before))

pub act-requires : goal.act-requires
act-requires c = (tasks_held c.requires, queues_held c.requires, passes room c.args.self c.args.caller c.args.id (act_of c.args.request) (found c))

pub returns : goal.returns
returns c = let a = c.args in c.act.ensures ∙ ap (acted a.self.tasks a.self.queues (act_of a.request)) (found c.before)
