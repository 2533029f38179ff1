-- `State::add_queue` meets its contract. Assumes nothing.
use mathlib.Core.Path.{◌≡◌, refl, sym, ◌∙◌}
use mathlib.Core.Option.{none}
use lib.ListN.{length}
use Rattle.itron.specs.Limits.{max_queues}
use Rattle.model.specs.Table.{queue, check_entry}
use Rattle.model.proofs.Passed.{passed_none}
use Rattle.kernel.specs.View.{view_of}
use Rattle.kernel.specs.Inside.{with_queues}
use Rattle.kernel.proofs.Back.{queues_held}
use Rattle.kernel.proofs.Building.{refuses_entry, takes_entry, room_of, words_of_lem}
use Rattle.kernel.proofs.state.State.add_queue.Goals as goal
use Rattle.kernel.proofs.state.State.add_queue.Goals.{Else-is_err}

pub returns-then-is_err : goal.returns-then-is_err
returns-then-is_err c =
    let a = c.args in
    refuses_entry c.requires (queue a.given.domain a.given.attribute a.given.capacity a.given.vector) c.check_queue-checked.ensures (sym c.is_err.ensures.value ∙ c.if-is_err.true) c.enter.ensures

passes : (c : Else-is_err) → let a = c.args in check_entry (view_of a.self) (queue a.given.domain a.given.attribute a.given.capacity a.given.vector) ≡ none
passes c =
    let a = c.args in
    passed_none (check_entry (view_of a.self) (queue a.given.domain a.given.attribute a.given.capacity a.given.vector)) c.check_queue-checked.ensures (sym c.is_err.ensures.value ∙ c.if-is_err.false)

pub register-self-requires : goal.register-self-requires
register-self-requires c =
    let a = c.args in
    (queues_held c.requires, room_of (view_of a.self) (queue a.given.domain a.given.attribute a.given.capacity a.given.vector) (length (view_of a.self).queues) max_queues refl (passes c.before), words_of_lem (view_of a.self) a.given.domain a.given.attribute a.given.capacity a.given.vector (passes c.before))

pub returns : goal.returns
returns c =
    let a = c.args in
    let f = c.requires.form in
    let e = c.register-self.ensures in
    takes_entry c.requires (queue a.given.domain a.given.attribute a.given.capacity a.given.vector) (passes c.before.before.before) (λ i. with_queues (f i) (e i)) c.enter-2.ensures
