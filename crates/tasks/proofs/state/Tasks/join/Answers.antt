-- `Tasks::join` meets its contract. Assumes nothing.
use Rattle.tasks.proofs.Changes.{join_link, join_room}
use Rattle.tasks.proofs.state.Tasks.join.Goals as goal

pub push-requires : goal.push-requires
push-requires c = join_room c.requires.0 c.args.task c.requires.1

pub returns : goal.returns
returns c =
    let a = c.args in
    let p = c.requires in
    join_link p.0 a.task a.wait c.with_wait.result c.push.new.self p.1 p.2 c.with_wait.ensures c.push.ensures
