-- `Tasks::len` meets its contract. Assumes nothing.
use Rattle.tasks.proofs.Back.{count_seen}
use Rattle.tasks.proofs.state.Tasks.len.Goals as goal

pub returns : goal.returns
returns c = count_seen c.requires
