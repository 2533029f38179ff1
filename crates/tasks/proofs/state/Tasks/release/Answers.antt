-- `Tasks::release` meets its contract. Assumes nothing.
use Rattle.tasks.proofs.Changes.{release_link}
use Rattle.tasks.proofs.state.Tasks.release.Goals as goal

pub returns : goal.returns
returns c =
    release_link c.requires.0 c.args.task c.with_wait.result c.without-self.result c.requires.1 c.with_wait.ensures c.without-self.ensures
