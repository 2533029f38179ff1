-- `host_run` meets its contract. Assumes nothing.
use Rattle.host.proofs.Tables.{hosted}
use Rattle.host.proofs.host_run.Goals as goal

pub returns : goal.returns
returns c = hosted c.closed.ensures.1 c.run-ran.ensures
