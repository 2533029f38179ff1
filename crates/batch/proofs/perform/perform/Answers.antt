-- `perform::perform` meets its contract. Assumes nothing.
use Rattle.batch.proofs.Performs.{answer_small}
use Rattle.batch.proofs.perform.perform.Goals as goal

pub answered-requires : goal.answered-requires
answered-requires c = answer_small c.requires c.call.ensures
