-- `State::empty` meets its contract. Assumes nothing.
use Rattle.kernel.proofs.state.State.empty.Goals as goal

pub returns : goal.returns
returns c = cc
