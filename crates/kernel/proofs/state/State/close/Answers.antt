-- `State::close` meets its contract. Assumes nothing.
use mathlib.Core.Path.{◌∙◌}
use Rattle.kernel.proofs.Back.{enters_close}
use Rattle.kernel.proofs.Building.{close_again, close_once}
use Rattle.kernel.proofs.state.State.close.Goals as goal

pub returns-then-self : goal.returns-then-self
returns-then-self c = enters_close c.requires (c.enter.ensures ∙ close_again c.requires c.if-self.true)

pub returns : goal.returns
returns c = enters_close c.requires (c.enter-2.ensures ∙ close_once c.requires c.if-self.false)
