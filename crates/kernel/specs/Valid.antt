-- The one condition: what all states have in common (document 01, "What the core holds"). Definitions only.
use Rattle.std.specs.Prelude.{◌≡◌}
use Rattle.model.specs.Conditions.{Sound}
use Rattle.kernel.specs.declared.state.State.{State}
use Rattle.kernel.specs.View.{view_of}
use Rattle.kernel.specs.Form.{state_of}

-- the state is the form of what is seen of it, and that keeps the model's condition
pub record Valid (s : State) : Type 0 where
  pub form : s ≡ state_of (view_of s)
  pub sound : Sound (view_of s)
