-- `State::on_level` meets its contract. Assumes nothing.
use mir.Facts.{to_z-of_z}
use Rattle.kernel.proofs.Levels.{on_levels}
use Rattle.kernel.proofs.state.State.on_level.Goals as goal

pub returns : goal.returns
returns c =
    on_levels c.requires c.args.caller c.args.asked (rw (to_z-of_z c.ranges.caller) at c.level_effect.ensures) c.with_levels.ensures
