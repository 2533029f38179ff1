-- `State::ret_svc` meets its contract. Assumes nothing.
use mir.Facts.{to_z-of_z}
use Rattle.model.specs.declared.svc.ExtendedCall.TheVariants.{Leave}
use Rattle.kernel.proofs.Levels.{on_levels}
use Rattle.kernel.proofs.state.State.ret_svc.Goals as goal

pub returns : goal.returns
returns c =
    on_levels c.requires c.args.caller Leave (rw (to_z-of_z c.ranges.caller) at c.level_effect.ensures) c.with_levels.ensures
