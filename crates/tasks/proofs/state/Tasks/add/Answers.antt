-- `Tasks::add` meets its contract. Assumes nothing.
use native.Mathlib.Omega.{arith}
use mir.Facts.{to_z-of_z}
use Rattle.model.specs.Table.{new_task}
use Rattle.tasks.proofs.Back.{count_seen}
use Rattle.tasks.proofs.Changes.{add_link, owner_byte}
use Rattle.tasks.proofs.state.Tasks.add.Goals as goal

pub bounds-self-self : goal.bounds-self-self
bounds-self-self c = let n = count_seen c.requires.0 in omega arith

pub returns : goal.returns
returns c =
    rw (to_z-of_z c.ranges.domain, to_z-of_z (owner_byte c.args.domain c.requires.3.0))
    (add_link c.requires.0 (new_task c.args.domain c.args.priority) c.requires.1 c.requires.2)
