-- `Regions::walk` meets its contract. The invariant: the area lies within the chain from the first region on if it does from the one before `next` on. Assumes nothing.
use Rattle.regions.specs.View.{regions_of}
use Rattle.regions.proofs.Chains.{Walked}
use Rattle.regions.proofs.state.Regions.walk.Given as goal

abbrev pub invariant-loop-next : goal.invariant-loop-next
invariant-loop-next l = Walked (regions_of l.self) l.index l.end l.region l.next
