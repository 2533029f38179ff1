-- `regions::search::find` meets its contract. The invariant: a round halves what is left, and what is left decides. Assumes nothing.
use Rattle.regions.proofs.Halving.{Halved}
use Rattle.regions.proofs.search.find.Given as goal

abbrev pub invariant-loop : goal.invariant-loop
invariant-loop l = Halved l.bases l.sizes l.count l.address l.first l.half l.counter
