-- `closed` meets its contract: part by part. Assumes nothing.
use mathlib.Core.Path.{ap, ◌∙◌}
use lib.ListN.{take, drop}
use Rattle.model.specs.State.{State}
use Rattle.model.specs.Table.{close}
use Rattle.laws.specs.Starred.{entries, enter_all, bench}
use Rattle.bench_table.proofs.closed.Goals as goal

pub returns : goal.returns
unfolding bench
returns c =
    let p = c.close.ensures in
    let a = c.tasks.ensures.1 in
    let d = c.objects.ensures.1 ∙ ap (λ (m : State). enter_all m (take 3 (drop 4 entries))) a in
    let e = c.areas-s.ensures.1 ∙ ap (λ (m : State). enter_all m (drop 7 entries)) d in
    (p.valid, p.seen ∙ ap (λ (m : State). (close m).state) e)
