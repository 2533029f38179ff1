-- `Queues::queue` meets its contract. Assumes nothing.
use borrow.Author.Rules.{rules}
use mathlib.Core.Path.{◌≡◌, ap, ◌∙◌}
use mir.Syntax.{w32}
use mir.Val.{to_z, of_z}
use Rattle.dataqueue.specs.declared.state.Queue.{Queue}
use Rattle.dataqueue.specs.View.{queues_of}
use Rattle.dataqueue.proofs.Parts.{record_info, laid_info}
use Rattle.dataqueue.proofs.state.Queues.queue.Goals as goal

pub returns : goal.returns
returns c =
    let r = c.record_of-queue.result in
    let e : to_z w32 (of_z w32 r.domain) ≡ r.domain = search rules in
    rw e (ap (λ (q : Queue). record_info q) c.record_of-queue.ensures ∙ laid_info 0 (queues_of c.args.self) c.args.number)
