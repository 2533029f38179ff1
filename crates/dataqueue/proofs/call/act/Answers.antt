-- `call::act` meets its contract. Assumes nothing.
use Rattle.dataqueue.proofs.call.act.Goals as goal

pub own-requires : goal.own-requires
own-requires c =
    let p = c.requires in
    (p.0, p.1, p.2.free c.in-Ok.admitted c.in-Ok.is, p.2.there c.in-Ok.admitted c.in-Ok.is)
