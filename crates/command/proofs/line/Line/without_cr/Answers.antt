-- By the last byte. Assumes nothing.
use Rattle.std.proofs.Common.{rules, arith, ◌≡◌, ◌≤◌, ◌∙◌, sym, ap, length, length-take}
use Rattle.command.specs.Lines.{line_size, without_cr}
use Rattle.command.proofs.Walks.{cut_cr, cut_other, whole_cr, whole_other}
use Rattle.command.proofs.line.Line.without_cr.Goals as goal

pub returns-in-Some-clause-bytes : goal.returns-in-Some-clause-bytes
returns-in-Some-clause-bytes c =
    let s = c.args.self in
    let l = c.as_slice.result.now in
    let e = c.as_slice.ensures in
    let h = c.in-Some.ensures.cases in
    let m = length c.in-Some.before.now in
    let fits : m ≤ s.count = omega (arith, h.2, ap length e, length-take s.count s.bytes) in
    cut_cr s.bytes s.count m l e h.0 h.2 fits ∙ ap without_cr e

pub returns-in_default-clause-bytes : goal.returns-in_default-clause-bytes
returns-in_default-clause-bytes c =
    let e = c.as_slice.ensures in
    sym e ∙ cut_other c.as_slice.result.now c.in_default.ensures.cases ∙ ap without_cr e

pub returns-in-Some-clause-whole : goal.returns-in-Some-clause-whole
returns-in-Some-clause-whole c k =
    let h = c.in-Some.ensures.cases in
    let n : length c.args.self.bytes ≡ line_size = search rules in
    whole_cr c.args.self c.as_slice.result.now n k c.as_slice.ensures (length c.in-Some.before.now) h.0 h.2

pub returns-in_default-clause-whole : goal.returns-in_default-clause-whole
returns-in_default-clause-whole c k =
    let n : length c.args.self.bytes ≡ line_size = search rules in
    whole_other c.args.self c.as_slice.result.now n k c.as_slice.ensures c.in_default.ensures.cases
