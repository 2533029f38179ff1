-- `Queues::find` meets its contract. Assumes nothing.
use native.Mathlib.Omega.{arith}
use mathlib.Core.Path.{◌≡◌, sym, ap, ◌∙◌}
use mathlib.Core.Logic.{◌≢◌}
use Prim.Native.Nat.{◌-◌}
use mir.Facts.{to_z-of_z}
use Rattle.std.specs.Prelude.{Some, None, Ok, Err as Refused}
use Rattle.std.proofs.lemmas.Result.{err_from_is_err_and}
use Rattle.access.specs.declared.vector.Vector.{Vector}
use Rattle.access.specs.Domains.{ordinal_of}
use Rattle.access.proofs.Ordinals.{numbered_none, numbered_some}
use Rattle.itron.specs.Limits.{max_queues}
use Rattle.itron.specs.declared.error.Error.TheVariants.{Id as e_id}
use Rattle.model.specs.Queues.{room}
use Rattle.model.proofs.Targets.{out_of_range, missing, found}
use Rattle.dataqueue.specs.View.{queues_of}
use Rattle.dataqueue.proofs.Links.{count_seen}
use Rattle.dataqueue.proofs.state.Queues.find.Goals as goal
use Rattle.dataqueue.proofs.state.Queues.find.Goals.{In_ok-ordinal}

pub returns-in_err-ordinal : goal.returns-in_err-ordinal
returns-in_err-ordinal c =
    let p = err_from_is_err_and c.from_residual.result c.from_residual.ensures.1 in
    let none : c.ordinal.result ≡ None = grind arith in
    let code : p.0 ≡ e_id = grind arith in
    p.1 ∙ ap Refused code ∙ out_of_range room (queues_of c.args.self) c.args.id (numbered_none _ (sym (rw (to_z-of_z c.ranges.id) at c.ordinal.ensures) ∙ none))

-- a number in the range
number : (c : In_ok-ordinal) → (c.in_ok-ordinal.ordinal ≡ ordinal_of c.args.id max_queues) × (c.in_ok-ordinal.ordinal ≢ 0)
number c =
    let some : c.ordinal.result ≡ Some c.in_ok-ordinal.ordinal = grind arith in
    numbered_some _ _ (sym (rw (to_z-of_z c.ranges.id) at c.ordinal.ensures) ∙ some)

pub returns-then-self-ordinal : goal.returns-then-self-ordinal
returns-then-self-ordinal c =
    let n = number c.before.before in
    missing room (queues_of c.args.self) c.args.id c.in_ok-ordinal.ordinal n.0 n.1 (omega (arith, count_seen c.requires, c.if-self-ordinal.true))

pub vector-vector-requires : goal.vector-vector-requires
vector-vector-requires c =
    let n = number c.before.before in
    (c.requires, omega (arith, count_seen c.requires, n.1, c.if-self-ordinal.false))

pub returns : goal.returns
returns c =
    let n = number c.before.before.before in
    ap (λ (v : Vector). Ok (record { object = c.in_ok-ordinal.ordinal - 1; vector = v })) c.vector-vector.ensures
    ∙ found room (queues_of c.args.self) c.args.id c.in_ok-ordinal.ordinal n.0 n.1 (omega (arith, count_seen c.requires, c.if-self-ordinal.false))
