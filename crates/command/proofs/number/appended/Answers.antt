-- The value with one digit more, where it fits. Assumes nothing.
use Rattle.std.proofs.Common.{◌∙◌, ap, sym, ℕ, Option}
use Rattle.command.specs.Numbers.{more}
use Rattle.command.proofs.Digits.{more_none, more_is}
use Rattle.command.proofs.number.appended.Goals as goal

pub returns-in_err-value : goal.returns-in_err-value
returns-in_err-value c =
    let a = c.args in
    c.from_residual.ensures ∙ sym (ap (λ (o : Option ℕ). more a.radix o a.digit) c.in_err-value.was)

pub returns-in_err-checked_mul : goal.returns-in_err-checked_mul
returns-in_err-checked_mul c =
    let a = c.args in
    let v = c.in_ok-value.field-0 in
    c.from_residual-in_err-checked_mul.ensures ∙ more_none a.radix v a.digit c.in_err-checked_mul.ensures
    ∙ sym (ap (λ (o : Option ℕ). more a.radix o a.digit) c.in_ok-value.was)

pub returns : goal.returns
returns c =
    let a = c.args in
    let v = c.in_ok-value.field-0 in
    more_is a.radix v a.digit c.in_ok-checked_mul.field-0 c.checked_add.result c.in_ok-checked_mul.ensures.1 c.checked_add.ensures
    ∙ sym (ap (λ (o : Option ℕ). more a.radix o a.digit) c.in_ok-value.was)
