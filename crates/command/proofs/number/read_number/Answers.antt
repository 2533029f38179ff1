-- By how the text begins. Assumes nothing.
use Rattle.std.proofs.Common.{◌∙◌, sym, ap, rules, ◌<◌, Err}
use Rattle.std.proofs.lemmas.Result.{err_from_is_err_and}
use Rattle.command.specs.Numbers.{plain_end, plain_of, minus_of}
use Rattle.command.proofs.Digits.{number_minus, number_hex, number_plain, plain_value, minus_value, numbered}
use Rattle.command.proofs.number.read_number.Goals as goal

pub returns-in_err-read_digits : goal.returns-in_err-read_digits
returns-in_err-read_digits c =
    let h = c.in-Some.ensures.cases in
    let p = err_from_is_err_and c.from_residual.result c.from_residual.ensures.1 in
    p.1 ∙ ap Err p.2
    ∙ sym (number_minus c.args.text.now c.in-Some.digits.now h.0 h.1 ∙ ap minus_of (sym c.read_digits.ensures ∙ c.in_err-read_digits.was))

pub returns-in_err-read_digits-2 : goal.returns-in_err-read_digits-2
returns-in_err-read_digits-2 c =
    let h = c.in-Some-strip_prefix.ensures.cases in
    let p = err_from_is_err_and c.from_residual-in_err-read_digits-2.result c.from_residual-in_err-read_digits-2.ensures.1 in
    p.1 ∙ ap Err p.2
    ∙ sym (number_hex c.args.text.now c.in-Some-strip_prefix.digits.now c.in_default.ensures.cases h.0 h.1 ∙ ap plain_of (sym c.read_digits-in-Some-strip_prefix.ensures ∙ c.in_err-read_digits-2.was))

pub returns-in_err-read_digits-3 : goal.returns-in_err-read_digits-3
returns-in_err-read_digits-3 c =
    let p = err_from_is_err_and c.from_residual-in_err-read_digits-3.result c.from_residual-in_err-read_digits-3.ensures.1 in
    p.1 ∙ ap Err p.2
    ∙ sym (number_plain c.args.text.now c.in_default.ensures.cases c.in_default-strip_prefix.ensures.cases ∙ ap plain_of (sym c.read_digits-in_default-strip_prefix.ensures ∙ c.in_err-read_digits-3.was))

pub returns-in_ok-read_digits : goal.returns-in_ok-read_digits
returns-in_ok-read_digits c =
    let h = c.in-Some.ensures.cases in
    let v = c.in_ok-read_digits.field-0 in
    let f : v < plain_end = search rules in
    ap numbered (minus_value v c.from.result c.from.ensures f)
    ∙ sym (number_minus c.args.text.now c.in-Some.digits.now h.0 h.1 ∙ ap minus_of (sym c.read_digits.ensures ∙ c.in_ok-read_digits.was))

pub returns-in_ok-read_digits-2 : goal.returns-in_ok-read_digits-2
returns-in_ok-read_digits-2 c =
    let h = c.in-Some-strip_prefix.ensures.cases in
    let v = c.in_ok-read_digits-2.field-0 in
    let f : v < plain_end = search rules in
    ap numbered (plain_value v c.from-in-Some-strip_prefix.result c.from-in-Some-strip_prefix.ensures f)
    ∙ sym (number_hex c.args.text.now c.in-Some-strip_prefix.digits.now c.in_default.ensures.cases h.0 h.1 ∙ ap plain_of (sym c.read_digits-in-Some-strip_prefix.ensures ∙ c.in_ok-read_digits-2.was))

pub returns-in_ok-read_digits-3 : goal.returns-in_ok-read_digits-3
returns-in_ok-read_digits-3 c =
    let v = c.in_ok-read_digits-3.field-0 in
    let f : v < plain_end = search rules in
    ap numbered (plain_value v c.from-in_default-strip_prefix.result c.from-in_default-strip_prefix.ensures f)
    ∙ sym (number_plain c.args.text.now c.in_default.ensures.cases c.in_default-strip_prefix.ensures.cases ∙ ap plain_of (sym c.read_digits-in_default-strip_prefix.ensures ∙ c.in_ok-read_digits-3.was))
