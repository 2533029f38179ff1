-- One digit after another. Assumes nothing.
use Rattle.std.proofs.Common.{◌∙◌, sym, ap, arith, ℕ, ◌≡◌, ◌+◌, length, drop, refl, Option, Err}
use Rattle.std.proofs.lemmas.Result.{err_from_is_err_and}
use Rattle.command.specs.Numbers.{more}
use Rattle.command.proofs.Digits.{magnitude_empty, magnitude_some, reading, reading_goes, reading_stops, reading_ends, reading_is, digit_read, digit_refused, more_fits}
use Rattle.command.proofs.number.read_digits.Goals as goal

pub returns-then-is_empty : goal.returns-then-is_empty
returns-then-is_empty c =
    let e : length c.args.text.now ≡ 0 = grind arith in
    sym (magnitude_empty c.args.radix c.args.text.now e)

pub loop-byte-init : goal.loop-byte-init
unfolding reading
loop-byte-init c = (refl, omega arith)

pub loop-byte-preserved : goal.loop-byte-preserved
loop-byte-preserved c =
    let t = c.args.text.now in
    let a = c.args.radix in
    let i = c.loop-byte.byte-index in
    let v = c.loop-byte.value in
    let d = digit_read c.to_digit.result c.from.result _ a c.in_ok-digit.digit c.from.ensures c.requires.upper_bound c.to_digit.ensures.value c.in_ok-digit.ensures.value in
    let e = ap (more a v) d.1 ∙ sym c.appended-value.ensures in (
      c.loop-byte.invariant.0 ∙ reading_goes t a v i c.loop-byte-test.true d.0 ∙ ap (λ (o : Option ℕ). reading a o (drop (i + 1) t)) e,
      rw c.appended-value.ensures (more_fits a c.in_ok-digit.digit v),
    )

pub returns-in_err-digit : goal.returns-in_err-digit
returns-in_err-digit c =
    let t = c.args.text.now in
    let a = c.args.radix in
    let p = err_from_is_err_and c.from_residual.result c.from_residual.ensures.1 in
    let d = digit_refused c.to_digit.result c.from.result _ a c.in_err-digit.field-0.0 c.from.ensures c.requires.upper_bound c.to_digit.ensures.value c.in_err-digit.ensures.value in
    let some : length t ≡ 0 → ⊥ = grind arith in
    p.1 ∙ ap Err (p.2 ∙ d.1)
    ∙ sym (magnitude_some a t some ∙ c.loop-byte.invariant.0 ∙ reading_stops t a c.loop-byte.value c.loop-byte.byte-index c.loop-byte-test.true d.0)

pub returns : goal.returns
returns c =
    let t = c.args.text.now in
    let a = c.args.radix in
    let v = c.loop-byte.value in
    let some : length t ≡ 0 → ⊥ = grind arith in
    c.ok_or-2.ensures.value ∙ reading_is a v c.loop-byte.invariant.1
    ∙ sym (magnitude_some a t some ∙ c.loop-byte.invariant.0 ∙ reading_ends t a v c.loop-byte.byte-index c.loop-byte-test.false)
