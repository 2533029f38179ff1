-- What is to be read from here on, behind the value so far, is the row. Assumes nothing.
use Rattle.std.proofs.Common.{◌≡◌, ◌<◌, drop}
use Rattle.std.specs.Option.{IfSome}
use Rattle.command.specs.Numbers.{value_from, fitted, plain_end}
use Rattle.command.proofs.Digits.{reading}
use Rattle.command.proofs.number.read_digits.Given as goal

abbrev pub invariant-loop-byte : goal.invariant-loop-byte
invariant-loop-byte l = (fitted (value_from l.radix 0 l.text) ≡ reading l.radix l.value (drop l.byte-index l.text)) × IfSome l.value (λ v. v < plain_end)
