-- The bytes left make of the text so far the whole text. Assumes nothing.
use Rattle.std.proofs.Common.{◌≡◌, ◌≤◌, take, drop}
use Rattle.command.specs.Lines.{line_size}
use Rattle.command.specs.Texts.{text_of, text_from}
use Rattle.command.proofs.text.text_of.Given as goal

abbrev pub invariant-loop-byte : goal.invariant-loop-byte
invariant-loop-byte l = (text_of l.line ≡ text_from l.gap (take l.text.count l.text.bytes) (drop l.byte-index l.line)) × (l.text.count ≤ line_size)
