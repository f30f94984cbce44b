-- `text::put_hex` meets its contract. The loop's invariant: the digits of the bytes passed stand, and p is the place after them.
use mathlib.Core.Path.{◌≡◌}
use lib.ListN.{length, take}
use Rattle.text.specs.Spelling.{hex_text}
use Rattle.text.specs.Lines.{Put}
use Rattle.text.proofs.put_hex.Given as goal

abbrev pub invariant-loop-byte : goal.invariant-loop-byte
invariant-loop-byte l = (length l.out ≡ length l.initial.out) × Put l.initial.out l.at (hex_text (take l.byte-index l.bytes)) l.out l.p
