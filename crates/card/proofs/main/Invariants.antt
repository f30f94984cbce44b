-- `card::main`: both buffers keep their sizes.
use Rattle.std.proofs.Common.{◌≡◌, length}
use Rattle.card.proofs.main.Given as goal

abbrev pub invariant-loop-number : goal.invariant-loop-number
invariant-loop-number l = (length l.bytes ≡ 65538) × (length l.line ≡ 8256)
