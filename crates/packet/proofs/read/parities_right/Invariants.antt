-- `packet::read::parities_right` meets its contract. The loop's invariant: the answer is that for what is left.
use mathlib.Core.Path.{◌≡◌}
use lib.ListN.{drop}
use Rattle.packet.specs.Words.{words_of}
use Rattle.packet.specs.Reading.{every, parity_right}
use Rattle.packet.proofs.read.parities_right.Given as goal

abbrev pub invariant-loop-i : goal.invariant-loop-i
invariant-loop-i l = every parity_right (words_of l.words) ≡ every parity_right (drop l.i (words_of l.words))
