-- `packet::read::low_bytes` meets its contract. The loop's invariant: the bytes still to be stored, stored into out as it now is, give the promised bytes.
use mathlib.Core.Path.{◌≡◌}
use mathlib.Core.List.{map}
use lib.ListN.{drop}
use lib.Seq.{sets}
use Rattle.packet.specs.Words.{low, words_of}
use Rattle.packet.proofs.read.low_bytes.Given as goal

abbrev pub invariant-loop-i : goal.invariant-loop-i
invariant-loop-i l = sets l.initial.out 0 (map low (words_of l.words)) ≡ sets l.out l.i (map low (drop l.i (words_of l.words)))
