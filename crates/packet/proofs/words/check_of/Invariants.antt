-- `packet::words::check_of` meets its contract. The loop's invariant: what is summed with what is left is the whole sum, modulo 512.
use Prim.Native.Nat.{◌+◌, ◌%◌, ◌<◌}
use mathlib.Core.Path.{◌≡◌}
use lib.ListN.{drop}
use Rattle.packet.specs.Words.{sum9, words_of}
use Rattle.packet.proofs.words.check_of.Given as goal

abbrev pub invariant-loop-i : goal.invariant-loop-i
invariant-loop-i l = (l.sum < 512) × ((l.sum + sum9 (drop l.i (words_of l.words))) % 512 ≡ sum9 (words_of l.words) % 512)
