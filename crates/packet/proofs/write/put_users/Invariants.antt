-- `packet::write::put_users` meets its contract. The loop's invariant: the words still to be stored, stored into out as it now is, give the promised bytes.
use Prim.Native.Nat.{◌+◌, ◌*◌}
use mathlib.Core.Path.{◌≡◌}
use mathlib.Core.List.{map}
use lib.ListN.{drop}
use lib.Seq.{sets}
use Rattle.packet.specs.Words.{word_of, bytes_of}
use Rattle.packet.proofs.write.put_users.Given as goal

abbrev pub invariant-loop-i : goal.invariant-loop-i
invariant-loop-i l = sets l.initial.out 12 (bytes_of (map word_of l.container)) ≡ sets l.out (12 + 2 * l.i) (bytes_of (map word_of (drop l.i l.container)))
