-- `flat::prints_of` meets its contract. The loop's invariant: the places filled so far.
use mathlib.Core.Path.{◌≡◌}
use mathlib.Core.List.{◌++◌}
use lib.ListN.{take, drop, replicate}
use Rattle.container.specs.Contents.{blank_print}
use Rattle.flat.specs.Unflat.{prints_of}
use Rattle.flat.proofs.prints_of.Given as goal

abbrev pub invariant-loop-k : goal.invariant-loop-k
invariant-loop-k l = l.prints ≡ take l.k (prints_of 32 l.b) ++ drop l.k (replicate 32 blank_print)
