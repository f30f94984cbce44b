-- `receiving::slot_of` meets its contract.
use Prim.Native.Nat.{ℕ}
use mathlib.Core.Path.{ap}
use mathlib.Core.List.{List}
use lib.ListN.{length}
use Rattle.receiving.specs.Slots.{slot_of}
use Rattle.receiving.proofs.slot_of.Goals as goal

pub returns : goal.returns
unfolding slot_of
returns c = ap (λ (bytes : List ℕ). record { size = length c.args.bytes.now; bytes = bytes }) c.copy_at.ensures
