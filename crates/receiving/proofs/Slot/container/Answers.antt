-- `receiving::Slot::container` meets its contract.
use Prim.Native.Nat.{ℕ}
use mathlib.Core.Path.{ap}
use lib.ListN.{take}
use Rattle.receiving.specs.Slots.{container_in}
use Rattle.receiving.proofs.Slot.container.Goals as goal

pub returns : goal.returns
unfolding container_in
returns c = ap (λ (k : ℕ). take k c.args.self.now.bytes) c.from.ensures
