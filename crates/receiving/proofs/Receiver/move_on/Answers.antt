-- `Receiver::move_on` meets its contract.
use Prim.Native.Nat.{◌+◌, ◌%◌}
use mathlib.Core.Path.{ap, ◌∙◌}
use mathlib.Core.List.{List}
use lib.ListN.{set}
use Rattle.std.specs.Prelude.{Option, None}
use Rattle.receiving.specs.declared.Slot.{Slot}
use Rattle.receiving.specs.Receiver.{moved_on}
use Rattle.receiving.proofs.Slots.{shifted}
use borrow.Author.Rules.{rules}
use Rattle.receiving.proofs.Receiver.move_on.Goals as goal

pub returns : goal.returns
unfolding moved_on
returns c =
    let r = c.args.self.now in
    ap (λ (held : List (Option Slot)). record { expected = (r.expected + 1) % 256; held = held })
    (ap (λ (held : List (Option Slot)). set held 7 None) c.rotate_left.ensures.after ∙ shifted None r.held (search rules))
