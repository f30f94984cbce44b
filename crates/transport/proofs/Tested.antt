-- Tests over every byte, computed.
use Prim.Native.Nat.{ℕ, ◌*◌, ◌^◌, ◌<◌}
use mathlib.Core.Path.{◌≡◌, refl}
use mathlib.Core.Bool.{Bool, true}
use lib.Dec.{eqb}
use lib.ListN.{get_or}
use borrow.Author.Tests.{eqb-true}
use Rattle.laws.proofs.Tests.{below, at_below}
use Rattle.transport.specs.Register.{bit_step, bits_step, byte_step}
use Rattle.transport.specs.Table.{table}

-- a byte that comes in is gone with the same one at the top
unfoldable goes : ℕ → Bool
goes x = eqb (byte_step (x * 2 ^ 24) x) 0

all_go : below goes 256 ≡ true
unfolding below goes byte_step bits_step bit_step
all_go = refl

pub byte_gone : (x : ℕ) → x < 256 → byte_step (x * 2 ^ 24) x ≡ 0
unfolding goes
byte_gone x h = eqb-true (byte_step (x * 2 ^ 24) x) 0 (at_below goes 256 x all_go h)

-- the table's rule, tested at each entry
unfoldable right : ℕ → Bool
right i = eqb (get_or table i 0) (byte_step (i * 2 ^ 24) 0)

all_right : below right 256 ≡ true
unfolding below right byte_step bits_step bit_step
all_right = refl

pub tabled : (i : ℕ) → i < 256 → get_or table i 0 ≡ byte_step (i * 2 ^ 24) 0
unfolding right
tabled i h = eqb-true (get_or table i 0) (byte_step (i * 2 ^ 24) 0) (at_below right 256 i all_right h)
