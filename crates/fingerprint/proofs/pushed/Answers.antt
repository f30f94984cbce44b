-- `fingerprint::pushed` meets its contract.
use Prim.Native.Nat.{ℕ, ◌*◌, ◌%◌, ◌^◌}
use mathlib.Core.Path.{◌≡◌, ◌∙◌}
use native.Mathlib.Nat.{one-mul}
use native.Mathlib.Omega.{arith}
use lib.Pow.{shl_exact}
use borrow.Author.Tests.{le-ltb, lt-ltb}
use Rattle.fingerprint.specs.State.{with_bit, holding, pushed_of}
use Rattle.fingerprint.proofs.pushed.Goals as goal

mask : (h : ℕ) → 1 * 2 ^ (h % 8) % 256 ≡ 2 ^ (h % 8)
mask h = shl_exact {a = 1} 1 (h % 8) 8 (omega arith) (omega arith) ∙ one-mul (2 ^ (h % 8))

pub returns-then-held-ge256 : goal.returns-then-held-ge256
unfolding pushed_of holding
returns-then-held-ge256 c = simp (le-ltb c.args.f.held 256 c.if-held-ge256.true)

pub returns-then-one : goal.returns-then-one
unfolding pushed_of holding with_bit
returns-then-one c = simp (lt-ltb c.args.f.held 256 c.if-held-ge256.false, c.if-one.true, c.place_in_byte.ensures, mask)

pub returns-else-one : goal.returns-else-one
unfolding pushed_of holding with_bit
returns-else-one c = simp (lt-ltb c.args.f.held 256 c.if-held-ge256.false, c.if-one.false)
