-- `sound::sample` meets its contract.
use Prim.Native.Nat.{◌+◌, ◌*◌}
use mathlib.Core.Path.{◌≡◌, ap}
use native.Mathlib.Omega.{arith}
use lib.ListN.{get_or}
use Rattle.sound.specs.Mix.{signed, signed_at}
use Rattle.sound.proofs.sample.Goals as goal

pub returns : goal.returns
unfolding signed_at
returns c =
    let b = c.args.block.now in
    let i = c.args.at in
    let e : c.from_le_bytes.result ≡ get_or b i 0 + 256 * get_or b (i + 1) 0 = omega (arith, c.from_le_bytes.ensures) in
    ap signed e
