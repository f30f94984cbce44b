-- `transport::put_transport` meets its contract: head and container first, the register over both, then its four bytes.
use Prim.Native.Nat.{ℕ, ◌+◌, ◌/◌, ◌%◌, ◌^◌, ◌<◌}
use mathlib.Core.Path.{◌≡◌, ap, ◌∙◌}
use mathlib.Core.List.{[], ◌∷◌}
use native.Mathlib.Omega.{arith}
use lib.ListN.{length}
use Rattle.std.specs.Int.{w32, to_be_bytes}
use Rattle.transport.specs.Register.{register_of, four_bytes}
use Rattle.transport.specs.Writing.{head_bytes}
use Rattle.transport.proofs.Written.{front_put, covered, transport_put}
use Rattle.transport.proofs.put_transport.Goals as goal

high_first : (reg : ℕ) → reg < 2 ^ 32 → to_be_bytes w32 reg ≡ four_bytes reg
unfolding four_bytes
high_first reg h =
    let top : reg / 2 ^ 24 % 256 ≡ reg / 2 ^ 24 = omega arith in
    ap (λ (b : ℕ). b ∷ reg / 2 ^ 16 % 256 ∷ reg / 2 ^ 8 % 256 ∷ reg % 256 ∷ []) top

pub returns : goal.returns
unfolding head_bytes
returns c =
    let lent = c.args.container.now in
    let out = c.args.out.now in
    let end = length lent + 4 + 2 in
    let front = front_put lent out c.requires.1 _ _ c.copy_at.ensures c.copy_at-2.ensures in
    let there = covered lent out c.requires.1 _ end front (omega arith) in
    let crc = c.to_be_bytes.ensures ∙ high_first c.register-crc.result (omega arith) ∙ ap four_bytes (c.register-crc.ensures ∙ ap register_of there) in
    transport_put lent out c.requires.1 _ _ _ end front (omega arith) crc c.copy_at-3.ensures
