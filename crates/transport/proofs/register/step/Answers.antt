-- `transport::register::step` meets its contract: the byte step parts into the three low bytes, moved up, and the table's entry.
use Prim.Native.Nat.{ℕ, ◌+◌, ◌-◌, ◌*◌, ◌/◌, ◌%◌, ◌^◌, ◌<◌}
use mathlib.Core.Path.{◌≡◌, ap, ◌∙◌, sym}
use native.Mathlib.Omega.{arith}
use lib.Bits.{bit_xor, xor_lt}
use lib.ListN.{get_or}
use Rattle.transport.specs.Register.{byte_step}
use Rattle.transport.specs.Table.{table}
use Rattle.transport.proofs.Tested.{tabled}
use Rattle.transport.proofs.Bytewise.{by_byte}
use Rattle.transport.proofs.register.step.Goals as goal

index_lt : (reg byte : ℕ) → reg < 2 ^ 32 → byte < 256 → bit_xor (reg / 2 ^ 24) byte < 256
index_lt reg byte h l = xor_lt 8 (reg / 2 ^ 24) byte (omega arith) l

pub returns : goal.returns
returns c =
    let reg = c.args.reg in
    let byte = c.from.result in
    let at : ℕ = bit_xor (reg / 2 ^ 24) byte in
    let e : 256 + at - 256 ≡ at = omega arith in
    ap (bit_xor (reg * 2 ^ 8 % 2 ^ 32)) (c.entry.ensures ∙ ap (λ (k : ℕ). get_or table k 0) e ∙ tabled at (index_lt reg byte (omega arith) (omega (arith, c.from.ensures))))
    ∙ sym (by_byte reg byte (omega arith) (omega (arith, c.from.ensures))) ∙ ap (byte_step reg) c.from.ensures
