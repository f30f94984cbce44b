-- The register by the byte: for a given byte one-to-one in the register, for a given register one-to-one in the byte.
use Prim.Native.Nat.{ℕ, ◌+◌, ◌*◌, ◌/◌, ◌%◌, ◌^◌, ◌<◌}
use mathlib.Core.Path.{◌≡◌, refl, sym, ap, ap₂, ◌∙◌}
use mathlib.Core.List.{List, [], ◌∷◌, ◌++◌}
use native.Mathlib.Nat.{mod-lt}
use native.Mathlib.Omega.{arith}
use lib.Pow.{pow_pos, split}
use lib.Bits.{bit_xor, xor_lt, xor_self, xor_comm, xor_zero_r, xor_shifted}
use Rattle.transport.specs.Register.{byte_step, run, register_of}
use Rattle.transport.proofs.Xor.{xor_again, xor_eq, xor_up}
use Rattle.transport.proofs.Steps.{bits_add, bits_lt, low_bits, zero_bits}
use Rattle.transport.proofs.Tested.{byte_gone}

-- ---- a byte

pub byte_add : (r s b c : ℕ) → byte_step (bit_xor r s) (bit_xor b c) ≡ bit_xor (byte_step r b) (byte_step s c)
unfolding byte_step
byte_add r s b c = bits_add 8 r s b c

pub byte_lt : (r b : ℕ) → r < 2 ^ 32 → byte_step r b < 2 ^ 32
unfolding byte_step
byte_lt r b h = bits_lt 8 r b h

low_byte : (r : ℕ) → r < 2 ^ 24 → byte_step r 0 ≡ r * 2 ^ 8
unfolding byte_step
low_byte r h = low_bits 8 r (omega arith)

zero_byte : (r : ℕ) → r < 2 ^ 32 → byte_step r 0 ≡ 0 → r ≡ 0
unfolding byte_step
zero_byte r h e = zero_bits 8 r h e

-- for a given byte, one-to-one in the register
pub one_register : (r s b : ℕ) → r < 2 ^ 32 → s < 2 ^ 32 → byte_step r b ≡ byte_step s b → r ≡ s
one_register r s b h l e =
    xor_eq r s
    (zero_byte (bit_xor r s) (xor_lt 32 r s h l)
    (ap (byte_step (bit_xor r s)) (sym (xor_self b)) ∙ byte_add r s b b ∙ ap (λ (x : ℕ). bit_xor x (byte_step s b)) e ∙ xor_self (byte_step s b)))

-- the top byte and the three below it, against the byte that comes
pub parted : (hi lo b : ℕ) → lo < 2 ^ 24 → b < 256 → byte_step (hi * 2 ^ 24 + lo) b ≡ bit_xor (lo * 2 ^ 8) (byte_step (bit_xor hi b * 2 ^ 24) 0)
parted hi lo b h l =
    ap (λ (x : ℕ). byte_step x b) (sym (xor_shifted hi 24 lo h) ∙ xor_comm (hi * 2 ^ 24) lo)
    ∙ byte_add lo (hi * 2 ^ 24) 0 b
    ∙ ap₂ bit_xor (low_byte lo h)
    (ap₂ byte_step (ap (λ (x : ℕ). x * 2 ^ 24) (sym (xor_again hi b)) ∙ sym (xor_up 24 (bit_xor hi b) b)) refl
    ∙ byte_add (bit_xor hi b * 2 ^ 24) (b * 2 ^ 24) 0 b
    ∙ ap (bit_xor (byte_step (bit_xor hi b * 2 ^ 24) 0)) (byte_gone b l)
    ∙ xor_zero_r (byte_step (bit_xor hi b * 2 ^ 24) 0))

-- by the byte
pub by_byte : (r b : ℕ) → r < 2 ^ 32 → b < 256 → byte_step r b ≡ bit_xor (r * 2 ^ 8 % 2 ^ 32) (byte_step (bit_xor (r / 2 ^ 24) b * 2 ^ 24) 0)
by_byte r b h l =
    let e : r % 2 ^ 24 * 2 ^ 8 ≡ r * 2 ^ 8 % 2 ^ 32 = omega arith in
    ap (λ (x : ℕ). byte_step x b) (sym (split r 24)) ∙ parted (r / 2 ^ 24) (r % 2 ^ 24) b (mod-lt r (pow_pos 24)) l
    ∙ ap (λ (x : ℕ). bit_xor x (byte_step (bit_xor (r / 2 ^ 24) b * 2 ^ 24) 0)) e

-- for a given register, one-to-one in the byte
pub one_byte : (r b c : ℕ) → r < 2 ^ 32 → b < 256 → c < 256 → byte_step r b ≡ byte_step r c → b ≡ c
one_byte r b c h l m e = xor_eq b c (omega (arith, zero_byte (bit_xor b c * 2 ^ 24) (omega (arith, small)) same))
  where
    small : bit_xor b c < 2 ^ 8
    small = xor_lt 8 b c l m

    none : byte_step 0 (bit_xor b c) ≡ 0
    none =
        ap (λ (x : ℕ). byte_step x (bit_xor b c)) (sym (xor_self r)) ∙ byte_add r r b c
        ∙ ap (λ (x : ℕ). bit_xor x (byte_step r c)) e ∙ xor_self (byte_step r c)

    same : byte_step (bit_xor b c * 2 ^ 24) 0 ≡ 0
    same =
        sym (xor_zero_r _) ∙ ap (bit_xor (byte_step (bit_xor b c * 2 ^ 24) 0)) (sym none)
        ∙ sym (byte_add (bit_xor b c * 2 ^ 24) 0 0 (bit_xor b c))
        ∙ ap (λ (x : ℕ). byte_step x (bit_xor b c)) (xor_zero_r (bit_xor b c * 2 ^ 24)) ∙ byte_gone (bit_xor b c) small

-- ---- bytes

pub run_append : (r : ℕ) (s t : List ℕ) → run r (s ++ t) ≡ run (run r s) t
unfolding run
run_append r [] t = refl
run_append r (b ∷ s) t = run_append (byte_step r b) s t

pub run_lt : (r : ℕ) (s : List ℕ) → r < 2 ^ 32 → run r s < 2 ^ 32
unfolding run
run_lt r [] h = h
run_lt r (b ∷ s) h = run_lt (byte_step r b) s (byte_lt r b h)

pub register_lt : (s : List ℕ) → register_of s < 2 ^ 32
unfolding register_of
register_lt s = run_lt 0xFFFF_FFFF s (omega arith)
