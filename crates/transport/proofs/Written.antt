-- How long a transport packet is, and the packet in the order in which it is stored.
use Prim.Native.Nat.{ℕ, ◌+◌, ◌≤◌}
use mathlib.Core.Path.{◌≡◌, refl, ap, ◌∙◌}
use mathlib.Core.List.{List, ◌++◌}
use native.Mathlib.Omega.{arith}
use lib.ListN.{length, take, length-append}
use lib.Seq.{sets}
use Rattle.laws.specs.Calls.{over}
use Rattle.laws.proofs.Lists.{sets_then, sets_over, stored_front}
use Rattle.transport.specs.Register.{register_of, four_bytes}
use Rattle.transport.specs.Writing.{head_bytes, front_bytes, transport_bytes}

pub length_front : (c : List ℕ) → length (front_bytes c) ≡ length c + 6
unfolding front_bytes head_bytes
length_front c = omega arith

pub length_transport : (c : List ℕ) → length (transport_bytes c) ≡ length c + 10
unfolding transport_bytes four_bytes
length_transport c = rw (length-append, length_front) (omega arith)

module _ (c out : List ℕ) (room : length c + 10 ≤ length out) where
  -- the register goes over all that stands before its own bytes
  pub front_put : (o₁ o₂ : List ℕ) → o₁ ≡ sets out 0 (head_bytes (length c)) → o₂ ≡ sets o₁ 6 c → o₂ ≡ sets out 0 (front_bytes c)
  unfolding front_bytes head_bytes
  front_put o₁ o₂ p q = sets_then out o₁ o₂ (head_bytes (length c)) c 0 6 p refl q

  pub covered : (o₂ : List ℕ) (n : ℕ) → o₂ ≡ sets out 0 (front_bytes c) → n ≡ length c + 6 → take n o₂ ≡ front_bytes c
  covered o₂ n p e = ap (take n) p ∙ stored_front (front_bytes c) out n (length_front c ∙ omega arith) (omega arith)

  pub transport_put : (o₂ o₃ crc : List ℕ) (n : ℕ) → o₂ ≡ sets out 0 (front_bytes c) → n ≡ length c + 6
      → crc ≡ four_bytes (register_of (front_bytes c)) → o₃ ≡ sets o₂ n crc → o₃ ≡ over (transport_bytes c) out
  unfolding transport_bytes
  transport_put o₂ o₃ crc n p e k q =
      sets_then out o₂ o₃ (front_bytes c) crc 0 n p (omega (arith, length_front c)) q
      ∙ ap (λ (b : List ℕ). sets out 0 (front_bytes c ++ b)) k
      ∙ sets_over (transport_bytes c) out (rw length_transport room)
