-- A transport packet whose own bytes are right is the packet of the bytes that it carries.
use Prim.Native.Nat.{ℕ, suc, ◌+◌, ◌-◌, ◌*◌, ◌/◌, ◌%◌}
use mathlib.Core.Path.{◌≡◌, sym, ap, ap₂, ◌∙◌}
use mathlib.Core.Bool.{true}
use mathlib.Core.List.{List, [], ◌∷◌, ◌++◌}
use native.Mathlib.Omega.{arith}
use borrow.Author.Tests.{eqb-true}
use lib.Dec.{eqb}
use lib.ListN.{length, get_or, take}
use Rattle.laws.specs.Bytes.{Bytes}
use Rattle.laws.proofs.Lists.{first_six}
use Rattle.laws.proofs.Tests.{both}
use Rattle.records.specs.Records.{byte_at, pair_at}
use Rattle.transport.specs.Register.{register_of, four_bytes}
use Rattle.transport.specs.Writing.{head_bytes, front_bytes, transport_bytes}
use Rattle.transport.specs.Reading.{start_right, frame_number, container_bytes}
use Rattle.transport.proofs.Passed.{Passed, passed, length_carried}
use Rattle.transport_laws.proofs.Seal.{sealed_only}

-- the start code, byte by byte
pub record Starts (s : List ℕ) : Type 0 where
  pub first : get_or s 0 0 ≡ 0x00
  pub second : get_or s 1 0 ≡ 0x00
  pub third : get_or s 2 0 ≡ 0x01
  pub fourth : get_or s 3 0 ≡ 0xBF

pub starts : (s : List ℕ) → start_right s ≡ true → Starts s
unfolding start_right
starts s e =
    let p = both (eqb (get_or s 0 0) 0x00) _ e in
    let q = both (eqb (get_or s 1 0) 0x00) _ p.1 in
    let r = both (eqb (get_or s 2 0) 0x01) _ q.1 in
    record {
      first = eqb-true (get_or s 0 0) 0x00 p.0;
      second = eqb-true (get_or s 1 0) 0x00 q.0;
      third = eqb-true (get_or s 2 0) 0x01 r.0;
      fourth = eqb-true (get_or s 3 0) 0xBF r.1;
    }

module _ (s : List ℕ) (right : frame_number s ≡ 0) (bytes : Bytes s) where
  p : Passed s
  p = passed s right

  abbrev n : ℕ
  n = length (container_bytes s)

  counted : n + 4 ≡ get_or s 4 0 * 256 + get_or s 5 0
  unfolding pair_at byte_at
  counted = omega (arith, length_carried s, p.ten, p.size)

  head : head_bytes n ≡ get_or s 0 0 ∷ get_or s 1 0 ∷ get_or s 2 0 ∷ get_or s 3 0 ∷ get_or s 4 0 ∷ get_or s 5 0 ∷ []
  unfolding head_bytes
  head =
      let b = starts s p.start in
      let high : (n + 4) / 256 ≡ get_or s 4 0 = omega (arith, counted, bytes 5) in
      let low : (n + 4) % 256 ≡ get_or s 5 0 = omega (arith, counted, bytes 5) in
      rw (b.first, b.second, b.third, b.fourth, high, low)

  -- all but the last four bytes
  front : front_bytes (container_bytes s) ≡ take (length s - 4) s
  unfolding front_bytes container_bytes
  front =
      let m : length s - 4 ≡ suc (suc (suc (suc (suc (suc (length s - 10)))))) = omega (arith, p.ten) in
      ap (λ (h : List ℕ). h ++ container_bytes s) head ∙ sym (ap₂ take m (first_six s (omega (arith, p.ten))))

  pub transport_again : transport_bytes (container_bytes s) ≡ s
  unfolding transport_bytes
  transport_again =
      ap (λ (f : List ℕ). f ++ four_bytes (register_of f)) front ∙ sym (sealed_only s (omega (arith, p.ten)) bytes p.ends)
