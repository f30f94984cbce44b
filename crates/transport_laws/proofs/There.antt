-- The transport packet of a container's bytes passes every test of its own bytes, and carries those bytes.
use Prim.Native.Nat.{ℕ, ◌+◌, ◌-◌}
use mathlib.Core.Path.{◌≡◌, refl, ap, ◌∙◌}
use mathlib.Core.Bool.{true}
use mathlib.Core.List.{List, ◌++◌}
use native.Mathlib.Omega.{arith}
use borrow.Author.Tests.{eq-eqb, le-leb}
use lib.Dec.{leb}
use lib.ListN.{length, take}
use lib.Seq.{take_at}
use Rattle.records.specs.Records.{byte_at, pair_at}
use Rattle.transport.specs.Register.{register_of, four_bytes}
use Rattle.transport.specs.Writing.{head_bytes, front_bytes, transport_bytes}
use Rattle.transport.specs.Reading.{start_right, length_right, frame_number, container_bytes}
use Rattle.transport.proofs.Written.{length_transport}
use Rattle.transport_laws.proofs.Seal.{sealed}

module _ (c : List ℕ) where
  start : start_right (transport_bytes c) ≡ true
  unfolding start_right transport_bytes front_bytes head_bytes
  start = refl

  counted : pair_at (transport_bytes c) 4 ≡ length c + 4
  unfolding pair_at byte_at transport_bytes front_bytes head_bytes
  counted = omega arith

  size : length_right (transport_bytes c) ≡ true
  unfolding length_right
  size = eq-eqb _ _ (length_transport c ∙ omega (arith, counted))

  ends : register_of (transport_bytes c) ≡ 0
  unfolding transport_bytes
  ends = sealed (front_bytes c)

  pub transport_right : frame_number (transport_bytes c) ≡ 0
  unfolding frame_number
  transport_right =
      let ten : leb 10 (length (transport_bytes c)) ≡ true = le-leb 10 (length (transport_bytes c)) (rw length_transport (omega arith)) in
      rw (ten, start, size, eq-eqb _ _ ends)

  pub transport_carries : container_bytes (transport_bytes c) ≡ c
  unfolding container_bytes transport_bytes front_bytes head_bytes
  transport_carries =
      let n : length (transport_bytes c) - 10 ≡ length c = omega (arith, length_transport c) in
      ap (λ (m : ℕ). take m (c ++ four_bytes (register_of (front_bytes c)))) n ∙ take_at c (four_bytes (register_of (front_bytes c))) (length c) refl
