-- What a transport packet has passed whose own bytes are right, and how long what it carries is.
use Prim.Native.Nat.{ℕ, ◌+◌, ◌-◌, ◌≤◌}
use mathlib.Core.Path.{◌≡◌}
use mathlib.Core.List.{List}
use mathlib.Core.Bool.{true}
use native.Mathlib.Omega.{arith}
use borrow.Author.Tests.{eqb-true, leb-true}
use lib.Dec.{leb, eqb}
use lib.ListN.{length, length-take, length-drop}
use Rattle.laws.proofs.Tests.{past}
use Rattle.records.specs.Records.{pair_at}
use Rattle.transport.specs.Register.{register_of}
use Rattle.transport.specs.Reading.{start_right, length_right, frame_number, container_bytes}

pub record Passed (s : List ℕ) : Type 0 where
  pub ten : 10 ≤ length s
  pub start : start_right s ≡ true
  pub size : length s ≡ pair_at s 4 + 6
  pub ends : register_of s ≡ 0

pub passed : (s : List ℕ) → frame_number s ≡ 0 → Passed s
unfolding frame_number length_right
passed s h =
    let p40 = past (leb 10 (length s)) 40 _ h (omega arith) in
    let p41 = past (start_right s) 41 _ p40.1 (omega arith) in
    let p42 = past (eqb (length s) (pair_at s 4 + 6)) 42 _ p41.1 (omega arith) in
    let p43 = past (eqb (register_of s) 0) 43 _ p42.1 (omega arith) in
    record { ten = leb-true _ _ p40.0; start = p41.0; size = eqb-true _ _ p42.0; ends = eqb-true _ _ p43.0 }

pub length_carried : (s : List ℕ) → length (container_bytes s) ≡ length s - 10
unfolding container_bytes
length_carried s = simp (length-take, length-drop) (omega arith)
