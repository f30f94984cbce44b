-- How long the lines are at most.
use Prim.Native.Nat.{ℕ, ◌+◌, ◌≤◌, ◌<◌}
use mathlib.Core.List.{List, ◌++◌}
use mathlib.Core.Bool.{Bool}
use native.Mathlib.Omega.{arith}
use lib.Dec.{eqb}
use lib.ListN.{length, length-append}
use Rattle.laws.proofs.Tests.{chosen}
use Rattle.text.specs.Lines.{item, newline}
use Rattle.text.proofs.Spelled.{item_small, item_size}
use Rattle.judging.specs.declared.Faults.{Faults}
use Rattle.judging.specs.Lines.{packet, refused, counter, rate, count, cadence, fault_text, refusal_text, faults_text}

fault_size : (holds : Bool) (k : ℕ) (name : List ℕ) → k < 1000 → length (fault_text holds k name) ≤ 10 + length name
unfolding fault_text
fault_size holds k name h =
    chosen (λ (l : List ℕ). length l ≤ 10 + length name) holds _ _ (λ _. omega (arith, length-append (item packet k) name, item_small packet k h)) (λ _. omega arith)

refusal_size : (k number : ℕ) → k < 1000 → length (refusal_text k number) ≤ 71
unfolding refusal_text
refusal_size k number h =
    omega (arith, length-append (item packet k ++ item refused number) newline, length-append (item packet k) (item refused number), item_small packet k h, item_size refused number)

-- four lines of 10 bytes and the fault's name
pub faults_size : (k : ℕ) (f : Faults) → k < 1000 → length (faults_text k f) ≤ 71
unfolding faults_text
faults_size k f h =
    let a = fault_text f.counter k counter in
    let b = fault_text f.rate k rate in
    let c = fault_text f.count k count in
    let d = fault_text f.cadence k cadence in
    chosen (λ (l : List ℕ). length l ≤ 71) (eqb f.refused 0) _ _
    (λ _. omega (
      arith,
      length-append (a ++ b ++ c) d,
      length-append (a ++ b) c,
      length-append a b,
      fault_size f.counter k counter h,
      fault_size f.rate k rate h,
      fault_size f.count k count h,
      fault_size f.cadence k cadence h,
    ))
    (λ _. refusal_size k f.refused h)
