-- The payload of a whole record lies within the bytes.
use Prim.Native.Nat.{ℕ, ◌+◌, ◌-◌, ◌≤◌}
use mathlib.Core.Path.{◌≡◌, refl}
use mathlib.Core.List.{List}
use mathlib.Core.Bool.{Bool, true, false, cond}
use native.Mathlib.Omega.{arith}
use lib.ListN.{length}
use lib.Dec.{leb, ltb}
use borrow.Author.Tests.{ltb-false}
use Rattle.records.specs.declared.Record.TheVariants.{Whole, Cut, End}
use Rattle.records.specs.Records.{byte_at, pair_at, record_at}

pub whole_within : (s : List ℕ) (at tag start end : ℕ) → record_at s at ≡ Whole tag start end → (start ≤ end) × (end ≤ length s)
unfolding record_at
whole_within s at tag start end e = go (leb (length s) at) (ltb (length s - at) 3) (ltb (length s - (at + 3)) size) refl refl refl e
  where
    size : ℕ
    size = pair_at s (at + 1)

    go : (none head body : Bool) → leb (length s) at ≡ none → ltb (length s - at) 3 ≡ head → ltb (length s - (at + 3)) size ≡ body
        → cond none End (cond head Cut (cond body Cut (Whole (byte_at s at) (at + 3) (at + 3 + size)))) ≡ Whole tag start end
        → (start ≤ end) × (end ≤ length s)
    go true head body p q r h = absurd (let z : ◌≡◌ {A = ℕ} 0 1 = cc in omega arith)
    go false true body p q r h = absurd (let z : ◌≡◌ {A = ℕ} 0 1 = cc in omega arith)
    go false false true p q r h = absurd (let z : ◌≡◌ {A = ℕ} 0 1 = cc in omega arith)
    go false false false p q r h =
        let a : at + 3 ≡ start = cc in
        let b : at + 3 + size ≡ end = cc in
        omega (arith, a, b, ltb-false (length s - at) 3 q, ltb-false (length s - (at + 3)) size r)
