-- A field made of lines of 60 bytes has 960, and so the two counts of a field are of 960 pixels.
use Prim.Native.Nat.{ℕ, zero, suc, ◌*◌, ◌%◌, ◌≤◌}
use mathlib.Core.Path.{◌≡◌, refl}
use mathlib.Core.List.{List, [], ◌∷◌}
use native.Mathlib.Omega.{arith}
use lib.Dec.{eqb}
use lib.ListN.{length, take, length-append}
use lib.Seq.{length-take-le}
use borrow.Author.Tests.{eqb-true}
use Rattle.laws.proofs.Tests.{chosen}
use Rattle.picture.specs.Fields.{fingerprint_of, compared}
use Rattle.picture.specs.Changed.{Sums}
use Rattle.picture.specs.History.{joined, fields, field_tells}
use Rattle.picture.proofs.Compared.{sum_small}

-- lists of n bytes each
pub data Each (n : ℕ) : List (List ℕ) → Type 0 where
  none : Each n []
  more : {l : List ℕ} {ls : List (List ℕ)} → length l ≡ n → Each n ls → Each n (l ∷ ls)

taken : {n : ℕ} {ls : List (List ℕ)} (k : ℕ) → Each n ls → Each n (take k ls)
taken zero a = none
taken (suc k) none = none
taken (suc k) (more e a) = more e (taken k a)

joined_size : {ls : List (List ℕ)} → Each 60 ls → length (joined ls) ≡ 60 * length ls
unfolding joined
joined_size none = refl
joined_size (more e a) = simp length-append (omega (arith, e, joined_size a))

pub fields_sized : {ls : List (List ℕ)} → Each 60 ls → Each 960 (fields ls)
unfolding fields
fields_sized none = none
fields_sized (more {l} {ls} e a) =
    chosen (Each 960) (eqb (suc (length ls) % 16) 0) _ _
    (λ z.
    let h : 16 ≤ length (l ∷ ls) = omega (arith, eqb-true (suc (length ls) % 16) 0 z) in
    let k : length (joined (take 16 (l ∷ ls))) ≡ 960 = omega (arith, joined_size (taken 16 (more {l = l} {ls = ls} e a)), length-take-le 16 (l ∷ ls) h) in
    more k (fields_sized a))
    (λ z. fields_sized a)

pub tells_sums : {fs : List (List ℕ)} → Each 960 fs → Sums (field_tells fs)
unfolding field_tells compared fingerprint_of
tells_sums none = tt
tells_sums (more e none) = tt
tells_sums (more e (more e' none)) = tt
tells_sums (more {l = f} e (more e' (more {l = h} e'' a))) = (refl, omega (arith, sum_small f h))
