-- What a call that hands out bytes tells and leaves, case by case.
use Prim.Native.Nat.{ℕ, ◌≤◌, ◌<◌}
use mathlib.Core.Path.{◌≡◌, refl}
use mathlib.Core.List.{List}
use mathlib.Core.Bool.{Bool, true, false, cond}
use native.Mathlib.Omega.{arith}
use borrow.Author.Tests.{lt-ltb, le-ltb, eq-eqb, ne_eqb, eqb-true, eqb-false, ltb-false}
use lib.ListN.{length, drop}
use lib.Seq.{take-append_seam}
use lib.Dec.{eqb, ltb}
use Rattle.laws.specs.declared.Done.{Done}
use Rattle.laws.specs.Calls.{over, room_number, done_with, out_with, handed_out}

abbrev pub done : ℕ → ℕ → Done
done number written = record { number = number; written = written }

-- what is told and what is left, where all but 12 is settled
abbrev pub Outcome : ℕ → List ℕ → List ℕ → Done → List ℕ → Type 0
Outcome number bytes out told left =
    (told ≡ done_with (room_number number bytes (length out)) bytes) × (left ≡ out_with (room_number number bytes (length out)) bytes out)

module _ (number : ℕ) (bytes out : List ℕ) where
  pub told_refused : (number ≡ 0 → ⊥) → Outcome number bytes out (done number 0) out
  unfolding done_with out_with room_number
  told_refused h = let e = ne_eqb number 0 h in (simp e, simp e)

  pub told_short : number ≡ 0 → length out < length bytes → Outcome number bytes out (done 12 0) out
  unfolding done_with out_with room_number
  told_short h k = let e = eq-eqb number 0 h in let f = lt-ltb (length out) (length bytes) k in (simp (e, f), simp (e, f))

  pub told_ok : number ≡ 0 → length bytes ≤ length out → Outcome number bytes out (done 0 (length bytes)) (over bytes out)
  unfolding done_with out_with room_number
  told_ok h k = let e = eq-eqb number 0 h in let f = le-ltb (length out) (length bytes) k in (simp (e, f), simp (e, f))

-- a call that ends with 0 found nothing wrong and had room enough
pub told_zero : (number : ℕ) (bytes : List ℕ) (room : ℕ) → room_number number bytes room ≡ 0 → (number ≡ 0) × (length bytes ≤ room)
unfolding room_number
told_zero number bytes room e = go (eqb number 0) (ltb room (length bytes)) refl refl e
  where
    go : (t u : Bool) → eqb number 0 ≡ t → ltb room (length bytes) ≡ u → cond t (cond u 12 0) number ≡ 0 → (number ≡ 0) × (length bytes ≤ room)
    go true true p q h = absurd (let z : ⊥ = omega arith in z)
    go true false p q h = (eqb-true number 0 p, ltb-false room (length bytes) q)
    go false u p q h = absurd (eqb-false number 0 p h)

-- the bytes counted as written are the bytes handed out
pub handed : (number : ℕ) (bytes out : List ℕ) → number ≡ 0 → handed_out (done_with number bytes) (out_with number bytes out) ≡ bytes
unfolding done_with out_with over
handed number bytes out e = rw (eq-eqb number 0 e) (take-append_seam bytes (drop (length bytes) out))
