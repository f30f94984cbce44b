-- What each call answers, by the tests that led to it.
use Prim.Native.Nat.{ℕ, ◌≤◌, ◌<◌}
use mathlib.Core.Path.{◌≡◌, refl}
use mathlib.Core.Bool.{Bool, true, false, cond}
use mathlib.Core.List.{List}
use native.Mathlib.Omega.{arith}
use borrow.Author.Tests.{eq-eqb, ne_eqb, eqb-true, eqb-false, ltb-true}
use lib.ListN.{length}
use lib.Dec.{ltb, eqb}
use Rattle.laws.specs.Calls.{over, done_with, out_with}
use Rattle.laws.proofs.Calls.{told_zero}
use Rattle.laws.proofs.Tests.{past}
use Rattle.container.specs.Reading.{reading}
use Rattle.receiving.specs.declared.Receiver.{Receiver}
use Rattle.receiving.specs.Slots.{container_in, is_held}
use Rattle.receiving.specs.Numbers.{place_number, arrive_number, there_number, next_number}
use Rattle.receiving.specs.Receiver.{Arrived, Asked, slot_at, distance_of, arriving, holding, arrive_of, moved_on, asking, next_done, asked_with, next_of, next_out}

-- a place that is not refused is one of the eight, and free
pub place_free : (d : ℕ) (held : Bool) → place_number d held ≡ 0 → (d < 8) × (held ≡ false)
unfolding place_number
place_free d held e =
    let near = past (ltb d 8) 71 (cond held 72 0) (past (ltb d 128) 70 (cond (ltb d 8) (cond held 72 0) 71) e (omega arith)).1 (omega arith) in
    (ltb-true d 8 near.0, free held near.1)
  where
    free : (h : Bool) → ◌≡◌ {A = ℕ} (cond h 72 0) 0 → h ≡ false
    free false z = refl
    free true z = absurd (let w : ⊥ = omega (arith, z) in w)

-- an arrival that is not refused was accepted and has a free place
pub arrive_free : (read d : ℕ) (held : Bool) → arrive_number read d held ≡ 0 → (read ≡ 0) × ((d < 8) × (held ≡ false))
unfolding arrive_number
arrive_free read d held e = go (eqb read 0) refl e
  where
    go : (t : Bool) → eqb read 0 ≡ t → cond t (place_number d held) read ≡ 0 → (read ≡ 0) × ((d < 8) × (held ≡ false))
    go true p z = (eqb-true read 0 p, place_free d held z)
    go false p z = absurd (eqb-false read 0 p z)

-- ---- Arrival

abbrev pub arrival : ℕ → Receiver → Arrived
arrival number r = record { number = number; receiver = r }

module _ (r : Receiver) (b : List ℕ) where
  pub unread : (n : ℕ) → n ≡ (reading b).number → (n ≡ 0 → ⊥) → arriving r b ≡ n
  unfolding arriving arrive_number
  unread n e f = rw (← e, ne_eqb n 0 f)

  pub placed : (reading b).number ≡ 0 → arriving r b ≡ place_number (distance_of r b) (is_held (slot_at r (distance_of r b)))
  unfolding arriving arrive_number
  placed e = rw (eq-eqb (reading b).number 0 e)

  pub refused_arrival : (n : ℕ) → arriving r b ≡ n → (n ≡ 0 → ⊥) → arrival n r ≡ arrive_of r b
  unfolding arrive_of
  refused_arrival n e f = rw (e, ne_eqb n 0 f)

  pub taken_in : arriving r b ≡ 0 → arrival 0 (holding r (distance_of r b) b) ≡ arrive_of r b
  unfolding arrive_of
  taken_in e = rw e

-- ---- Asking for the next

abbrev pub told : ℕ → ℕ → Receiver → Asked
told number written r = record { number = number; written = written; receiver = r }

-- what is told and what is left
abbrev pub Next : Receiver → List ℕ → Asked → List ℕ → Type 0
Next r out a left = (a ≡ next_of r (length out)) × (left ≡ next_out r out)

module _ (r : Receiver) (out : List ℕ) where
  pub refused_next : (n : ℕ) → n ≡ asking r (length out) → (n ≡ 0 → ⊥) → Next r out (told n 0 r) out
  unfolding next_done next_of next_out asked_with done_with out_with
  refused_next n e f = rw (← e, ne_eqb n 0 f) (refl, refl)

  pub handed_over : asking r (length out) ≡ 0
      → Next r out (told 0 (length (container_in (slot_at r 0))) (moved_on r)) (over (container_in (slot_at r 0)) out)
  unfolding next_done next_of next_out asked_with done_with out_with
  handed_over e = rw e (refl, refl)

-- what is handed out has room
pub has_room : (r : Receiver) (room : ℕ) → asking r room ≡ 0 → length (container_in (slot_at r 0)) ≤ room
unfolding asking next_number
has_room r room e = (told_zero (there_number (is_held (slot_at r 0))) (container_in (slot_at r 0)) room e).1
