-- Where the first acceptable field is, place by place.
use Prim.Native.Nat.{ℕ, suc, ◌+◌, ◌≤◌, ◌<◌}
use mathlib.Core.Path.{◌≡◌, refl, sym, ap, ◌∙◌}
use mathlib.Core.List.{List, [], ◌∷◌}
use mathlib.Core.Bool.{Bool, true, false, ◌&&◌, ◌||◌}
use native.Mathlib.Omega.{arith}
use native.Mathlib.Numerals.{add-one}
use native.Mathlib.Decide.{dec_lt}
use lib.ListN.{length, get_or, take, drop, length-drop, drop_of_length-le}
use lib.Seq.{drop-cons, drop-drop, get_or-drop, length-take-le}
use lib.Dec.{leb, eqb}
use borrow.Author.Tests.{leb-true, eqb-true, le-leb, lt-leb, eq-eqb, ne_eqb}
use Rattle.laws.specs.Bytes.{Bytes}
use Rattle.laws.proofs.Bytes.{bytes_take, bytes_drop}
use Rattle.laws.proofs.Tests.{both, chosen, and_stops, and_goes}
use Rattle.records.specs.Records.{byte_at, pair_at}
use Rattle.container.specs.Reading.{reading}
use Rattle.container_laws.proofs.Container.{accepted_size}
use Rattle.mending.specs.Fields.{field_size, container_in, acceptable, any_field}
use Rattle.mending.specs.Places.{gap}

-- two bytes, counted from a place on
pub pair_behind : (s : List ℕ) (at i : ℕ) → pair_at (drop at s) i ≡ pair_at s (at + i)
unfolding pair_at byte_at
pair_behind s at i =
    let e : at + (i + 1) ≡ at + i + 1 = omega arith in
    omega (arith, get_or-drop at s i 0, get_or-drop at s (i + 1) 0 ∙ ap (λ (n : ℕ). get_or s n 0) e)

-- what an acceptable field is
pub record Accepts (s : List ℕ) : Type 0 where
  pub tag : byte_at s 0 ≡ 1
  pub whole : field_size s ≤ length s
  pub accepted : (reading (container_in s)).number ≡ 0

pub accepts : (s : List ℕ) → acceptable s ≡ true → Accepts s
unfolding acceptable
accepts s e =
    let t = both (eqb (byte_at s 0) 1) _ e in
    let w = both (leb (field_size s) (length s)) _ t.1 in
    record { tag = eqb-true (byte_at s 0) 1 t.0; whole = leb-true (field_size s) (length s) w.0; accepted = eqb-true (reading (container_in s)).number 0 w.1 }

pub fits : (s : List ℕ) → acceptable s ≡ true → (3 ≤ field_size s) × (field_size s ≤ length s)
unfolding field_size
fits s e = (omega arith, (accepts s e).whole)

-- the smallest has a container of five bytes
pub smallest : (s : List ℕ) → Bytes s → acceptable s ≡ true → 8 ≤ field_size s
unfolding field_size container_in
smallest s h e =
    let a = accepts s e in
    let n : length (take (pair_at s 1) (drop 3 s)) ≡ pair_at s 1 = length-take-le (pair_at s 1) (drop 3 s) (omega (arith, a.whole, length-drop 3 s)) in
    omega (arith, n, (accepted_size (take (pair_at s 1) (drop 3 s)) (bytes_take (pair_at s 1) (drop 3 s) (bytes_drop 3 s h)) a.accepted).0)

empty_size : length {A = ℕ} [] < field_size []
unfolding field_size
empty_size = omega arith

-- the tests one after the other
stops : (a b : Bool) → b ≡ false → (a && b) ≡ false
stops true b e = e
stops false b e = refl

pub other_tag : (s : List ℕ) → (byte_at s 0 ≡ 1 → ⊥) → acceptable s ≡ false
unfolding acceptable
other_tag s h = and_stops (eqb (byte_at s 0) 1) _ (ne_eqb (byte_at s 0) 1 h)

pub not_whole : (s : List ℕ) → length s < field_size s → acceptable s ≡ false
unfolding acceptable
not_whole s h = stops (eqb (byte_at s 0) 1) _ (and_stops (leb (field_size s) (length s)) _ (lt-leb (field_size s) (length s) h))

pub by_container : (s : List ℕ) → byte_at s 0 ≡ 1 → field_size s ≤ length s → acceptable s ≡ eqb (reading (container_in s)).number 0
unfolding acceptable
by_container s h k = and_goes (eqb (byte_at s 0) 1) _ (eq-eqb (byte_at s 0) 1 h) ∙ and_goes (leb (field_size s) (length s)) _ (le-leb (field_size s) (length s) k)

pub gap_none : (s : List ℕ) → acceptable s ≡ true → gap s ≡ 0
unfolding gap
gap_none [] e = refl
gap_none (b ∷ s) e = rw e

pub gap_more : (b : ℕ) (s : List ℕ) → acceptable (b ∷ s) ≡ false → gap (b ∷ s) ≡ suc (gap s)
unfolding gap
gap_more b s e = rw e

pub gap_within : (s : List ℕ) → gap s ≤ length s
unfolding gap
gap_within [] = omega arith
gap_within (b ∷ s) = chosen (λ (n : ℕ). n ≤ suc (length s)) (acceptable (b ∷ s)) _ _ (λ _. omega arith) (λ _. omega (arith, gap_within s))

-- before the end it is an acceptable field's
pub gap_at : (s : List ℕ) → gap s < length s → acceptable (drop (gap s) s) ≡ true
gap_at [] h = absurd (let z : ⊥ = omega arith in z)
gap_at (b ∷ s) h = go (acceptable (b ∷ s)) refl (gap_at s)
  where
    go : (t : Bool) → acceptable (b ∷ s) ≡ t → (gap s < length s → acceptable (drop (gap s) s) ≡ true) → acceptable (drop (gap (b ∷ s)) (b ∷ s)) ≡ true
    go true e r = rw (gap_none (b ∷ s) e) e
    go false e r = rw (gap_more b s e) (r (omega (arith, h, gap_more b s e)))

pub gap_end : (s : List ℕ) (at : ℕ) → length s ≤ at → gap (drop at s) ≡ 0
gap_end s at h = omega (arith, gap_within (drop at s), length-drop at s)

-- a place before the end with no gap
pub lands_at : (s : List ℕ) (at : ℕ) → at < length s → gap (drop at s) ≡ 0 → acceptable (drop at s) ≡ true
lands_at s at h g = ap (λ (n : ℕ). acceptable (drop n (drop at s))) (sym g) ∙ gap_at (drop at s) (omega (arith, g, length-drop at s, h))

-- nothing starts behind the end
pub none_behind : (s : List ℕ) (at : ℕ) → length s ≤ at → acceptable (drop at s) ≡ false
none_behind s at h = ap acceptable (drop_of_length-le s h) ∙ not_whole [] empty_size

-- and from there on there is none
pub gap_again : (s : List ℕ) → gap (drop (gap s) s) ≡ 0
gap_again s =
    elim (dec_lt (gap s) (length s)) [
      | yes h ↦ gap_none (drop (gap s) s) (gap_at s h)
      | no n ↦ gap_end s (gap s) (omega arith)
    ]

-- a place counted from another on
pub drop_on : (s : List ℕ) (at n to : ℕ) → to ≡ at + n → drop n (drop at s) ≡ drop to s
drop_on s at n to e = drop-drop n at s ∙ ap (λ (m : ℕ). drop m s) (sym e)

-- the next place that starts a field, from a place on
pub next_lands : (s : List ℕ) (at next : ℕ) → next ≡ at + gap (drop at s) → gap (drop next s) ≡ 0
next_lands s at next e = ap gap (sym (drop_on s at (gap (drop at s)) next e)) ∙ gap_again (drop at s)

-- one place on
pub gap_step : (s : List ℕ) (at : ℕ) → at < length s → acceptable (drop at s) ≡ false → at + gap (drop at s) ≡ at + 1 + gap (drop (at + 1) s)
gap_step s at h e =
    let d : drop at s ≡ get_or s at 0 ∷ drop (at + 1) s = rw add-one (drop-cons s at 0 h) in
    ap (λ (l : List ℕ). at + gap l) d ∙ ap (λ (n : ℕ). at + n) (gap_more (get_or s at 0) (drop (at + 1) s) (sym (ap acceptable d) ∙ e)) ∙ omega arith

-- a place in the input starts an acceptable field exactly where there is one before the end
pub any_gap : (s : List ℕ) → gap s < length s → any_field s ≡ true
unfolding any_field
any_gap [] h = absurd (let z : ⊥ = omega arith in z)
any_gap (b ∷ s) h = go (acceptable (b ∷ s)) refl (any_gap s)
  where
    go : (t : Bool) → acceptable (b ∷ s) ≡ t → (gap s < length s → any_field s ≡ true) → (acceptable (b ∷ s) || any_field s) ≡ true
    go true e r = rw e
    go false e r = rw e (r (omega (arith, h, gap_more b s e)))

pub none_gap : (s : List ℕ) → gap s ≡ length s → any_field s ≡ false
unfolding any_field
none_gap [] h = refl
none_gap (b ∷ s) h = go (acceptable (b ∷ s)) refl (none_gap s)
  where
    go : (t : Bool) → acceptable (b ∷ s) ≡ t → (gap s ≡ length s → any_field s ≡ false) → (acceptable (b ∷ s) || any_field s) ≡ false
    go true e r = absurd (let z : ⊥ = omega (arith, h, gap_none (b ∷ s) e) in z)
    go false e r = rw e (r (omega (arith, h, gap_more b s e)))
