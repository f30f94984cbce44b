-- Pieces of text put one after the other: what stands in the buffer, and the place after it.
use Prim.Native.Nat.{ℕ, ◌+◌, ◌≤◌, ◌<◌, min}
use mathlib.Core.Path.{◌≡◌, refl, sym, ap, subst, ◌∙◌}
use mathlib.Core.List.{List, [], ◌++◌}
use native.Mathlib.Omega.{arith}
use native.Mathlib.Nat.{add-zero, zero-add}
use native.Mathlib.Decide.{dec_lt}
use borrow.Author.Tests.{le-leb, lt-leb}
use lib.ListN.{length, length-append}
use lib.Seq.{sets, length-sets}
use Rattle.laws.proofs.Lists.{sets_append, sets_then, sets_out}
use Rattle.text.specs.Lines.{last_place, place_past, Put}

-- below the last place the place after is the plain sum
pub place_plain : (at n : ℕ) → at + n ≤ last_place → place_past at n ≡ at + n
unfolding place_past
place_plain at n h = rw (le-leb (at + n) last_place h)

pub place_last : (at n : ℕ) → last_place < at + n → place_past at n ≡ last_place
unfolding place_past
place_last at n h = rw (lt-leb (at + n) last_place h)

-- the sum as the machine has it, which stops at the last place
pub place_stopped : (at n : ℕ) → min (at + n) last_place ≡ place_past at n
place_stopped at n =
    elim (dec_lt last_place (at + n)) [
      | yes l ↦ omega (arith, place_last at n l)
      | no m ↦ omega (arith, place_plain at n (omega arith))
    ]

-- nothing put
pub put_none : (o : List ℕ) (at : ℕ) → at ≤ last_place → Put o at [] o at
put_none o at h = record { place = sym (place_plain at 0 (omega arith) ∙ add-zero at); stands = refl }

placed : (a m b n : ℕ) → a + m ≡ b + n → place_past a m ≡ place_past b n
unfolding place_past
placed a m b n e = rw e

stays : (n : ℕ) → place_past last_place n ≡ last_place
stays n =
    elim (dec_lt last_place (last_place + n)) [
      | yes l ↦ place_last last_place n l
      | no m ↦ (let h : last_place + n ≤ last_place = omega arith in place_plain last_place n h ∙ omega arith)
    ]

-- one piece, then another from where it ended
pub put_then : {o xs ys o' o'' : List ℕ} {at next next' : ℕ} → Put o at xs o' next → Put o' next ys o'' next' → length o ≤ last_place → Put o at (xs ++ ys) o'' next'
put_then {o = o} {xs = xs} {ys = ys} {o' = o'} {o'' = o''} {at = at} {next = next} {next' = next'} p q h = elim (dec_lt last_place (at + length xs)) [ yes l ↦ far l | no n ↦ near (omega arith) ]
  where
    near : at + length xs ≤ last_place → Put o at (xs ++ ys) o'' next'
    near n =
        let e : next ≡ at + length xs = p.place ∙ place_plain at (length xs) n in
        let f : next + length ys ≡ at + length (xs ++ ys) = omega (arith, e, length-append xs ys) in
        record { place = q.place ∙ placed next (length ys) at (length (xs ++ ys)) f; stands = sets_then o o' o'' xs ys at next p.stands e q.stands }

    far : last_place < at + length xs → Put o at (xs ++ ys) o'' next'
    far l =
        let e : next ≡ last_place = p.place ∙ place_last at (length xs) l in
        let k : length o' ≤ next = omega (arith, e, ap length p.stands, length-sets o at xs) in
        let m : length (sets o at xs) ≤ at + length xs = omega (arith, length-sets o at xs) in
        let g : last_place < at + length (xs ++ ys) = omega (arith, length-append xs ys) in
        record {
          place = q.place ∙ ap (λ (i : ℕ). place_past i (length ys)) e ∙ stays (length ys) ∙ sym (place_last at (length (xs ++ ys)) g);
          stands = q.stands ∙ sets_out o' next ys k ∙ p.stands ∙ sym (sets_out (sets o at xs) (at + length xs) ys m) ∙ sets_append o at xs ys;
        }

-- the same text by another name
pub put_as : {o xs ys o' : List ℕ} {at next : ℕ} → xs ≡ ys → Put o at xs o' next → Put o at ys o' next
put_as {o = o} {o' = o'} {at = at} {next = next} e p = subst (λ (l : List ℕ). Put o at l o' next) e p

-- the buffer keeps its length
pub put_same : {o xs o' : List ℕ} {at next : ℕ} → Put o at xs o' next → length o' ≡ length o
put_same {o = o} {xs = xs} {at = at} p = ap length p.stands ∙ length-sets o at xs

-- a whole line from the front on, no longer than the last place
pub put_front : {o line o' : List ℕ} {next : ℕ} → Put o 0 line o' next → length line ≤ last_place → (next ≡ length line) × (o' ≡ sets o 0 line)
put_front {line = line} p h = (p.place ∙ place_plain 0 (length line) (omega arith) ∙ zero-add (length line), p.stands)

-- no second outcome
pub put_once : {o xs o' o'' : List ℕ} {at next next' : ℕ} → Put o at xs o' next → Put o at xs o'' next' → (next ≡ next') × (o' ≡ o'')
put_once p q = (p.place ∙ sym q.place, p.stands ∙ sym q.stands)
