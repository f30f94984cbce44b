-- What follows from each call's being document 01's over plain histories (`Steps`), and laws of those histories.
use Prim.Native.Nat.{ℕ, ◌+◌, ◌*◌, ◌%◌, ◌<◌}
use mathlib.Core.Path.{◌≡◌, refl, sym, ap, ◌∙◌}
use mathlib.Core.Bool.{Bool, true, false, cond, ◌&&◌, not, true≢false}
use mathlib.Core.List.{List, [], ◌∷◌, ◌++◌}
use native.Mathlib.Omega.{arith}
use lib.Dec.{ltb, leb, eqb}
use lib.ListN.{length, drop}
use borrow.Author.Tests.{eqb-true, eq-eqb}
use Rattle.laws.proofs.Tests.{both, chosen}
use Rattle.sampling.specs.Formats.{row_of}
use Rattle.sampling.specs.Samples.{pixels}
use Rattle.picture.specs.declared.Told.{Told}
use Rattle.picture.specs.declared.Told.TheVariants.{Open, Nothing, Value}
use Rattle.picture.specs.declared.Picture.{Picture}
use Rattle.picture.specs.Pictures.{Scanned}
use Rattle.picture.specs.Fields.{compared, told_fingerprint, told_ended}
use Rattle.picture.specs.Lines.{interlaced, monitored, due_line, order_number, line_number}
use Rattle.laws.specs.Video.{video_values}
use Rattle.picture.specs.Pictures.{number_at, line_of, taken, field_ended, shown_one, shown_two}
use Rattle.picture.specs.History.{fields, field_tells, next_field, next_line, starts_frame, frame_shows, frame_gave, Waiting, is_waiting, line_tells, takes, lines_after, told_after, number_said, told_said}
use Rattle.picture.proofs.Steps.{Holds, next_monitored, due_is, line_right}

-- document 01's numbers of a line are 0, 2, 3, 4 and 5
pub number_not_1 : (f due : ℕ) (ready : Bool) (n len : ℕ) → line_number f due ready n len ≡ 1 → ⊥
unfolding line_number order_number
number_not_1 f due ready n len =
    chosen P (eqb len (2 * (row_of f).width)) _ _
    (λ _. chosen P (leb 1 n && leb n (row_of f).lines) _ _
    (λ _. chosen P (monitored (row_of f) n && not (eqb n due)) _ _
    (λ _ e. omega arith)
    (λ _. chosen P (ready && eqb n (row_of f).vstart1) _ _ (λ _ e. omega arith) (λ _ e. omega arith)))
    (λ _ e. omega arith))
    (λ _ e. omega arith)
  where
    P : ℕ → Type 0
    P k = k ≡ 1 → ⊥

-- ---- of a picture p of format f that holds what the lines ls and the frame w that waits say (`Holds`): every picture that calls make
module _ (f : ℕ) (listed : f < 8) (ls : List (List ℕ)) (w : Waiting) (p : Picture) (o : Holds f ls w p) (n : ℕ) (b : List ℕ) where
  -- no line is answered with 1
  pub never_1 : (line_of p f n b).number ≡ 1 → ⊥
  unfolding number_said
  never_1 e = number_not_1 f (next_line f ls) (is_waiting w) n (length b) (sym (line_right f listed ls w p o n b).number ∙ e)

  -- the line that ends a field with two before it tells the fingerprint and the counts of that field and the second before it
  pub tells_by_second :
      (x y z : List ℕ) (fs : List (List ℕ)) → takes f n (line_of p f n b).number ≡ true
      → length (pixels (row_of f) b ∷ ls) % 16 ≡ 0 → fields (pixels (row_of f) b ∷ ls) ≡ x ∷ y ∷ z ∷ fs
      → (line_of p f n b).told ≡ compared x z
  unfolding told_said told_after lines_after line_tells field_tells
  tells_by_second x y z fs t k e =
      let l = line_right f listed ls w p o n b in
      l.told ∙ rw (← l.number, t, eq-eqb _ _ k, e) refl

  -- a line that is not monitored changes nothing
  pub unmonitored_same : monitored (row_of f) n ≡ false → (line_of p f n b).picture ≡ p
  unfolding line_of
  unmonitored_same m =
      chosen P (eqb (number_at p f n (length b)) 0) _ _
      (λ _. chosen P (eqb n (due_line (row_of f) p.frame.field p.row)) _ _
      (λ y.
      let e : n ≡ next_line f ls = eqb-true _ _ y ∙ due_is f ls w p o in
      absurd (true≢false (sym (ap (monitored (row_of f)) e ∙ next_monitored f ls) ∙ m)))
      (λ _. refl))
      (λ _. refl)
    where
      P : Scanned → Type 0
      P x = x.picture ≡ p

-- a frame of two fields gives a fingerprint for both of them or for none
pub all_or_none : (fs : List (List ℕ)) → length fs % 2 ≡ 0 → length (told_fingerprint (field_tells (drop 1 fs))) ≡ length (told_fingerprint (field_tells fs))
unfolding field_tells compared told_fingerprint
all_or_none [] e = refl
all_or_none (a ∷ []) e = absurd (let z : ⊥ = omega arith in z)
all_or_none (a ∷ b ∷ []) e = refl
all_or_none (a ∷ b ∷ c ∷ []) e = absurd (let z : ⊥ = omega arith in z)
all_or_none (a ∷ b ∷ c ∷ d ∷ fs) e = refl

one_shown : (t : Told) → video_values (shown_one t) ≡ told_fingerprint t
unfolding video_values shown_one told_fingerprint
one_shown Open = refl
one_shown Nothing = refl
one_shown (Value v b k) = refl

two_shown : (t u : Told) → length (told_fingerprint t) ≡ length (told_fingerprint u) → video_values (shown_two (shown_one t) u) ≡ told_fingerprint t ++ told_fingerprint u
unfolding video_values shown_one shown_two told_fingerprint
two_shown Open Open e = refl
two_shown Open Nothing e = refl
two_shown Open (Value v b k) e = absurd (let z : ⊥ = omega arith in z)
two_shown Nothing Open e = refl
two_shown Nothing Nothing e = refl
two_shown Nothing (Value v b k) e = absurd (let z : ⊥ = omega arith in z)
two_shown (Value v b k) Open e = absurd (let z : ⊥ = omega arith in z)
two_shown (Value v b k) Nothing e = absurd (let z : ⊥ = omega arith in z)
two_shown (Value v b k) (Value v' b' k') e = refl

-- so a frame that has ended shows every fingerprint that its fields gave
pub shows_all : (f : ℕ) (ls : List (List ℕ)) → starts_frame f ls ≡ true → video_values (frame_shows f (fields ls)) ≡ frame_gave f (fields ls)
unfolding starts_frame next_field frame_shows frame_gave
shows_all f ls s = go (interlaced (row_of f)) (both (eqb (cond (interlaced (row_of f)) (length (fields ls) % 2 + 1) 1) 1) _ s).0
  where
    go : (t : Bool) → eqb (cond t (length (fields ls) % 2 + 1) 1) 1 ≡ true
        → video_values (cond t (shown_two (shown_one (field_tells (drop 1 (fields ls)))) (field_tells (fields ls))) (shown_one (field_tells (fields ls))))
        ≡ cond t (told_fingerprint (field_tells (drop 1 (fields ls))) ++ told_fingerprint (field_tells (fields ls))) (told_fingerprint (field_tells (fields ls)))
    go true e = two_shown _ _ (all_or_none (fields ls) (omega (arith, eqb-true (length (fields ls) % 2 + 1) 1 e)))
    go false e = one_shown (field_tells (fields ls))

taken_0 : (p : Picture) (f : ℕ) (b : List ℕ) → (taken p f b).number ≡ 0
unfolding taken field_ended
taken_0 p f b = chosen (λ (x : Scanned). x.number ≡ 0) (ltb p.row 15) _ _ (λ _. refl) (λ _. refl)

-- a refusal changes nothing, whatever the picture
pub refused_same : (p : Picture) (f n : ℕ) (b : List ℕ) → ((line_of p f n b).number ≡ 0 → ⊥) → (line_of p f n b).picture ≡ p
unfolding line_of
refused_same p f n b =
    chosen P (eqb (number_at p f n (length b)) 0) _ _
    (λ _. chosen P (eqb n (due_line (row_of f) p.frame.field p.row)) _ _ (λ _ h. absurd (h (taken_0 p f b))) (λ _ h. refl))
    (λ _ h. refl)
  where
    P : Scanned → Type 0
    P x = (x.number ≡ 0 → ⊥) → x.picture ≡ p

field_ends : (fs : List (List ℕ)) → told_ended (field_tells fs) ≡ true
unfolding field_tells compared told_ended
field_ends [] = refl
field_ends (a ∷ []) = refl
field_ends (a ∷ b ∷ []) = refl
field_ends (a ∷ b ∷ c ∷ fs) = refl

-- whether the field ended is told
pub ended_told : (ls : List (List ℕ)) → told_ended (line_tells ls) ≡ eqb (length ls % 16) 0
unfolding line_tells told_ended
ended_told ls = go (eqb (length ls % 16) 0)
  where
    go : (t : Bool) → told_ended (cond t (field_tells (fields ls)) Open) ≡ t
    go true = field_ends (fields ls)
    go false = refl
