-- The slots hold what the lines say: one line more.
use Prim.Native.Nat.{ℕ, suc, ◌+◌, ◌*◌, ◌%◌, ◌<◌}
use mathlib.Core.Path.{◌≡◌, refl, sym, ap, ◌∙◌}
use mathlib.Core.List.{List, [], ◌∷◌, ◌++◌}
use native.Mathlib.Omega.{arith}
use lib.ListN.{length, take}
use borrow.Author.Tests.{eq-eqb, ne_eqb}
use Rattle.picture.specs.Fields.{told_by, held_after}
use Rattle.picture.specs.Pictures.{with_row}
use Rattle.picture.specs.History.{joined, fields, field_tells}
use Rattle.picture.proofs.Rows.{row_more, row_size, row_last}

-- the slots hold the two newest fields
abbrev pub Slots : ℕ → List ℕ → List ℕ → List (List ℕ) → Type 0
Slots held newer older [] = held ≡ 0
Slots held newer older (f ∷ []) = (held ≡ 1) × (newer ≡ f)
Slots held newer older (f ∷ g ∷ fs) = (held ≡ 2) × (newer ≡ f) × (older ≡ g)

-- the field being filled holds the rows of the lines since the last field, and the slots the fields
pub record Kept (older newer filling : List ℕ) (row held : ℕ) (ls : List (List ℕ)) : Type 0 where
  pub place : row ≡ length ls % 16
  pub rows : take (row * 60) filling ≡ joined (take (length ls % 16) ls)
  pub size : length filling ≡ 960
  pub slots : Slots held newer older (fields ls)

pub kept_none : (older newer filling : List ℕ) → length filling ≡ 960 → Kept older newer filling 0 0 []
unfolding fields joined
kept_none older newer filling l = record { place = refl; rows = refl; size = l; slots = refl }

-- a field ends
told_is : (held : ℕ) (newer older f : List ℕ) (fs : List (List ℕ)) → Slots held newer older fs → told_by held f older ≡ field_tells (f ∷ fs)
unfolding told_by field_tells
told_is held newer older f [] s = rw s refl
told_is held newer older f (g ∷ []) s = rw s.0 refl
told_is held newer older f (g ∷ e ∷ fs) s = rw (s.0, s.2) refl

slots_moved : (held : ℕ) (newer older f : List ℕ) (fs : List (List ℕ)) → Slots held newer older fs → Slots (held_after held) f newer (f ∷ fs)
unfolding held_after
slots_moved held newer older f [] s = rw s (refl, refl)
slots_moved held newer older f (g ∷ []) s = rw s.0 (refl, refl, s.1)
slots_moved held newer older f (g ∷ e ∷ fs) s = rw s.0 (refl, refl, s.1)

-- one line more, of 60 bytes px
module _ (older newer filling : List ℕ) (row held : ℕ) (ls : List (List ℕ)) (o : Kept older newer filling row held ls) (px : List ℕ) (l : length px ≡ 60) where
  small : row < 16
  small = omega (arith, o.place)

  pub kept_open : row < 15 → Kept older newer (with_row filling row px) (row + 1) held (px ∷ ls)
  unfolding fields joined
  kept_open h =
      let n : (suc (length ls) % 16 ≡ 0 → ⊥) = λ e. omega (arith, o.place) in
      let m : suc (length ls) % 16 ≡ suc (length ls % 16) = omega (arith, o.place) in
      record {
        place = omega (arith, o.place);
        rows = rw (m, row_more filling px row o.size small l) (ap (λ (x : List ℕ). x ++ px) o.rows);
        size = row_size filling px row o.size small l;
        slots = rw (ne_eqb _ _ n) o.slots;
      }

  module _ (h : row < 15 → ⊥) where
    ends : suc (length ls) % 16 ≡ 0
    ends = omega (arith, o.place)

    -- the field that ends is the lines' own
    whole : fields (px ∷ ls) ≡ with_row filling row px ∷ fields ls
    unfolding fields joined
    whole =
        let p : row ≡ 15 = omega (arith, o.place) in
        let q : length ls % 16 ≡ 15 = omega (arith, o.place) in
        let x : with_row filling row px ≡ joined (take 15 ls) ++ px =
        row_last filling px row o.size small l p
        ∙ ap (λ (y : List ℕ). y ++ px) (o.rows ∙ ap (λ (n : ℕ). joined (take n ls)) q) in
        rw (eq-eqb _ _ ends) (ap (λ (y : List ℕ). y ∷ fields ls) (sym x))

    pub told_whole : told_by held (with_row filling row px) older ≡ field_tells (fields (px ∷ ls))
    told_whole = told_is held newer older (with_row filling row px) (fields ls) o.slots ∙ ap field_tells (sym whole)

    pub kept_whole : Kept newer (with_row filling row px) (with_row filling row px) 0 (held_after held) (px ∷ ls)
    unfolding joined
    kept_whole = record {
      place = sym ends;
      rows = rw ends refl;
      size = row_size filling px row o.size small l;
      slots = rw whole (slots_moved held newer older (with_row filling row px) (fields ls) o.slots);
    }
