-- The frame holds what the lines and the frame that waits say: one line more.
use Prim.Native.Nat.{ℕ, suc, ◌%◌}
use mathlib.Core.Path.{◌≡◌, refl, sym, ◌∙◌}
use mathlib.Core.Bool.{Bool, true, false, cond, and-false, true≢false}
use mathlib.Core.List.{List, ◌∷◌}
use native.Mathlib.Omega.{arith}
use lib.Dec.{eqb}
use lib.ListN.{length}
use borrow.Author.Tests.{eqb-true, eqb-false, eq-eqb, ne_eqb}
use Rattle.sampling.specs.Formats.{row_of}
use Rattle.laws.specs.declared.Video.{Video}
use Rattle.picture.specs.declared.Frame.{Frame}
use Rattle.picture.specs.Lines.{interlaced}
use Rattle.picture.specs.Pictures.{shown_one, frame_after}
use Rattle.picture.specs.History.{fields, field_tells, next_field, starts_frame, frame_shows, Waiting, no_frame, a_frame}

-- the frame that waits, by the picture's own values
abbrev pub waiting_of : Bool → Video → Waiting
waiting_of true s = a_frame s
waiting_of false s = no_frame

pub record Framed (f : ℕ) (fr : Frame) (ls : List (List ℕ)) (w : Waiting) : Type 0 where
  pub field : fr.field ≡ next_field f ls
  pub first : next_field f ls ≡ 2 → fr.first ≡ shown_one (field_tells (fields ls))
  pub waits : w ≡ waiting_of fr.ready fr.shown
  pub between : fr.ready ≡ true → starts_frame f ls ≡ true

pub no_true : {A : Type 0} {b : Bool} → b ≡ false → b ≡ true → A
no_true e t = absurd (true≢false (sym t ∙ e))

-- one line more, of a frame that is not ready
module _ (f : ℕ) (fr : Frame) (ls : List (List ℕ)) (w : Waiting) (o : Framed f fr ls w) (px : List ℕ) (not-ready : fr.ready ≡ false) where
  abbrev pub Waits : Waiting
  Waits = cond (starts_frame f (px ∷ ls)) (a_frame (frame_shows f (fields (px ∷ ls)))) w

  pub framed_open : (suc (length ls) % 16 ≡ 0 → ⊥) → Framed f fr (px ∷ ls) Waits
  unfolding fields next_field starts_frame
  framed_open n = rw (ne_eqb _ _ n, and-false) (record {
    field = rw (ne_eqb _ _ n) o.field;
    first = rw (ne_eqb _ _ n) o.first;
    waits = o.waits;
    between = no_true not-ready;
  })

  module _ (z : suc (length ls) % 16 ≡ 0) where
    abbrev Goal : Type 0
    Goal = Framed f (frame_after fr (field_tells (fields (px ∷ ls))) (interlaced (row_of f))) (px ∷ ls) Waits

    -- a frame of one field ends with it
    one : interlaced (row_of f) ≡ false → Goal
    unfolding frame_after fields next_field starts_frame frame_shows
    one e = rw (eq-eqb _ _ z, e) (record {
      field = rw e refl;
      first = rw e (λ x. absurd (omega arith));
      waits = refl;
      between = λ x. rw (e, eq-eqb _ _ z) refl;
    })

    -- field 1 of two
    half : interlaced (row_of f) ≡ true → length (fields ls) % 2 ≡ 0 → Goal
    unfolding frame_after fields next_field starts_frame frame_shows
    half e y =
        let q : fr.field ≡ 1 = o.field ∙ rw (e, y) refl in
        let p : suc (length (fields ls)) % 2 ≡ 1 = omega arith in
        rw (eq-eqb _ _ z, e, q, p) (record {
          field = rw (e, eq-eqb _ _ z, p) refl;
          first = λ x. rw (eq-eqb _ _ z) refl;
          waits = o.waits ∙ rw not-ready refl;
          between = no_true refl;
        })

    -- field 2 of two
    both : interlaced (row_of f) ≡ true → (length (fields ls) % 2 ≡ 0 → ⊥) → Goal
    unfolding frame_after fields next_field starts_frame frame_shows
    both e y =
        let r : length (fields ls) % 2 ≡ 1 = omega arith in
        let q : fr.field ≡ 2 = o.field ∙ rw (e, r) refl in
        let p : suc (length (fields ls)) % 2 ≡ 0 = omega arith in
        let t : fr.first ≡ shown_one (field_tells (fields ls)) = o.first (rw (e, r) refl) in
        rw (eq-eqb _ _ z, e, q, p) (record {
          field = rw (e, eq-eqb _ _ z, p) refl;
          first = rw (e, eq-eqb _ _ z, p) (λ x. absurd (omega arith));
          waits = rw t refl;
          between = λ x. rw (e, eq-eqb _ _ z, p) refl;
        })

    pub framed_whole : Goal
    framed_whole = go (interlaced (row_of f)) (eqb (length (fields ls) % 2) 0) refl refl
      where
        go : (b c : Bool) → interlaced (row_of f) ≡ b → eqb (length (fields ls) % 2) 0 ≡ c → Goal
        go false c e y = one e
        go true true e y = half e (eqb-true _ _ y)
        go true false e y = both e (eqb-false _ _ y)
