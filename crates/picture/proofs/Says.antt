-- What Line answers and what a frame shows, as document 01's numbers and values.
use Prim.Native.Nat.{ℕ}
use mathlib.Core.Path.{◌≡◌, refl, sym, ◌∙◌}
use mathlib.Core.Bool.{Bool, true, false, cond, true≢false}
use mathlib.Core.List.{List, []}
use borrow.Author.Tests.{eqb-true}
use lib.Dec.{ltb, eqb}
use lib.ListN.{length}
use Rattle.laws.specs.declared.Video.TheVariants.{Absent}
use Rattle.laws.specs.Video.{video_values}
use Rattle.laws.proofs.Tests.{chosen}
use Rattle.std.proofs.Common.{Result, Ok, Err}
use Rattle.laws.specs.declared.Refusal.{Refusal}
use Rattle.laws.specs.Refusals.{number_in}
use Rattle.sampling.specs.Formats.{row_of}
use Rattle.sampling.specs.Samples.{pixels}
use Rattle.picture.specs.declared.Told.{Told}
use Rattle.picture.specs.declared.Picture.{Picture}
use Rattle.picture.specs.Pictures.{Scanned, Handed, scanned, told_in}
use Rattle.picture.specs.Lines.{due_line}
use Rattle.picture.specs.Fields.{compared, compared_values, told_by, told_values, told_ended, Says, says_of}
use Rattle.picture.specs.Pictures.{with_row, field_ended, taken, number_at, line_of, handed_out, ends_field, field_gives, line_says, handed_values}

-- the end of a field
told_ended_lem : (held : ℕ) (field older : List ℕ) → told_ended (told_by held field older) ≡ true
unfolding told_by compared told_ended
told_ended_lem held field older = chosen (λ (t : Told). told_ended t ≡ true) (ltb held 2) _ _ (λ _. refl) (λ _. refl)

told_values_lem : (held : ℕ) (field older : List ℕ) → told_values (told_by held field older) ≡ cond (ltb held 2) [] (compared_values field older)
unfolding told_by compared compared_values told_values
told_values_lem held field older = go (ltb held 2) refl
  where
    go : (t : Bool) → ltb held 2 ≡ t → told_values (told_by held field older) ≡ cond (ltb held 2) [] (compared_values field older)
    go true e = rw e refl
    go false e = rw e refl

abbrev says : Scanned → Says
says r = says_of r.number r.told

module _ (p : Picture) (f n : ℕ) (b : List ℕ) where
  abbrev number : ℕ
  number = number_at p f n (length b)

  abbrev due : Bool
  due = eqb n (due_line (row_of f) p.frame.field p.row)

  -- a line that does not end a field says its number alone
  abbrev plain : Says
  plain = record { number = number; ended = false; values = [] }

  refused : eqb number 0 ≡ false → (says (line_of p f n b) ≡ plain) × (line_says p f n b ≡ plain)
  unfolding line_of line_says ends_field told_ended told_values
  refused e = (rw e refl, rw e refl)

  module _ (e : eqb number 0 ≡ true) where
    zero : number ≡ 0
    zero = eqb-true number 0 e

    skipped : due ≡ false → (says (line_of p f n b) ≡ plain) × (line_says p f n b ≡ plain)
    unfolding line_of line_says ends_field told_ended told_values
    skipped d = (rw (e, d, zero) refl, rw (e, d) refl)

    goes_on : due ≡ true → ltb p.row 15 ≡ true → (says (line_of p f n b) ≡ plain) × (line_says p f n b ≡ plain)
    unfolding line_of line_says ends_field taken told_ended told_values
    goes_on d o = (rw (e, d, o, zero) refl, rw (e, d, o) refl)

    ends : due ≡ true → ltb p.row 15 ≡ false → says (line_of p f n b) ≡ line_says p f n b
    unfolding line_of line_says ends_field field_gives taken field_ended
    ends d o =
        let field : List ℕ = with_row p.filling p.row (pixels (row_of f) b) in
        rw (e, d, o, zero, told_ended_lem p.held field p.older, told_values_lem p.held field p.older) refl

  pub line_says_lem : says (line_of p f n b) ≡ line_says p f n b
  line_says_lem = go (eqb number 0) due (ltb p.row 15) refl refl refl
    where
      one : {x y : Says} → (x ≡ plain) × (y ≡ plain) → x ≡ y
      one q = q.0 ∙ sym q.1

      go : (x y z : Bool) → eqb number 0 ≡ x → due ≡ y → ltb p.row 15 ≡ z → says (line_of p f n b) ≡ line_says p f n b
      go false y z e d o = one (refused e)
      go true false z e d o = one (skipped e d)
      go true true true e d o = one (goes_on e d o)
      go true true false e d o = ends e d o

-- no frame waits: nothing is handed out
pub handed_none : (p : Picture) → p.frame.ready ≡ false → record { picture = p; shown = Absent } ≡ handed_out p
unfolding handed_out
handed_none p e =
    chosen (λ (h : Handed). record { picture = p; shown = Absent } ≡ h) p.frame.ready _ _ (λ t. absurd (true≢false (sym t ∙ e))) (λ _. refl)

pub handed_says : (p : Picture) → video_values (handed_out p).shown ≡ handed_values p
unfolding handed_out handed_values video_values
handed_says p = go p.frame.ready refl
  where
    go : (b : Bool) → p.frame.ready ≡ b → video_values (handed_out p).shown ≡ handed_values p
    go true e = rw e refl
    go false e = rw e refl

-- an answer says what the number and the told value of its record say
pub answer_said : (r : Result Told Refusal) (p : Picture) → says_of (number_in r) (told_in r) ≡ says_of (scanned r p).number (scanned r p).told
answer_said (Ok told) p = refl
answer_said (Err why) p = refl
