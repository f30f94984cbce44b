-- `floats::floored` meets its contract: `Middle` of x (`Scaled.antt`) at each need.
use Rattle.std.proofs.Common.{◌≡◌, ◌^◌, ◌<◌, Bool, true, false, T, ℤ, pos, negsuc, ◌-ℤ◌, sym, ap, ◌∙◌, subst, arith, le→leb, lt→ltb, w32, w64, SFits, to_z, of_z}
use lib.Signed.{mag}
use lib.Ieee.{Float, binary32, of_bits, of_int, lt, mul, to_signed, in_float}
use mir.ValLaws.{to_z-of_z}
use Rattle.floats.specs.Values.{sample_of}
use Rattle.floats.proofs.Scaled.{scale, Middle, middle}
use Rattle.floats.proofs.floored.Goals as goal
use Rattle.floats.proofs.floored.Goals.{Start}

-- ---- a number of few bits is a float, fits both widths, and so does the next below
small_in_float : (z : ℤ) → mag z < 2 ^ 15 → T (in_float binary32 z)
unfolding in_float
small_in_float (pos n) h = le→leb n (2 ^ 24) (omega arith)
small_in_float (negsuc n) h = lt→ltb n (2 ^ 24) (omega arith)

narrow : (z : ℤ) → mag z < 2 ^ 15 → SFits w32 z
narrow z h = record { sfits = omega arith }

wide : (z : ℤ) → mag z < 2 ^ 15 → SFits w64 z
wide z h = record { sfits = omega arith }

-- ---- at the number z that the cut gave
module _ (x : Float) (M : Middle x) (z : ℤ) (e : z ≡ to_signed 63 (mul binary32 x scale)) where
  few : mag z < 2 ^ 15
  few = subst (λ (w : ℤ). mag w < 2 ^ 15) (sym e) M.few

  read : to_z w64 (of_z w64 z) ≡ z
  read = to_z-of_z w64 z (wide z few)

  abbrev got : ℤ
  got = to_z w64 (of_z w64 z)

  got_is : got ≡ to_signed 63 (mul binary32 x scale)
  got_is = read ∙ e

  got_few : mag got < 2 ^ 15
  got_few = subst (λ (w : ℤ). mag w < 2 ^ 15) (sym read) few

  module _ (b : Bool) (t : lt (mul binary32 x scale) (of_int binary32 got) ≡ b) where
    tested : lt (mul binary32 x scale) (of_int binary32 (to_signed 63 (mul binary32 x scale))) ≡ b
    tested = ap (λ (w : ℤ). lt (mul binary32 x scale) (of_int binary32 w)) (sym got_is) ∙ t

  module _ (t : lt (mul binary32 x scale) (of_int binary32 got) ≡ true) where
    less_few : mag (got -ℤ pos 1) < 2 ^ 15
    less_few = subst (λ (w : ℤ). mag (w -ℤ pos 1) < 2 ^ 15) (sym got_is) (M.few_below (tested true t))

    less_read : to_z w64 (of_z w64 (got -ℤ pos 1)) ≡ got -ℤ pos 1
    less_read = to_z-of_z w64 (got -ℤ pos 1) (wide (got -ℤ pos 1) less_few)

    less_narrow : SFits w32 (to_z w64 (of_z w64 (got -ℤ pos 1)))
    less_narrow = subst (SFits w32) (sym less_read) (narrow (got -ℤ pos 1) less_few)

    less_is : to_z w32 (of_z w32 (to_z w64 (of_z w64 (got -ℤ pos 1)))) ≡ sample_of x
    less_is = to_z-of_z w32 (to_z w64 (of_z w64 (got -ℤ pos 1))) less_narrow ∙ less_read ∙ ap (λ (w : ℤ). w -ℤ pos 1) got_is ∙ M.one_below (tested true t)

  same_is : lt (mul binary32 x scale) (of_int binary32 got) ≡ false → to_z w32 (of_z w32 got) ≡ sample_of x
  same_is t = to_z-of_z w32 got (narrow got got_few) ∙ got_is ∙ M.just (tested false t)

-- ---- the needs
mid : (c : goal.Start) → Middle c.args.x
mid c = middle c.args.x (subst T (sym c.well_formed.0.1) tt) c.requires.above c.requires.below

pub truncating_f32_to_i64-t-requires-clause-lower_bound : goal.truncating_f32_to_i64-t-requires-clause-lower_bound
unfolding of_bits
truncating_f32_to_i64-t-requires-clause-lower_bound c =
    (mid (goal.at.truncating_f32_to_i64-t-requires-clause-lower_bound c).Start).above

pub truncating_f32_to_i64-t-requires-clause-upper_bound : goal.truncating_f32_to_i64-t-requires-clause-upper_bound
unfolding of_bits
truncating_f32_to_i64-t-requires-clause-upper_bound c =
    (mid (goal.at.truncating_f32_to_i64-t-requires-clause-upper_bound c).Start).under

pub int_to_float-t : goal.int_to_float-t
unfolding of_bits
int_to_float-t c = small_in_float _ (got_few c.args.x (mid (goal.at.int_to_float-t c).Start) c.truncating_f32_to_i64-t.result c.truncating_f32_to_i64-t.ensures)

pub overflow_sub-result : goal.overflow_sub-result
unfolding of_bits
overflow_sub-result c = wide _ (less_few c.args.x (mid (goal.at.overflow_sub-result c).Start) c.truncating_f32_to_i64-t.result c.truncating_f32_to_i64-t.ensures c.if-y-t.true)

pub overflow_cast-result : goal.overflow_cast-result
unfolding of_bits
overflow_cast-result c = less_narrow c.args.x (mid (goal.at.overflow_cast-result c).Start) c.truncating_f32_to_i64-t.result c.truncating_f32_to_i64-t.ensures c.if-y-t.true

pub overflow_cast-result-else-y-t : goal.overflow_cast-result-else-y-t
unfolding of_bits
overflow_cast-result-else-y-t c = narrow _ (got_few c.args.x (mid (goal.at.overflow_cast-result-else-y-t c).Start) c.truncating_f32_to_i64-t.result c.truncating_f32_to_i64-t.ensures)

pub returns-then-y-t : goal.returns-then-y-t
unfolding of_bits
returns-then-y-t c = less_is c.args.x (mid (goal.at.returns-then-y-t c).Start) c.truncating_f32_to_i64-t.result c.truncating_f32_to_i64-t.ensures c.if-y-t.true

pub returns-else-y-t : goal.returns-else-y-t
unfolding of_bits
returns-else-y-t c = same_is c.args.x (mid (goal.at.returns-else-y-t c).Start) c.truncating_f32_to_i64-t.result c.truncating_f32_to_i64-t.ensures c.if-y-t.false
