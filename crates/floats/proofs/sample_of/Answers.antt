-- `floats::sample_of` meets its contract, by the tests.
use Rattle.std.proofs.Common.{◌≡◌, true, T, pos, sym, refl, ◌∙◌, subst}
use Rattle.std.proofs.lemmas.Bool.{false≢true}
use lib.Ieee.{Float, nan, inf, fin, is_nan, of_bits, neg}
use Rattle.floats.specs.Values.{sample_of}
use Rattle.floats.proofs.Scaled.{at_top, at_bottom}
use Rattle.floats.proofs.sample_of.Goals as goal

none : (x : Float) → is_nan x ≡ true → pos 0 ≡ sample_of x
unfolding is_nan sample_of
none nan e = refl
none (inf s) e = absurd (false≢true e)
none (fin s m k) e = absurd (false≢true e)

pub returns-then-is_nan : goal.returns-then-is_nan
returns-then-is_nan c = none c.args.x (sym c.is_nan.ensures.value ∙ c.if-is_nan.true)

pub floored-requires-clause-above : goal.floored-requires-clause-above
unfolding of_bits neg
floored-requires-clause-above c =
    subst T (sym c.if-x-2.true) tt

pub returns-then-x : goal.returns-then-x
unfolding of_bits neg
returns-then-x c = at_bottom c.args.x (sym c.is_nan.ensures.value ∙ c.if-is_nan.false) c.if-x-2.false

pub returns : goal.returns
unfolding of_bits neg
returns c = at_top c.args.x (sym c.is_nan.ensures.value ∙ c.if-is_nan.false) c.if-x.false
