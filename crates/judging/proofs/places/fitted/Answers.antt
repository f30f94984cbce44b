use Prim.Native.Nat.{ℕ}
use mathlib.Core.Path.{◌≡◌, refl, ap, ◌∙◌}
use mathlib.Core.List.{List}
use native.Mathlib.Omega.{arith}
use lib.ListN.{length, get_or, set}
use Rattle.laws.specs.Lists.{each}
use Rattle.laws.proofs.Lists.{each_more, each_all}
use Rattle.judging.specs.Places.{place_fitted}
use Rattle.judging.proofs.places.fitted.Goals as goal

pub loop-place-init : goal.loop-place-init
unfolding each
loop-place-init c = (c.well_formed.1.1.0.1.0.1, refl)

pub loop-place-preserved : goal.loop-place-preserved
loop-place-preserved c =
    let l = c.loop-place in
    let a = c.args in
    let g = place_fitted a.rate a.bytes in (
      l.invariant.0,
      ap (λ (p : ℕ). set l.place-items l.place-index p) c.place_fitted.ensures
          ∙ ap (λ (o : List ℕ). set o l.place-index (g (get_or o l.place-index 0))) l.invariant.1
          ∙ each_more g 0 l.place-index a.places (omega (arith, l.invariant.0)),
    )

pub returns : goal.returns
returns c =
    let l = c.loop-place in
    let a = c.args in
    let g = place_fitted a.rate a.bytes in
    let e : l.place-index ≡ length a.places = omega (arith, l.invariant.0) in
    l.invariant.1 ∙ ap (λ (n : ℕ). each g n a.places) e ∙ each_all g a.places
