-- What a judge says, by the tests that led to it.
use Prim.Native.Nat.{ℕ}
use mathlib.Core.Path.{◌≡◌}
use mathlib.Core.Bool.{Bool, true, false}
use mathlib.Core.List.{List, map}
use lib.Dec.{ltb}
use borrow.Author.Tests.{eq-eqb, ne_eqb}
use Rattle.container.specs.declared.Contents.{Contents}
use Rattle.judging.specs.declared.Known.{Known}
use Rattle.judging.specs.declared.Judged.{Judged}
use Rattle.judging.specs.declared.Fit.{Fit}
use Rattle.judging.specs.Packets.{packet_number, contents_in, carried}
use Rattle.judging.specs.Places.{every_place, place_fitted, any_place, fit_in}
use Rattle.judging.specs.Judge.{places_before, fit_of, judged_with, refused_with, judged_of}

abbrev pub fitting : Bool → List ℕ → Fit
fitting fault places = record { fault = fault; places = places }

module _ (rate bytes : ℕ) (places : List ℕ) where
  pub fits : any_place (map (place_fitted rate bytes) places) ≡ true → fitting false (map (place_fitted rate bytes) places) ≡ fit_in rate bytes places
  unfolding fit_in
  fits e = rw e

  pub begins_anew : any_place (map (place_fitted rate bytes) places) ≡ false → fitting true (map (place_fitted rate bytes) every_place) ≡ fit_in rate bytes places
  unfolding fit_in
  begins_anew e = rw e

module _ (k : Known) (c : Contents) where
  pub with_audio : ltb 0 c.count ≡ true → fit_in c.rate (carried c) (places_before k c.rate) ≡ fit_of k c
  unfolding fit_of
  with_audio e = rw e

  pub without_audio : ltb 0 c.count ≡ false → fitting false (places_before k c.rate) ≡ fit_of k c
  unfolding fit_of
  without_audio e = rw e

abbrev pub refusal : ℕ → Known → Judged
refusal number k = record { faults = refused_with number; known = k }

module _ (k : Known) (p : List ℕ) where
  pub refused : (n : ℕ) → packet_number p ≡ n → (n ≡ 0 → ⊥) → refusal n k ≡ judged_of k p
  unfolding judged_of
  refused n e f = rw (e, ne_eqb n 0 f)

  pub accepted : packet_number p ≡ 0 → judged_with k (contents_in p) ≡ judged_of k p
  unfolding judged_of
  accepted e = rw (eq-eqb (packet_number p) 0 e)
