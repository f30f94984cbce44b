-- `floats::has_nan` meets its contract: in each arm the instant is that case of some values.
use Rattle.std.proofs.Common.{◌≡◌, Bool, true, false, ◌||◌, sym, refl, ap, ◌∙◌, ap₂}
use lib.Ieee.{is_nan}
use Rattle.floats.specs.declared.Five.{Five}
use Rattle.floats.specs.Instants.{has_nan}
use Rattle.floats.proofs.has_nan.Goals as goal

one : (a : Bool) → a ≡ (a || false)
one true = refl
one false = refl

two : (a b : Bool) → (a || b) ≡ (a || (b || false))
two true b = refl
two false b = one b

five : (a b c d e : Bool) → (a || b || c || d || e) ≡ (a || (b || (c || (d || (e || false)))))
five true b c d e = refl
five false true c d e = refl
five false false true d e = refl
five false false false d e = two d e

pub returns-in-Mono : goal.returns-in-Mono
unfolding has_nan
returns-in-Mono c = c.is_nan.ensures.value ∙ one (is_nan c.in-Mono.x) ∙ sym (ap has_nan c.in-Mono.is)

pub returns-in-Stereo : goal.returns-in-Stereo
unfolding has_nan
returns-in-Stereo c = ap₂ ◌||◌ c.is_nan-in-Stereo.ensures.value c.is_nan-in-Stereo-2.ensures.value ∙ two (is_nan c.in-Stereo.l) (is_nan c.in-Stereo.r) ∙ sym (ap has_nan c.in-Stereo.is)

pub returns-in-Five : goal.returns-in-Five
unfolding has_nan
returns-in-Five c =
    let f : Five = c.in-Five.f in
    ap₂ ◌||◌ (ap₂ ◌||◌ (ap₂ ◌||◌ (ap₂ ◌||◌ c.is_nan-in-Five.ensures.value c.is_nan-in-Five-2.ensures.value) c.is_nan-in-Five-3.ensures.value) c.is_nan-in-Five-4.ensures.value) c.is_nan-in-Five-5.ensures.value
    ∙ five (is_nan f.L) (is_nan f.R) (is_nan f.C) (is_nan f.Ls) (is_nan f.Rs) ∙ sym (ap has_nan c.in-Five.is)
