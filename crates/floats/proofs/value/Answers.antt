-- `floats::value` meets its contract: in each arm the instant is that case of some values, and the samples are theirs.
use Rattle.std.proofs.Common.{List, [], ◌∷◌, ℤ, sym, refl, ap, ◌∙◌, ap₂}
use Rattle.sound.specs.Mix.{mixed, pseudo_absolute}
use Rattle.sound.proofs.Meaning.{mono_mixed}
use Rattle.floats.specs.Instants.{float_value}
use Rattle.floats.proofs.value.Goals as goal

pub returns-in-Mono : goal.returns-in-Mono
unfolding float_value
returns-in-Mono c =
    let rule = c.args.rule in
    c.mono_value.ensures ∙ ap pseudo_absolute (c.bits_of.ensures ∙ sym (mono_mixed rule _)) ∙ sym (ap (float_value rule) c.in-Mono.is)

pub returns-in-Stereo : goal.returns-in-Stereo
unfolding float_value
returns-in-Stereo c =
    let rule = c.args.rule in
    c.stereo_value.ensures ∙ ap (λ (zs : List ℤ). pseudo_absolute (mixed rule 2 zs)) (ap₂ (λ (l r : ℤ). l ∷ r ∷ []) c.bits_of-in-Stereo.ensures c.bits_of-in-Stereo-2.ensures)
    ∙ sym (ap (float_value rule) c.in-Stereo.is)

pub returns-in-Five : goal.returns-in-Five
unfolding float_value
returns-in-Five c =
    let rule = c.args.rule in
    c.five_value.ensures
    ∙ ap (λ (zs : List ℤ). pseudo_absolute (mixed rule 5 zs))
    (ap₂ ◌∷◌ c.bits_of-in-Five.ensures (ap₂ ◌∷◌ c.bits_of-in-Five-2.ensures (ap₂ ◌∷◌ c.bits_of-in-Five-3.ensures (ap₂ ◌∷◌ c.bits_of-in-Five-4.ensures (ap₂ ◌∷◌ c.bits_of-in-Five-5.ensures refl)))))
    ∙ sym (ap (float_value rule) c.in-Five.is)
