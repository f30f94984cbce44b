-- `sound::whole_value` meets its contract.
use mathlib.Core.Path.{◌≡◌, sym, ap, ap₂, ◌∙◌}
use mathlib.Core.List.{[], ◌∷◌}
use native.Mathlib.Omega.{arith}
use lib.IntN.{ℤ}
use Rattle.sound.specs.Mix.{signed, instant_samples, weights, pseudo_absolute}
use Rattle.sound.proofs.Meaning.{mono_mixed}
use Rattle.sound.proofs.Instants.{five_samples, value_of, not_listed}
use Rattle.sound.proofs.whole_value.Goals as goal

pub returns-in-1 : goal.returns-in-1
unfolding weights instant_samples
returns-in-1 c =
    value_of _ _ 1 _ _ _ _ c.in-1.is (c.mono_value.ensures ∙ ap pseudo_absolute (sym (mono_mixed c.args.rule _))) (ap (λ (z : ℤ). z ∷ []) c.sample.ensures)

pub returns-in-2 : goal.returns-in-2
unfolding weights instant_samples
returns-in-2 c =
    value_of _ _ 2 _ _ _ _ c.in-2.is c.stereo_value.ensures
    (ap₂ (λ (y z : ℤ). y ∷ z ∷ []) c.sample-in-2.ensures c.sample-in-2-2.ensures)

pub returns-in-5 : goal.returns-in-5
unfolding weights
returns-in-5 c =
    let a = c.args in
    let l = c.sample-l in
    let r = c.sample-r in
    let m = c.sample-c in
    let ls = c.sample-ls in
    let rs = c.sample-rs in
    let zs = signed l.result ∷ signed r.result ∷ signed m.result ∷ signed ls.result ∷ signed rs.result ∷ [] in
    let e : zs ≡ instant_samples a.block.now a.at 5 =
    cc (five_samples a.block.now a.at, l.ensures, r.ensures, m.ensures, ls.ensures, rs.ensures) in
    value_of a.rule a.mix 5 a.block.now a.at zs c.five_value.result c.in-5.is c.five_value.ensures e

pub returns-in_default : goal.returns-in_default
returns-in_default c = not_listed _ _ _ _ (λ e. omega arith) (λ e. omega arith) (λ e. omega arith)
