use Prim.Native.Nat.{ℕ, ◌+◌, ◌*◌}
use mathlib.Core.Path.{refl, ap, ap₂, ◌∙◌}
use native.Mathlib.Numerals.{add-one}
use Rattle.sound.specs.Mix.{instant_value}
use Rattle.fingerprint.specs.State.{values_at}
use Rattle.fingerprint.specs.Parts.{next_filters, through_of}
use Rattle.fingerprint.proofs.through_as.Goals as goal

pub loop-i-init : goal.loop-i-init
unfolding through_of values_at
loop-i-init c = refl

pub loop-i-preserved : goal.loop-i-preserved
unfolding through_of values_at
loop-i-preserved c =
    let l = c.loop-i in
    let a = c.args in
    let e = c.instant_value.ensures ∙ ap (λ (s : ℕ). instant_value a.rule a.mix a.block.now (a.at + l.i * s)) c.instant_bytes-size.ensures in
    rw add-one (c.next_filters-next.ensures ∙ ap₂ next_filters l.invariant e)
