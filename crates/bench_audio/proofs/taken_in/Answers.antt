-- `bench_audio::taken_in` meets its contract.
use Prim.Native.Nat.{ℕ}
use mathlib.Core.Path.{◌≡◌, ap, ap₂, ◌∙◌}
use Rattle.fingerprint.specs.declared.Fingerprint.{Fingerprint}
use Rattle.fingerprint.specs.State.{Taken, taken, take_of}
use Rattle.bench_audio.specs.Turns.{bytes_in, four_or_five, taken_in}
use Rattle.bench_audio.proofs.taken_in.Goals as goal

pub returns : goal.returns
unfolding taken_in
returns c =
    let a = c.args in
    let n = c.four_or_five in
    let k = c.take-bytes in
    let t : taken k.result k.new.self ≡ take_of a.f (four_or_five a.f) = k.ensures ∙ ap (take_of a.f) n.ensures in (
      ap₂ (λ (f : Fingerprint) (s : ℕ). record { fingerprint = f; sum = s }) (ap (λ (x : Taken). x.fingerprint) t)
          (c.bytes_in.ensures.0 ∙ ap (λ (x : Taken). bytes_in a.sum x.bytes) t),
      c.bytes_in.ensures.1,
    )
