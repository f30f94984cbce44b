-- `After::step` meets its contract.
use Prim.Native.Nat.{ℕ, ◌+◌, ◌%◌}
use mathlib.Core.Path.{◌≡◌, refl, ap, ap₂, ◌∙◌}
use Rattle.std.proofs.Common.{Result, Ok, Err}
use Rattle.std.specs.Result.{result_unwrap_or}
use Rattle.laws.specs.declared.Refusal.{Refusal}
use Rattle.picture.specs.declared.Picture.{Picture}
use Rattle.picture.specs.declared.Told.{Told}
use Rattle.picture.specs.declared.Told.TheVariants.{Open}
use Rattle.picture.specs.Pictures.{Scanned, Handed, scanned, handed_out}
use Rattle.bench_video.specs.Bench.{value_of, step_of}
use Rattle.bench_video.proofs.After.step.Goals as goal

told_is : (r : Result Told Refusal) (p : Picture) → result_unwrap_or r Open ≡ (scanned r p).told
told_is (Ok told) p = refl
told_is (Err why) p = refl

left_is : (r : Result Told Refusal) (p : Picture) → p ≡ (scanned r p).picture
left_is (Ok told) p = refl
left_is (Err why) p = refl

pub returns : goal.returns
unfolding step_of
returns c =
    let sum = c.args.self.now.sum in
    let r = c.line.result in
    let p = c.line.new.self in
    let told = c.value.ensures.0 ∙ ap value_of (c.unwrap_or-told.ensures ∙ told_is r p ∙ ap (λ (s : Scanned). s.told) c.line.ensures.answer) in
    let left = left_is r p ∙ ap (λ (s : Scanned). s.picture) c.line.ensures.answer in
    ap₂ (λ (q : Picture) (n : ℕ). record { picture = q; sum = sum % 1000000 + n })
    (ap (λ (h : Handed). h.picture) c.hand_out.ensures.frame ∙ ap (λ (q : Picture). (handed_out q).picture) left) told
