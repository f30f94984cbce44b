use Prim.Native.Nat.{ℕ}
use mathlib.Core.Path.{◌≡◌, ap, ◌∙◌}
use mathlib.Core.List.{List, ◌++◌, map}
use native.Mathlib.Omega.{arith}
use lib.ListN.{length, set, take, drop, replicate, length-map}
use lib.Seq.{take_all}
use Rattle.fingerprint.specs.declared.Fingerprint.{Fingerprint}
use Rattle.fingerprint.specs.State.{fresh_of}
use Rattle.container.proofs.Runs.{fill_step}
use Rattle.session.specs.Fingerprints.{fresh_fingerprints}
use Rattle.session.proofs.Lists.{fresh_at}
use Rattle.session.proofs.fingerprints.fresh_fingerprints.Goals as goal

pub loop-k-preserved : goal.loop-k-preserved
loop-k-preserved c =
    let l = c.loop-k in
    let ms : List ℕ = c.args.mixes.now in
    let s : List Fingerprint = map fresh_of ms in
    let n : length s ≡ length ms = length-map ms fresh_of in (
      omega arith,
      ap (λ (o : List Fingerprint). set o l.k c.fresh.result) l.invariant.1
          ∙ fill_step (fresh_of 0) (replicate 32 (fresh_of 0)) s l.k c.fresh.result (omega (arith, c.requires)) (omega arith)
          (c.fresh.ensures ∙ fresh_at ms l.k (fresh_of 0) (omega arith)),
    )

pub returns : goal.returns
unfolding fresh_fingerprints
returns c =
    let l = c.loop-k in
    let ms : List ℕ = c.args.mixes.now in
    let e : l.k ≡ length ms = omega arith in
    let n : length (map fresh_of ms) ≡ length ms = length-map ms fresh_of in
    l.invariant.1 ∙ ap (λ (k : ℕ). take k (map fresh_of ms) ++ drop k (replicate 32 (fresh_of 0))) e
    ∙ ap (λ (t : List Fingerprint). t ++ drop (length ms) (replicate 32 (fresh_of 0))) (take_all (length ms) (map fresh_of ms) (omega arith))
