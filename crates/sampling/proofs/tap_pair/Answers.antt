-- `sampling::tap_pair` meets its contract.
use Prim.Native.Nat.{ℕ, ◌+◌, ◌*◌, ◌/◌, ◌%◌}
use mathlib.Core.Path.{ap₂, ◌∙◌}
use Rattle.sampling.specs.Samples.{sample_at}
use Rattle.sampling.proofs.Pairs.{masked}
use Rattle.sampling.proofs.tap_pair.Goals as goal

pub returns : goal.returns
unfolding sample_at
returns c =
    let a = c.word.ensures in
    let b = c.word-2.ensures in
    masked _ _ a.1 b.1 ∙ ap₂ (λ (x y : ℕ). x / 4 % 256 + 65536 * (y / 4 % 256)) a.0 b.0
