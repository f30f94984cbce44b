-- `sampling::tap` meets its contract.
use Prim.Native.Nat.{ℕ, ◌/◌, ◌%◌}
use mathlib.Core.Path.{ap}
use Rattle.sampling.specs.Samples.{sample_at}
use Rattle.sampling.proofs.tap.Goals as goal

pub returns : goal.returns
unfolding sample_at
returns c = ap (λ (x : ℕ). x / 4 % 256) c.word.ensures.0
