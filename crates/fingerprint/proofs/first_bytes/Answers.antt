-- `fingerprint::first_bytes` meets its contract.
use Prim.Native.Nat.{ℕ}
use mathlib.Core.Path.{ap₂}
use mathlib.Core.List.{List, ◌++◌}
use Rattle.std.proofs.lemmas.List.{drop-replicate}
use Rattle.fingerprint.specs.State.{first_bytes}
use Rattle.fingerprint.proofs.first_bytes.Goals as goal

pub returns : goal.returns
unfolding first_bytes
returns c = ap₂ (λ (xs ys : List ℕ). xs ++ ys) c.copy_from_slice.ensures.after (drop-replicate c.args.n 5 0)
