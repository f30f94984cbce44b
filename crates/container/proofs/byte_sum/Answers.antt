-- `container::byte_sum` meets its contract.
use Rattle.std.proofs.Common.{ℕ, ◌+◌, ◌%◌, rules, tests, ◌∙◌}
use Rattle.std.proofs.lemmas.Iterator.{YieldsList-from_slice}
use Rattle.std.proofs.lemmas.Iterator.Consumers.{fold_from_yields_List}
use Rattle.container.proofs.Bytes.{fold_sum}
use Rattle.container.proofs.byte_sum.Goals as goal

pub returns : goal.returns
returns c =
    fold_from_yields_List _ (λ (u b : ℕ). (u + b) % 256) 0 _ c.fold.ensures.ran (YieldsList-from_slice c.args.s.now cc) (λ u b r q k. search (rules, tests))
    ∙ fold_sum c.args.s.now
