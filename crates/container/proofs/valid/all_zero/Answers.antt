-- `container::valid::all_zero` meets its contract.
use Rattle.std.proofs.Common.{ℕ, eqb, rules, tests, sym, ◌∙◌}
use Rattle.std.proofs.lemmas.Iterator.{YieldsList-from_slice}
use Rattle.std.proofs.lemmas.Iterator.Search.{all_from_yields_List}
use Rattle.container.proofs.Readable.{zeros_all}
use Rattle.container.proofs.valid.all_zero.Goals as goal

pub returns : goal.returns
returns c = all_from_yields_List (λ (x : ℕ). eqb x 0) _ _ _ c.all.ensures.ran (YieldsList-from_slice c.args.s.now cc) (λ x b q k. search (rules, tests)) ∙ sym (zeros_all c.args.s.now)
