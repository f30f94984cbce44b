-- `container::same_count` meets its contract.
use Rattle.std.proofs.Common.{eqb, rules, tests, sym, ◌∙◌}
use Rattle.std.proofs.lemmas.Iterator.{YieldsList-from_slice}
use Rattle.std.proofs.lemmas.Iterator.Search.{all_from_yields_List}
use Rattle.container.specs.declared.Print.{Print}
use Rattle.container.proofs.Readable.{same_all, same_none}
use Rattle.container.proofs.same_count.Goals as goal

pub returns-in_default : goal.returns-in_default
returns-in_default c = sym (same_none c.args.prints.now (search rules))

pub returns : goal.returns
returns c =
    all_from_yields_List (λ (p : Print). eqb p.size c.in-Some.first.now.size) _ _ _ c.all.ensures.ran (YieldsList-from_slice c.args.prints.now cc) (λ x b q k. search (rules, tests))
    ∙ sym (same_all c.in-Some.first.now c.args.prints.now (search rules))
