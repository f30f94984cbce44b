-- `container::valid::prints_readable` meets its contract.
use Rattle.std.proofs.Common.{◌≡◌, rules, tests, sym, ◌∙◌}
use Rattle.std.specs.List.{list_all}
use Rattle.std.proofs.lemmas.Iterator.{YieldsList-from_slice}
use Rattle.std.proofs.lemmas.Iterator.Search.{all_from_yields_List}
use Rattle.laws.proofs.Tests.{and_stops, and_goes}
use Rattle.container.specs.Writing.{print_readable, print_blank}
use Rattle.container.proofs.Readable.{places_all}
use Rattle.container.proofs.valid.prints_readable.Goals as goal
use Rattle.container.proofs.valid.prints_readable.Goals.{After-all}

used_are : (c : goal.After-all) → c.all.result ≡ list_all (print_readable c.args.rate) c.args.used.now
used_are c = all_from_yields_List (print_readable c.args.rate) _ _ _ c.all.ensures.ran (YieldsList-from_slice c.args.used.now cc) (λ x b q k. search (rules, tests))

pub returns-then-all : goal.returns-then-all
returns-then-all c =
    all_from_yields_List print_blank _ _ _ c.all-then-all.ensures.ran (YieldsList-from_slice c.args.unused.now cc) (λ x b q k. search (rules, tests))
    ∙ sym (places_all c.args.rate c.args.used.now c.args.unused.now ∙ and_goes _ _ (sym (used_are (goal.at.returns-then-all c).After-all) ∙ c.if-all.true))

pub returns-else-all : goal.returns-else-all
returns-else-all c =
    c.if-all.false ∙ sym (places_all c.args.rate c.args.used.now c.args.unused.now ∙ and_stops _ _ (sym (used_are (goal.at.returns-else-all c).After-all) ∙ c.if-all.false))
