-- `feed::alone::read` meets its contract.
use Prim.Native.Nat.{ℕ}
use mathlib.Core.Path.{ap, ◌∙◌}
use mathlib.Core.List.{List}
use native.Mathlib.Omega.{arith}
use lib.Seq.{sets}
use Rattle.laws.proofs.Lists.{sets_over}
use Rattle.container.specs.Reading.{reading}
use Rattle.report.specs.Report.{reported}
use Rattle.report.proofs.Sizes.{reported_size}
use Rattle.answers.specs.declared.Answer.TheVariants.{Reported}
use Rattle.answers.specs.Lines.{fresh}
use Rattle.feed.specs.Alone.{read_fed}
use Rattle.answers.proofs.Watch.{untouched_size}
use Rattle.feed.proofs.alone.read.Goals as goal

pub returns : goal.returns
unfolding read_fed
returns c =
    let line = reported (reading c.args.payload.now) in
    (ap Reported c.report.ensures.0, c.report.ensures.1 ∙ ap (λ (w : List ℕ). sets w 0 line) c.requires ∙ sets_over line fresh (omega (arith, reported_size (reading c.args.payload.now), untouched_size 4096)))
