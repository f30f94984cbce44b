-- `report::report` meets its contract.
use mathlib.Core.Path.{◌≡◌, sym, ap, ◌∙◌}
use borrow.Author.Tests.{ne_eqb}
use native.Mathlib.Omega.{arith}
use Rattle.std.proofs.Common.{Err}
use Rattle.laws.specs.declared.Refusal.{Refusal}
use Rattle.laws.specs.Refusals.{number_of}
use Rattle.laws.proofs.Refusals.{number_positive}
use Rattle.container.specs.Reading.{reading, reading_of}
use Rattle.text.specs.Lines.{refused_text}
use Rattle.text.proofs.Pieces.{put_as, put_front}
use Rattle.report.specs.Report.{accepted_text, reported}
use Rattle.report.proofs.Sizes.{reported_size}
use Rattle.report.proofs.report.Goals as goal

refused_line : (why : Refusal) → refused_text (number_of why) ≡ reported (reading_of (Err why))
unfolding reported
refused_line why = rw (ne_eqb (number_of why) 0 (number_positive why))

pub returns-in-Ok : goal.returns-in-Ok
unfolding reported
returns-in-Ok c =
    let read = ap reading_of (sym c.in-Ok.is) ∙ c.read_container.ensures in
    let l : accepted_text c.in-Ok.contents ≡ reported (reading c.args.bytes.now) = ap reported read in
    put_front (put_as l c.put_accepted.ensures) (omega (arith, reported_size (reading c.args.bytes.now)))

pub returns-in-Err : goal.returns-in-Err
returns-in-Err c =
    let read = ap reading_of (sym c.in-Err.is) ∙ c.read_container.ensures in
    let l : refused_text c.number.result ≡ reported (reading c.args.bytes.now) = ap refused_text c.number.ensures ∙ refused_line c.in-Err.why ∙ ap reported read in
    put_front (put_as l c.put_refused.ensures) (omega (arith, reported_size (reading c.args.bytes.now)))
