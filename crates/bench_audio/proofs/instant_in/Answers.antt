-- `bench_audio::instant_in` meets its contract.
use mathlib.Core.Path.{sym, ◌∙◌}
use borrow.Author.Tests.{eq-eqb, ne_eqb}
use Rattle.laws.proofs.Refusals.{number_positive}
use Rattle.bench_audio.specs.Instants.{instant_in}
use Rattle.bench_audio.proofs.instant_in.Goals as goal

pub returns-in-Ok : goal.returns-in-Ok
unfolding instant_in
returns-in-Ok c = rw (eq-eqb _ _ (sym c.in-Ok.ensures)) c.hear_instant.ensures

pub returns-in-Err : goal.returns-in-Err
unfolding instant_in
returns-in-Err c = rw (ne_eqb _ _ (λ e. number_positive c.in-Err.field-0 (c.in-Err.ensures ∙ e)))
