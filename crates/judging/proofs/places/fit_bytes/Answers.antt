-- `judging::places::fit_bytes` meets its contract.
use mathlib.Core.Path.{sym, ap, ◌∙◌}
use Rattle.judging.specs.Places.{places_from, every_place, any_place}
use Rattle.judging.proofs.Judges.{fits, begins_anew}
use Rattle.judging.proofs.places.fit_bytes.Goals as goal

pub returns-then-any_place : goal.returns-then-any_place
returns-then-any_place c =
    let a = c.args in
    let e = c.fitted-next.ensures in
    rw e (fits a.rate a.bytes a.places (ap any_place (sym e) ∙ sym c.any_place.ensures ∙ c.if-any_place.true))

pub returns : goal.returns
unfolding every_place places_from
returns c =
    let a = c.args in
    let e = c.fitted-next.ensures in
    rw c.fitted.ensures (begins_anew a.rate a.bytes a.places (ap any_place (sym e) ∙ sym c.any_place.ensures ∙ c.if-any_place.false))
