-- `bench_audio::four_or_five` meets its contract.
use mathlib.Core.Path.{sym, ◌∙◌}
use Rattle.bench_audio.specs.Turns.{four_or_five}
use Rattle.bench_audio.proofs.four_or_five.Goals as goal

pub returns-then-holds : goal.returns-then-holds
unfolding four_or_five
returns-then-holds c = rw (sym c.holds.ensures ∙ c.if-holds.true)

pub returns-else-holds : goal.returns-else-holds
unfolding four_or_five
returns-else-holds c = rw (sym c.holds.ensures ∙ c.if-holds.false)
