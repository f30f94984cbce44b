-- `bench_audio::instant_of` meets its contract.
use lib.Ieee.{of_bits}
use borrow.Author.Tests.{le-leb, lt-leb, eq-eqb, ne_eqb}
use Rattle.bench_audio.specs.Instants.{instant_of}
use Rattle.bench_audio.proofs.instant_of.Goals as goal

pub ruleset tests = (le-leb, lt-leb, eq-eqb, ne_eqb)

pub returns-then-values-mix : goal.returns-then-values-mix
unfolding instant_of of_bits
returns-then-values-mix c = search tests

pub returns-in-1 : goal.returns-in-1
unfolding instant_of
returns-in-1 c = search tests

pub returns-in_default : goal.returns-in_default
unfolding instant_of of_bits
returns-in_default c = search tests
