-- `bench_session::instants::instants_heard` meets its contract. The loop's invariant: what the instants passed make.
use mathlib.Core.Path.{◌≡◌}
use Rattle.bench_session.specs.Instants.{turn, instants_heard}
use Rattle.bench_session.proofs.instants.instants_heard.Given as goal

abbrev pub invariant-loop-i : goal.invariant-loop-i
invariant-loop-i l = (l.k ≡ turn l.last l.i) × (l.s ≡ instants_heard l.last l.mix l.values l.initial.s l.i)
