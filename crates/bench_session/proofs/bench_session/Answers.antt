-- `bench_session::bench_session` meets its contract.
use Prim.Native.Nat.{ℕ}
use mathlib.Core.Path.{ap, ap₂, ◌∙◌}
use native.Mathlib.Omega.{arith}
use Rattle.session.specs.declared.Session.{Session}
use Rattle.bench_session.specs.declared.Load.{Load}
use Rattle.bench_session.specs.Frames.{begun_with, two_of1080i, sum_after}
use Rattle.bench_session.proofs.bench_session.Goals as goal

pub frames-requires : goal.frames-requires
unfolding two_of1080i
frames-requires c = omega (arith, ap (λ (l : Load). l.room) c.two_of_1080i-load.ensures)

pub returns : goal.returns
unfolding begun_with
returns c =
    let a = c.args in
    let sum : Load → Session → ℕ = λ l s. sum_after l a.even.now a.odd.now a.block.now s a.rounds in
    c.frames.ensures ∙ ap₂ sum c.two_of_1080i-load.ensures c.begin-s.ensures
