-- `bench_session::bench_pack` meets its contract.
use mathlib.Core.Path.{ap, ap₂, ◌∙◌}
use native.Mathlib.Omega.{arith}
use Rattle.session.specs.declared.Session.{Session}
use Rattle.bench_session.specs.declared.Load.{Load}
use Rattle.bench_session.specs.declared.Turn.{Turn}
use Rattle.bench_session.specs.Frames.{begun_with, two_of1080i, filled_with, frame_of, second_with, packings}
use Rattle.bench_session.proofs.bench_pack.Goals as goal

pub frame-requires : goal.frame-requires
unfolding two_of1080i
frame-requires c = (omega arith, omega (arith, ap (λ (l : Load). l.room) c.two_of_1080i-load.ensures))

pub returns : goal.returns
unfolding second_with begun_with
returns c =
    let a = c.args in
    let load = c.two_of_1080i-load.ensures in
    let one : Load → Session → Session = λ l s. (frame_of l a.even.now a.block.now (record { session = s; sum = 0 })).session in
    let first = ap (λ (t : Turn). t.session) c.frame.ensures.0 ∙ ap₂ one load c.begin-s.ensures in
    let ready = c.fill.ensures ∙ ap₂ (λ (l : Load) (s : Session). filled_with l a.odd.now a.block.now s) load first in
    c.packed_again.ensures ∙ ap (λ (s : Session). packings s a.rounds) ready
