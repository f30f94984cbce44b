use mathlib.Core.Path.{◌≡◌, ap, ◌∙◌}
use native.Mathlib.Numerals.{add-one}
use native.Mathlib.Omega.{arith}
use borrow.Author.Rules.{rules}
use lib.ListN.{length}
use Rattle.session.specs.declared.Session.{Session}
use Rattle.bench_session.specs.declared.Turn.{Turn}
use Rattle.bench_session.specs.Instants.{instant_frame, instant_turns, instant_sum_after}
use Rattle.bench_session.proofs.bench_instants.Goals as goal

pub loop-i-init : goal.loop-i-init
unfolding instant_turns
loop-i-init c = (ap (λ (s : Session). record { session = s; sum = 0 }) c.begin-s.ensures, search rules)

pub loop-i-preserved : goal.loop-i-preserved
unfolding instant_turns
loop-i-preserved c =
    let a = c.args in
    let l = c.loop-i in (
      rw add-one (c.instant_frame.ensures.0 ∙ ap (instant_frame (length a.mixes.now) a.mix a.line.now a.values.now) l.invariant.0),
      c.instant_frame.ensures.1,
    )

pub returns : goal.returns
unfolding instant_sum_after
returns c =
    let a = c.args in
    let all : c.loop-i._i ≡ a.rounds = omega arith in
    ap (λ (t : Turn). t.sum) (c.loop-i.invariant.0 ∙ ap (instant_turns a.rule a.mixes.now a.mix a.line.now a.values.now) all)
