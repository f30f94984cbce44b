use Prim.Native.Nat.{ℕ, ◌*◌}
use mathlib.Core.Path.{refl, ap, ap₂, ◌∙◌}
use native.Mathlib.Numerals.{add-one}
use Rattle.laws.proofs.Lists.{tail_part}
use Rattle.floats.specs.declared.Instant.{Instant}
use Rattle.session.specs.declared.Session.{Session}
use Rattle.session.specs.Session.{Sounded}
use Rattle.session.specs.Session as session
use Rattle.bench_audio.specs.Instants.{instant_of}
use Rattle.bench_session.specs.Instants.{turn_after, turn, instants_heard}
use Rattle.bench_session.proofs.instants.instants_heard.Goals as goal

pub loop-i-init : goal.loop-i-init
unfolding turn instants_heard
loop-i-init c = (refl, refl)

pub loop-i-preserved : goal.loop-i-preserved
unfolding turn instants_heard
loop-i-preserved c =
    let l = c.loop-i in
    let a = c.args in
    let i = c.instant_of.ensures ∙ ap (instant_of a.mix) (tail_part a.values.now (l.i * a.mix)) in
    let heard = c.instant.ensures ∙ ap (λ (k : ℕ). session.instant_of l.s k c.instant_of.result) l.invariant.0 in
    let next = ap₂ (λ (t : Session) (j : Instant). session.instant_of t (turn a.last l.i) j) l.invariant.1 i in (
      rw add-one (c.turn_after-k.ensures ∙ ap (turn_after a.last) l.invariant.0),
      rw add-one (ap (λ (r : Sounded). r.session) (heard ∙ next)),
    )
