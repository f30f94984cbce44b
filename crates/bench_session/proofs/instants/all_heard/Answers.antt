-- `bench_session::instants::all_heard` meets its contract.
use mathlib.Core.Path.{◌≡◌, refl, sym}
use mathlib.Core.Bool.{Bool, true, false, cond}
use native.Mathlib.Nat.{div-zero}
use lib.Dec.{eqb}
use lib.ListN.{length}
use borrow.Author.Tests.{eq-eqb, ne_eqb}
use Rattle.session.specs.declared.Session.{Session}
use Rattle.bench_session.specs.Instants.{instants_heard, all_heard}
use Rattle.bench_session.proofs.instants.all_heard.Goals as goal
use Rattle.bench_session.proofs.instants.all_heard.Goals.{else-mix-ne0-via-then-mix-ne0+else-count-ne0, else-mix-ne0-via-else-mix-ne0}

either : (b : Bool) (s : Session) → cond b s s ≡ s
either true s = refl
either false s = refl

pub returns-else-mix-ne0 : goal.returns-else-mix-ne0
unfolding all_heard instants_heard
returns-else-mix-ne0 c =
    let a = c.args in
    elim c.else-mix-ne0.branch [
      | else-mix-ne0-via-then-mix-ne0+else-count-ne0 w ↦ rw (eq-eqb _ _ w.if-count-ne0.false)
      | else-mix-ne0-via-else-mix-ne0 w ↦ rw (w.if-mix-ne0.false, div-zero (length a.values.now)) (sym (either (eqb a.count 0) a.s.now))
    ]

pub returns-then-count-ne0 : goal.returns-then-count-ne0
unfolding all_heard
returns-then-count-ne0 c = rw (ne_eqb _ _ c.if-count-ne0.true) c.instants_heard.ensures
