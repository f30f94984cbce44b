-- `Session::setup` meets its contract.
use Prim.Native.Nat.{ℕ, ◌≤◌}
use mathlib.Core.Path.{◌≡◌, sym, ap, ◌∙◌}
use native.Mathlib.Omega.{arith}
use borrow.Author.Rules.{rules}
use lib.ListN.{length}
use Rattle.std.proofs.Common.{Err}
use Rattle.laws.proofs.Refusals.{number_positive}
use Rattle.session.specs.declared.Session.{Session}
use Rattle.session.specs.Session.{Begun, empty_session}
use Rattle.session.proofs.Calls.{setup_0, setup_1, setup_few}
use Rattle.session.proofs.Session.setup.Goals as goal
use Rattle.session.proofs.Session.setup.Goals.{In_ok-check_setup}

abbrev with : ℕ → Begun
with n = record { number = n; session = empty_session }

few : (c : goal.In_ok-check_setup) → length c.args.mixes.now ≤ 32
few c = let a = c.args in setup_few a.format a.rate a.rule a.mixes.now (sym c.in_ok-check_setup.ensures)

pub returns-in_err-check_setup : goal.returns-in_err-check_setup
returns-in_err-check_setup c =
    let a = c.args in
    let why = c.in_err-check_setup.field-0.0 in
    let e = c.in_err-check_setup.ensures in
    let r : c.from_residual.result ≡ Err why = search rules in
    rw (r, c.empty.ensures) (ap with e ∙ setup_1 a.format a.rate a.rule a.mixes.now (λ z. number_positive why (e ∙ z)))

pub overflow_cast-mixes : goal.overflow_cast-mixes
overflow_cast-mixes c = omega (arith, few (goal.at.overflow_cast-mixes c).In_ok-check_setup)

pub set_up-requires : goal.set_up-requires
set_up-requires c = omega (arith, few (goal.at.set_up-requires c).In_ok-check_setup)

pub returns : goal.returns
returns c =
    let a = c.args in
    ap (λ (s : Session). record { number = 0; session = s }) c.set_up.ensures ∙ setup_0 a.format a.rate a.rule a.mixes.now (sym c.in_ok-check_setup.ensures)
