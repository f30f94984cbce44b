-- `Session::instant` meets its contract.
use Prim.Native.Nat.{ℕ, ◌<◌}
use mathlib.Core.Path.{◌≡◌, ap, ◌∙◌, refl}
use native.Mathlib.Omega.{arith}
use borrow.Author.Rules.{rules}
use lib.ListN.{get_or}
use Rattle.std.proofs.Common.{Err}
use Rattle.laws.specs.Refusals.{number_of}
use Rattle.laws.proofs.Refusals.{number_positive}
use Rattle.floats.specs.Instants.{float_value}
use Rattle.fingerprint.specs.State.{step_of, instant_number}
use Rattle.session.specs.Session.{no_fingerprint, instanted_number, instant_of}
use Rattle.session.proofs.Calls.{unreached, within_32, refused_own, heard_own}
use Rattle.session.proofs.Session.instant.Goals as goal
use Rattle.session.proofs.Session.instant.Goals.{In_ok-check_reach}

in_table : (c : goal.In_ok-check_reach) → c.args.k < 32
in_table c = let a = c.args in within_32 a.self.now a.k 0 c.in_ok-check_reach.ensures refl

pub returns-in_err-check_reach : goal.returns-in_err-check_reach
unfolding instant_of instanted_number
returns-in_err-check_reach c =
    let a = c.args in
    let why = c.in_err-check_reach.field-0.0 in
    let r : c.from_residual.result ≡ Err why = search rules in
    rw r (unreached a.self.now a.k _ c.in_err-check_reach.ensures (number_positive why) _ _)

pub offset_bounds-self-k : goal.offset_bounds-self-k
offset_bounds-self-k c = omega (arith, in_table (goal.at.offset_bounds-self-k c).In_ok-check_reach)

pub bounds-self-k : goal.bounds-self-k
bounds-self-k c = omega (arith, in_table (goal.at.bounds-self-k c).In_ok-check_reach)

pub returns-in_err-check_instant : goal.returns-in_err-check_instant
unfolding instant_of instanted_number
returns-in_err-check_instant c =
    let a = c.args in
    let s = a.self.now in
    let why = c.in_err-check_instant.field-0.0 in
    let r : c.from_residual-in_err-check_instant.result ≡ Err why = search rules in
    rw r (refused_own s a.k 0 c.in_ok-check_reach.ensures refl _ _ (number_of why)
    (c.in_err-check_instant.ensures ∙ ap (λ (d : ℕ). instant_number d (get_or s.fingerprints a.k no_fingerprint) a.i) c.interval-d.ensures)
    (number_positive why))

pub bounds-self-k-2 : goal.bounds-self-k-2
bounds-self-k-2 c = omega (arith, in_table (goal.at.bounds-self-k-2 c).In_ok-check_reach)

pub returns : goal.returns
unfolding instant_of instanted_number
returns c =
    let a = c.args in
    let s = a.self.now in
    heard_own s a.k 0 c.in_ok-check_reach.ensures refl _ _ 0
    (c.in_ok-check_instant.ensures ∙ ap (λ (d : ℕ). instant_number d (get_or s.fingerprints a.k no_fingerprint) a.i) c.interval-d.ensures)
    refl c.hear_instant.new.self
    (c.hear_instant.ensures ∙ ap (λ (d : ℕ). step_of d (get_or s.fingerprints a.k no_fingerprint) (float_value s.programme.settings.rule a.i)) c.interval-d.ensures)
