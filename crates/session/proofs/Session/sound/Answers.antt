-- `Session::sound` meets its contract.
use Prim.Native.Nat.{ℕ, ◌<◌}
use mathlib.Core.Path.{◌≡◌, ap, ◌∙◌, refl}
use native.Mathlib.Omega.{arith}
use borrow.Author.Rules.{rules}
use lib.ListN.{length, get_or}
use Rattle.std.proofs.Common.{Err}
use Rattle.laws.specs.Refusals.{number_of}
use Rattle.laws.proofs.Refusals.{number_positive}
use Rattle.fingerprint.specs.State.{heard_of, sound_number}
use Rattle.session.specs.Session.{no_fingerprint, sounded_number, sound_of}
use Rattle.session.proofs.Calls.{unreached, within_32, refused_own, heard_own}
use Rattle.session.proofs.Session.sound.Goals as goal
use Rattle.session.proofs.Session.sound.Goals.{In_ok-check_reach}

in_table : (c : goal.In_ok-check_reach) → c.args.k < 32
in_table c = let a = c.args in within_32 a.self.now a.k 0 c.in_ok-check_reach.ensures refl

pub returns-in_err-check_reach : goal.returns-in_err-check_reach
unfolding sound_of sounded_number
returns-in_err-check_reach c =
    let a = c.args in
    let why = c.in_err-check_reach.field-0.0 in
    let r : c.from_residual.result ≡ Err why = search rules in
    rw r (unreached a.self.now a.k _ c.in_err-check_reach.ensures (number_positive why) _ _)

pub offset_bounds-self-k : goal.offset_bounds-self-k
offset_bounds-self-k c = omega (arith, in_table (goal.at.offset_bounds-self-k c).In_ok-check_reach)

pub bounds-self-k : goal.bounds-self-k
bounds-self-k c = omega (arith, in_table (goal.at.bounds-self-k c).In_ok-check_reach)

pub returns-in_err-check_sound : goal.returns-in_err-check_sound
unfolding sound_of sounded_number
returns-in_err-check_sound c =
    let a = c.args in
    let s = a.self.now in
    let why = c.in_err-check_sound.field-0.0 in
    let r : c.from_residual-in_err-check_sound.result ≡ Err why = search rules in
    rw r (refused_own s a.k 0 c.in_ok-check_reach.ensures refl _ _ (number_of why)
    (c.in_err-check_sound.ensures ∙ ap (λ (d : ℕ). sound_number d (get_or s.fingerprints a.k no_fingerprint) (length a.block.now)) c.interval-d.ensures)
    (number_positive why))

pub bounds-self-k-2 : goal.bounds-self-k-2
bounds-self-k-2 c = omega (arith, in_table (goal.at.bounds-self-k-2 c).In_ok-check_reach)

pub returns : goal.returns
unfolding sound_of sounded_number
returns c =
    let a = c.args in
    let s = a.self.now in
    heard_own s a.k 0 c.in_ok-check_reach.ensures refl _ _ 0
    (c.in_ok-check_sound.ensures ∙ ap (λ (d : ℕ). sound_number d (get_or s.fingerprints a.k no_fingerprint) (length a.block.now)) c.interval-d.ensures)
    refl c.hear.new.self
    (c.hear.ensures ∙ ap (λ (d : ℕ). heard_of s.programme.settings.rule d (get_or s.fingerprints a.k no_fingerprint) a.block.now) c.interval-d.ensures)
