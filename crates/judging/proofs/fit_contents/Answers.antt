-- `judging::fit_contents` meets its contract.
use mathlib.Core.Path.{◌≡◌, refl, ◌∙◌}
use native.Mathlib.Omega.{arith}
use borrow.Author.Tests.{lt-ltb, le-ltb}
use Rattle.judging.proofs.Judges.{with_audio, without_audio}
use Rattle.judging.proofs.fit_contents.Goals as goal

pub returns-then-c-eq0 : goal.returns-then-c-eq0
returns-then-c-eq0 c =
    let a = c.args in
    rw c.places_before-places.ensures (without_audio a.k a.c (le-ltb 0 a.c.count (omega (arith, c.if-c-eq0.true))))

pub returns : goal.returns
returns c =
    let s = c in
    let a = s.args in
    let f : (a.c.count ≡ 0 → ⊥) = c.if-c-eq0.false in
    c.fit_bytes.ensures
    ∙ rw (c.bytes_carried.ensures, c.places_before-places.ensures) refl
    ∙ with_audio a.k a.c (lt-ltb 0 a.c.count (omega arith))
