-- The session that an answer is told with is the one that the call leaves.
use mathlib.Core.Path.{◌≡◌, refl, ap, ◌∙◌}
use Rattle.std.proofs.Common.{Result, Ok, Err}
use Rattle.laws.specs.declared.Refusal.{Refusal}
use Rattle.picture.specs.declared.Told.{Told}
use Rattle.session.specs.declared.Session.{Session}
use Rattle.session.specs.Session.{Lined, lined}

same : (r : Result Told Refusal) (s : Session) → s ≡ (lined r s).session
same (Ok told) s = refl
same (Err why) s = refl

pub line_left : (r : Result Told Refusal) (s : Session) (l : Lined) → lined r s ≡ l → s ≡ l.session
line_left r s l e = same r s ∙ ap (λ (k : Lined). k.session) e
