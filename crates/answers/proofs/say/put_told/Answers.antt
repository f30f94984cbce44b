-- `answers::say::put_told` meets its contract, variant by variant.
use mathlib.Core.Path.{sym, ap}
use native.Mathlib.Omega.{arith}
use Rattle.text.proofs.Pieces.{put_none, put_as}
use Rattle.answers.specs.Lines.{told_text}
use Rattle.answers.proofs.say.put_told.Goals as goal

pub returns-in-Open : goal.returns-in-Open
returns-in-Open c = put_as (ap told_text (sym c.in-Open.is)) (put_none _ _ (omega arith))
