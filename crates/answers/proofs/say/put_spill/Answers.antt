-- `answers::say::put_spill` meets its contract.
use mathlib.Core.Path.{sym, ◌∙◌}
use native.Mathlib.Omega.{arith}
use Rattle.text.proofs.Pieces.{put_none, put_as}
use Rattle.answers.proofs.Watch.{spill_none, spill_some}
use Rattle.answers.proofs.say.put_spill.Goals as goal

pub returns-then-is_untouched : goal.returns-then-is_untouched
returns-then-is_untouched c = put_as (sym (spill_none c.args.beyond.now (sym c.is_untouched.ensures ∙ c.if-is_untouched.true))) (put_none _ _ (omega arith))

pub returns : goal.returns
returns c = put_as (sym (spill_some c.args.beyond.now (sym c.is_untouched.ensures ∙ c.if-is_untouched.false))) c.put.ensures
