-- `answers::say::put_field` meets its contract.
use native.Mathlib.Omega.{arith}
use Rattle.text.proofs.Pieces.{put_then}
use Rattle.answers.specs.Lines.{field_text}
use Rattle.answers.proofs.say.put_field.Goals as goal

pub returns : goal.returns
unfolding field_text
returns c = put_then (put_then c.put_item-p.ensures c.put_item-q.ensures (omega arith)) c.put_item.ensures (omega arith)
