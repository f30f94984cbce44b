-- `answers::say::say_number` meets its contract.
use native.Mathlib.Omega.{arith}
use Rattle.text.proofs.Pieces.{put_then}
use Rattle.answers.specs.Lines.{number_line}
use Rattle.answers.proofs.say.say_number.Goals as goal

pub returns : goal.returns
unfolding number_line
returns c = put_then c.put_item-p.ensures c.put.ensures (omega arith)
