-- `answers::say::say_line` meets its contract.
use native.Mathlib.Omega.{arith}
use Rattle.text.proofs.Pieces.{put_then}
use Rattle.answers.specs.Lines.{line_line}
use Rattle.answers.proofs.say.say_line.Goals as goal

pub returns : goal.returns
unfolding line_line
returns c = put_then (put_then c.put_item-p.ensures c.put_told-q.ensures (omega arith)) c.put.ensures (omega arith)
