-- `answers::say::put_written` meets its contract.
use mathlib.Core.Path.{sym}
use native.Mathlib.Omega.{arith}
use Rattle.text.proofs.Pieces.{put_none, put_then, put_as}
use Rattle.answers.proofs.Watch.{hex_none, hex_some}
use Rattle.answers.proofs.say.put_written.Goals as goal

pub returns-then-number-ne0 : goal.returns-then-number-ne0
returns-then-number-ne0 c = put_as (sym (hex_none c.args.number c.args.bytes.now c.if-number-ne0.true)) (put_none _ _ (omega arith))

pub returns : goal.returns
returns c = put_as (sym (hex_some c.args.number c.args.bytes.now c.if-number-ne0.false)) (put_then c.put-p.ensures c.put_hex.ensures (omega arith))
