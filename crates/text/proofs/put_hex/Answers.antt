use mathlib.Core.Path.{refl, sym, ◌∙◌}
use native.Mathlib.Omega.{arith}
use Rattle.text.specs.Spelling.{hex_text}
use Rattle.text.proofs.Pieces.{put_none, put_then, put_as, put_same}
use Rattle.text.proofs.Spelled.{hex_step}
use Rattle.text.proofs.put_hex.Goals as goal

pub loop-byte-init : goal.loop-byte-init
unfolding hex_text
loop-byte-init c = (refl, put_none _ _ (omega arith))

pub loop-byte-preserved : goal.loop-byte-preserved
loop-byte-preserved c =
    let l = c.loop-byte in
    let d = put_as c.hex.ensures c.put-p.ensures in
    (put_same d ∙ l.invariant.0, put_as (sym (hex_step c.args.bytes.now l.byte-index c.loop-byte-test.true)) (put_then l.invariant.1 d (omega arith)))
