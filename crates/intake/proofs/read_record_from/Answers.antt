-- `intake::read_record_from` lends no more of its buffer than the record has.
use Rattle.std.proofs.Common.{◌≡◌, ◌+◌, ◌-◌, ◌≤◌, ◌++◌, length, drop, arith}
use mathlib.Core.Path.{◌∙◌}
use lib.ListN.{length-append, length-drop}
use lib.Seq.{length-take-le}
use Rattle.records.specs.Records.{pair_at}
use Rattle.intake.proofs.Reading.{payload_took}
use Rattle.intake.proofs.read_record_from.Goals as goal

-- where the record and its payload are read
pub returns : goal.returns
returns c =
    let old = c.args.bytes.now in
    let head = c.read_full-head.new.buf in
    let payload = c.read_full.new.buf in
    let size = 3 + c.pair_at-end.result - 3 in
    let h : length head ≡ 3 = c.read_full-head.auto.buf ∙ length-take-le 3 old (omega arith) in
    let l : length (head ++ drop 3 old) ≡ length old = omega (arith, length-append head (drop 3 old), length-drop 3 old, h) in
    let e : size ≡ pair_at (head ++ drop 3 old) 1 = omega (arith, c.pair_at-end.ensures.0) in
    let f : 3 + size ≤ length (head ++ drop 3 old) = omega arith in
    let g : size ≤ length (drop 3 (head ++ drop 3 old)) = omega (arith, length-drop 3 (head ++ drop 3 old)) in
    let p : length payload ≡ size = c.read_full.auto.buf ∙ length-take-le size (drop 3 (head ++ drop 3 old)) g in
    payload_took old head payload size c.read_full.result h p c.read_full.ensures.0 e f l
