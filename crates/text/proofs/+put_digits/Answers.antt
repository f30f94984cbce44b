use mathlib.Core.Path.{sym}
use native.Mathlib.Omega.{arith}
use Rattle.text.proofs.Spelled.{digits_none, digits_one, digits_more}
use Rattle.text.proofs.Pieces.{put_none, put_then, put_as}
use Rattle.text.proofs.+put_digits.Goals as goal

pub returns-then-most-eq0 : goal.returns-then-most-eq0
returns-then-most-eq0 t c =
    put_as (sym (digits_none c.args.most c.args.n c.if-most-eq0.true)) (put_none _ _ (omega arith))

pub returns-then-n-lt10 : goal.returns-then-n-lt10
returns-then-n-lt10 t c =
    let a = c.args in
    put_as (sym (digits_one a.most a.n c.if-most-eq0.false (omega arith))) c.put_digit.ensures

pub returns : goal.returns
returns t c =
    let a = c.args in
    put_as (sym (digits_more a.most a.n c.if-most-eq0.false (omega arith)))
    (put_then c.put_digits-p.ensures c.put_digit-2.ensures (omega arith))
