-- `Fingerprint::take` meets its contract.
use mathlib.Core.Path.{sym}
use native.Mathlib.Omega.{arith}
use Rattle.fingerprint.specs.State.{holding, without}
use Rattle.fingerprint.proofs.Taking.{take_many, take_short, can_take_held, take_is}
use Rattle.fingerprint.proofs.Fingerprint.take.Goals as goal
use Rattle.fingerprint.proofs.Fingerprint.take.Goals.{then-n-gt5-via-then-n-gt5, then-n-gt5-via-else-n-gt5+then-self-n}

pub returns-then-n-gt5 : goal.returns-then-n-gt5
returns-then-n-gt5 c =
    elim c.then-n-gt5.branch [
      | then-n-gt5-via-then-n-gt5 w ↦ take_many c.args.self.now c.args.n w.if-n-gt5.true
      | then-n-gt5-via-else-n-gt5+then-self-n w ↦ take_short c.args.self.now c.args.n w.if-n-gt5.false w.if-self-n.true
    ]

pub returns : goal.returns
unfolding without holding
returns c =
    let a = c.args in
    rw (c.shift-bytes.ensures, c.first_bytes-out.ensures) (sym (take_is a.self.now a.n (can_take_held a.self.now a.n (omega arith) (omega arith))))
