-- `fingerprint::new_bits` meets its contract.
use Prim.Native.Nat.{ℕ, ◌-◌}
use mathlib.Core.Path.{sym, ap, ◌∙◌}
use native.Mathlib.Nat.{div-le_self}
use native.Mathlib.Omega.{arith}
use Rattle.fingerprint.specs.State.{new_bits}
use Rattle.fingerprint.proofs.Counts.{bits_none, bits_some, bits_rest}
use Rattle.fingerprint.proofs.new_bits.Goals as goal

pub returns-then-n-pass : goal.returns-then-n-pass
returns-then-n-pass c = let a = c.args in (sym (bits_none a.d a.wait a.n (omega arith)), omega arith)

pub returns-then-d-eq0 : goal.returns-then-d-eq0
returns-then-d-eq0 c =
    let a = c.args in
    (sym (ap (λ (d : ℕ). new_bits d a.wait a.n) c.if-d-eq0.true ∙ bits_rest a.wait a.n (omega arith)), omega arith)

pub returns : goal.returns
returns c =
    let a = c.args in
    (sym (bits_some a.d (omega arith) a.wait a.n (omega arith)), omega (arith, div-le_self (a.n - a.wait - 1) a.d))
