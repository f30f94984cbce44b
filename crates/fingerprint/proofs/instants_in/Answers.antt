-- `fingerprint::instants_in` meets its contract.
use Prim.Native.Nat.{◌/◌}
use mathlib.Core.Path.{sym, ap, ◌∙◌}
use native.Mathlib.Nat.{div-zero}
use Rattle.fingerprint.specs.State.{instants}
use Rattle.fingerprint.proofs.instants_in.Goals as goal

pub returns-then-size-eq0 : goal.returns-then-size-eq0
unfolding instants
returns-then-size-eq0 c =
    let len = c.args.len in
    sym (ap (◌/◌ len) (sym c.instant_bytes-size.ensures ∙ c.if-size-eq0.true) ∙ div-zero len)

pub returns-else-size-eq0 : goal.returns-else-size-eq0
unfolding instants
returns-else-size-eq0 c = ap (◌/◌ c.args.len) c.instant_bytes-size.ensures
