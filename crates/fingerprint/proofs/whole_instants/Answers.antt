-- `fingerprint::whole_instants` meets its contract.
use Prim.Native.Nat.{ℕ, ◌%◌}
use mathlib.Core.Path.{sym, ap, ◌∙◌}
use native.Mathlib.Nat.{mod-zero}
use lib.Dec.{eqb}
use Rattle.fingerprint.specs.State.{whole_instants}
use Rattle.fingerprint.proofs.whole_instants.Goals as goal

pub returns-then-size-eq0 : goal.returns-then-size-eq0
unfolding whole_instants
returns-then-size-eq0 c =
    let len = c.args.len in
    sym (ap (λ (m : ℕ). eqb (len % m) 0) (sym c.instant_bytes-size.ensures ∙ c.if-size-eq0.true) ∙ ap (λ (m : ℕ). eqb m 0) (mod-zero len))

pub returns-else-size-eq0 : goal.returns-else-size-eq0
unfolding whole_instants
returns-else-size-eq0 c = ap (λ (m : ℕ). eqb (c.args.len % m) 0) c.instant_bytes-size.ensures
