-- `session::fingerprints::say` meets its contract.
use Prim.Native.Nat.{ℕ}
use mathlib.Core.Path.{ap, ◌∙◌}
use Rattle.fingerprint.specs.State.{Taken, taken}
use Rattle.session.specs.declared.fingerprints.Part.{Part}
use Rattle.session.specs.Fingerprints.{print_of, shed, part_of}
use Rattle.session.proofs.fingerprints.say.Goals as goal

abbrev with : ℕ → ℕ → ℕ → Taken → Part
with k mix due t = record { print = record { id = k; mix = mix; size = due; bytes = t.bytes }; left = t.fingerprint }

pub returns : goal.returns
unfolding part_of print_of shed
returns c =
    let a = c.args in
    ap (λ (m : ℕ). with a.k m a.due (taken c.take-bytes.result c.take-bytes.new.self)) c.mix_type.ensures
    ∙ ap (λ (t : Taken). with a.k a.f.mix a.due t) (rw c.from.ensures at c.take-bytes.ensures)
