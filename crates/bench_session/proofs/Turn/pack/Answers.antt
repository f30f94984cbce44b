-- `Turn::pack` meets its contract.
use Prim.Native.Nat.{ℕ}
use mathlib.Core.Path.{ap, ap₂, ◌∙◌}
use Rattle.session.specs.declared.Session.{Session}
use Rattle.session.specs.Packing.{Packed}
use Rattle.bench_session.specs.Frames.{bytes_in, packed_in}
use Rattle.bench_session.proofs.Turn.pack.Goals as goal

pub returns : goal.returns
unfolding packed_in
returns c =
    let sum = c.args.self.now.sum in
    let p = c.pack in (
      ap₂ (λ (s : Session) (n : ℕ). record { session = s; sum = n }) (ap (λ (k : Packed). k.session) p.ensures.answer) (c.bytes_in-self.ensures.0 ∙ ap (bytes_in sum) p.ensures.left),
      c.bytes_in-self.ensures.1,
    )
