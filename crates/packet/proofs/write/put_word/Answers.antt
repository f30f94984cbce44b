-- `packet::write::put_word` meets its contract.
use Prim.Native.Nat.{ℕ, ◌/◌, ◌%◌, ◌^◌, ◌<◌}
use mathlib.Core.Path.{◌≡◌, ap, ◌∙◌}
use mathlib.Core.List.{[], ◌∷◌}
use native.Mathlib.Omega.{arith}
use lib.Seq.{sets}
use Rattle.std.specs.Int.{w16, to_le_bytes}
use Rattle.packet.specs.Words.{bytes_of}
use Rattle.packet.proofs.write.put_word.Goals as goal

low_first : (w : ℕ) → w < 2 ^ 16 → to_le_bytes w16 w ≡ bytes_of (w ∷ [])
unfolding bytes_of
low_first w h =
    let e : w / 256 % 256 ≡ w / 256 = omega arith in
    ap (λ (b : ℕ). w % 256 ∷ b ∷ []) e

pub returns : goal.returns
returns c = c.copy_at.ensures ∙ ap (sets c.args.out.now c.args.at) (c.to_le_bytes.ensures ∙ low_first c.args.w (omega arith))
