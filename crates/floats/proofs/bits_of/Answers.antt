-- `floats::bits_of` meets its contract.
use Rattle.std.proofs.Common.{◌≡◌, ◌^◌, ◌<◌, ℤ, sym, ap, ◌∙◌, subst, arith, w16, w32, SFits, to_z, of_z}
use lib.Signed.{mag}
use lib.Ieee.{Float}
use mir.ValLaws.{to_z-of_z}
use Rattle.sound.specs.Mix.{signed}
use Rattle.floats.specs.Values.{sample_of}
use Rattle.floats.proofs.Scaled.{sample_small}
use Rattle.floats.proofs.Sixteen.{bits_signed}
use Rattle.floats.proofs.bits_of.Goals as goal

few : (x : Float) (z : ℤ) → z ≡ sample_of x → mag z < 2 ^ 15
few x z e = subst (λ (w : ℤ). mag w < 2 ^ 15) (sym e) (sample_small x)

-- the sample, as the machine holds it in either width
read : (z : ℤ) → mag z < 2 ^ 15 → to_z w32 (of_z w32 z) ≡ z
read z h = to_z-of_z w32 z (record { sfits = omega arith })

read16 : (z : ℤ) → mag z < 2 ^ 15 → to_z w16 (of_z w16 (to_z w32 (of_z w32 z))) ≡ z
read16 z h = ap (λ (w : ℤ). to_z w16 (of_z w16 w)) (read z h) ∙ to_z-of_z w16 z (record { sfits = h })

pub overflow_cast-sample_of : goal.overflow_cast-sample_of
overflow_cast-sample_of c =
    let h = few c.args.x c.sample_of.result c.sample_of.ensures in
    subst (SFits w16) (sym (read c.sample_of.result h)) (record { sfits = h })

pub returns : goal.returns
returns c =
    let h = few c.args.x c.sample_of.result c.sample_of.ensures in
    ap signed (c.cast_unsigned.ensures ∙ ap (of_z w16) (read16 c.sample_of.result h)) ∙ bits_signed c.sample_of.result h ∙ c.sample_of.ensures
