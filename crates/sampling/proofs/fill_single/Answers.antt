use Prim.Native.Nat.{ℕ, ◌+◌, ◌*◌}
use mathlib.Core.Path.{◌≡◌, refl, sym, ap, ◌∙◌}
use mathlib.Core.List.{List}
use native.Mathlib.Omega.{arith}
use native.Mathlib.Nat.{mul-add}
use Rattle.std.proofs.Common.{Fits, w8}
use Rattle.sampling.specs.Samples.{sample_at, mean_of, pixel_by, firsts}
use Rattle.sampling.proofs.Means.{sample_small, single}
use Rattle.sampling.proofs.Filled.{firsts_four}
use Rattle.sampling.proofs.fill_single.Goals as goal

-- a sample is its pixel
pixel : (l : List ℕ) (start step k : ℕ) {at x : ℕ} → x ≡ sample_at l at → at ≡ start + step * k → x ≡ pixel_by l start step 0 1 k
unfolding pixel_by
pixel l start step k e p = e ∙ (ap (sample_at l) p ∙ (sym (single l (start + step * k)) ∙ ap (λ (s : ℕ). mean_of l s 1) (omega arith)))

pub loop-j-init : goal.loop-j-init
unfolding firsts
loop-j-init c = (omega arith, refl)

byte : (l : List ℕ) (s : ℕ) {x : ℕ} → x ≡ sample_at l s → Fits w8 x
byte l s e = record { fits = omega (arith, e, sample_small l s) }

pub overflow_cast-out : goal.overflow_cast-out
overflow_cast-out c = byte _ _ c.tap.ensures

pub overflow_cast-out-in-loop-j : goal.overflow_cast-out-in-loop-j
overflow_cast-out-in-loop-j c = byte _ _ c.tap-in-loop-j.ensures

pub overflow_cast-out-in-loop-j-2 : goal.overflow_cast-out-in-loop-j-2
overflow_cast-out-in-loop-j-2 c = byte _ _ c.tap-in-loop-j-2.ensures

pub overflow_cast-out-in-loop-j-3 : goal.overflow_cast-out-in-loop-j-3
overflow_cast-out-in-loop-j-3 c = byte _ _ c.tap-in-loop-j-3.ensures

pub loop-j-preserved : goal.loop-j-preserved
loop-j-preserved c =
    let l = c.loop-j in
    let a = c.args in
    let i = 4 * l.j in
    let more : (k : ℕ) → a.step * (i + k) ≡ a.step * i + a.step * k = mul-add a.step i in
    let w = pixel a.line.now a.start a.step i c.tap.ensures l.invariant.0 in
    let x = pixel a.line.now a.start a.step (i + 1) c.tap-in-loop-j.ensures (omega (arith, more 1)) in
    let y = pixel a.line.now a.start a.step (i + 2) c.tap-in-loop-j-2.ensures (omega (arith, more 2)) in
    let z = pixel a.line.now a.start a.step (i + 3) c.tap-in-loop-j-3.ensures (omega (arith, more 3)) in
    let e : 4 * (l.j + 1) ≡ 4 * l.j + 4 = omega arith in
    (omega (arith, more 4), rw (l.invariant.1, w, x, y, z, e) (firsts_four (pixel_by a.line.now a.start a.step 0 1) i a.out.now 0 (omega arith)))
