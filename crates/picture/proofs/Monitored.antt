-- The lines of a field, found by a division, and where they lie.
use Prim.Native.Nat.{ℕ, zero, suc, ◌+◌, ◌-◌, ◌*◌, ◌/◌, ◌%◌, ◌≤◌, ◌<◌}
use mathlib.Core.Path.{◌≡◌, refl, sym, ap, ◌∙◌}
use mathlib.Core.Bool.{Bool, true, false, cond, ◌&&◌, ◌||◌, not, or-true, true≢false, false≢true}
use native.Mathlib.Omega.{arith}
use native.Mathlib.Nat.{mul-mod_right, mul-div_cancel_left, div-add-mod, mul-le-mul_left}
use lib.Dec.{ltb, eqb}
use borrow.Author.Tests.{eqb-true, eqb-false, eq-eqb, ne_eqb, ltb-true, ltb-false}
use Rattle.laws.proofs.Tests.{both}
use Rattle.sampling.specs.declared.Row.{Row}
use Rattle.sampling.specs.Formats.{row_of}
use Rattle.sampling.proofs.Table.{Right, listed}
use Rattle.picture.specs.Lines.{among, interlaced, monitored, is_monitored}

-- the lines from v on are among them, and no others
pub among_yes : (v step k n m : ℕ) → m < k → n ≡ v + step * m → among v step k n ≡ true
unfolding among
among_yes v step zero n m l e = absurd (let z : ⊥ = omega arith in z)
among_yes v step (suc k) n m l e = go (eqb m k) refl (λ i. among_yes v step k n m i e)
  where
    go : (b : Bool) → eqb m k ≡ b → (m < k → among v step k n ≡ true) → (eqb n (v + step * k) || among v step k n) ≡ true
    go true x r = rw (eq-eqb n (v + step * k) (e ∙ ap (λ (y : ℕ). v + step * y) (eqb-true m k x))) refl
    go false x r = let q : (m ≡ k → ⊥) = eqb-false m k x in rw (r (omega arith)) (or-true (eqb n (v + step * k)))

among_no : (v step k n : ℕ) → ((m : ℕ) → m < k → n ≡ v + step * m → ⊥) → among v step k n ≡ false
unfolding among
among_no v step zero n h = refl
among_no v step (suc k) n h = rw (ne_eqb n (v + step * k) (h k (omega arith)), among_no v step k n (λ m l. h m (omega arith))) refl

-- the three cases of the code
module _ (v step n : ℕ) where
  pub none_below : n < v → among v step 16 n ≡ false
  none_below h = among_no v step 16 n (λ m l e. omega arith)

  pub none_between : v ≤ n → ((n - v) % step ≡ 0 → ⊥) → among v step 16 n ≡ false
  none_between h d =
      among_no v step 16 n (λ m l e.
      let x : n - v ≡ step * m = omega arith in
      d (ap (λ (y : ℕ). y % step) x ∙ mul-mod_right step m))

  pub by_quotient : 0 < step → v ≤ n → (n - v) % step ≡ 0 → ltb ((n - v) / step) 16 ≡ among v step 16 n
  by_quotient p h z = go (ltb ((n - v) / step) 16) refl
    where
      go : (b : Bool) → ltb ((n - v) / step) 16 ≡ b → b ≡ among v step 16 n
      go true x =
          let a : n ≡ v + step * ((n - v) / step) = omega (arith, div-add-mod (n - v) step) in
          sym (among_yes v step 16 n ((n - v) / step) (ltb-true _ _ x) a)
      go false x =
          sym (among_no v step 16 n (λ m l e.
          let y : n - v ≡ step * m = omega arith in
          let d : (n - v) / step ≡ m = ap (λ (w : ℕ). w / step) y ∙ mul-div_cancel_left m p in
          omega (arith, ltb-false ((n - v) / step) 16 x)))

-- the first line of a frame is monitored, so a line that is not monitored is not the first of a frame
first_monitored : (r : Row) → monitored r r.vstart1 ≡ true
unfolding monitored
first_monitored r = rw (among_yes r.vstart1 r.vstep 16 r.vstart1 0 (omega arith) (omega arith)) refl

pub not_first : (r : Row) (n : ℕ) → monitored r n ≡ false → eqb n r.vstart1 ≡ false
not_first r n m = ne_eqb n r.vstart1 (λ e. true≢false (sym (first_monitored r) ∙ (ap (monitored r) (sym e) ∙ m)))

-- and gives no 5
pub not_five : (ready first : Bool) → first ≡ false → ◌≡◌ {A = ℕ} (cond (ready && first) 5 0) 0
not_five true first e = rw e refl
not_five false first e = refl

-- ---- a monitored line is a line of the raster

among_within : (v step k last n : ℕ) → k ≤ suc last → among v step k n ≡ true → (v ≤ n) × (n ≤ v + step * last)
unfolding among
among_within v step zero last n h e = absurd (false≢true e)
among_within v step (suc k) last n h e = go (eqb n (v + step * k)) refl e (λ z. among_within v step k last n (omega arith) z)
  where
    go : (b : Bool) → eqb n (v + step * k) ≡ b → (b || among v step k n) ≡ true
        → (among v step k n ≡ true → (v ≤ n) × (n ≤ v + step * last)) → (v ≤ n) × (n ≤ v + step * last)
    go true x z r =
        let a : n ≡ v + step * k = eqb-true n (v + step * k) x in
        let m : step * k ≤ step * last = mul-le-mul_left step (omega arith) in
        (omega arith, omega arith)
    go false x z r = r z

row_within : (r : Row) → Right r → (n : ℕ) → monitored r n ≡ true → (1 ≤ n) × (n ≤ r.lines)
unfolding monitored interlaced
row_within r t n e = go (among r.vstart1 r.vstep 16 n) refl e
  where
    second : (not (eqb r.vstart2 0) && among r.vstart2 r.vstep 16 n) ≡ true → (1 ≤ n) × (n ≤ r.lines)
    second z =
        let w = both (not (eqb r.vstart2 0)) _ z in
        let q : (r.vstart2 ≡ 0 → ⊥) = λ y. false≢true (sym (ap not (eq-eqb r.vstart2 0 y)) ∙ w.0) in
        let l = among_within r.vstart2 r.vstep 16 15 n (omega arith) w.1 in
        (omega (arith, l.0), omega (arith, l.1, t.last_line2))

    go : (b : Bool) → among r.vstart1 r.vstep 16 n ≡ b
        → (b || (not (eqb r.vstart2 0) && among r.vstart2 r.vstep 16 n)) ≡ true → (1 ≤ n) × (n ≤ r.lines)
    go true x z =
        let l = among_within r.vstart1 r.vstep 16 15 n (omega arith) x in
        (omega (arith, l.0, t.first_line), omega (arith, l.1, t.last_line1))
    go false x z = second z

-- so no line that a format does not have is monitored
pub monitored_in_raster : (f n : ℕ) → is_monitored f n ≡ true → (1 ≤ n) × (n ≤ (row_of f).lines)
unfolding is_monitored
monitored_in_raster f n e =
    let w = both (ltb f 8) _ e in
    row_within (row_of f) (listed f (ltb-true f 8 w.0)) n w.1
