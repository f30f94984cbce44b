-- The table's rule, computed over the whole table once: every tap of every pixel lies in the line, and the 16 lines of each field in the raster.
use Prim.Native.Nat.{ℕ, ◌+◌, ◌*◌, ◌≤◌, ◌<◌}
use mathlib.Core.Path.{◌≡◌, refl, ap}
use mathlib.Core.Bool.{Bool, true, ◌&&◌, ◌||◌}
use mathlib.Core.List.{[]}
use lib.Dec.{leb, ltb, eqb}
use lib.ListN.{get_or-eq_default}
use borrow.Author.Tests.{leb-true, ltb-true, ne_eqb}
use Rattle.laws.proofs.Tests.{both, below, at_below}
use Rattle.sampling.specs.declared.Row.{Row}
use Rattle.sampling.specs.Formats.{table, named, row_of}

pub no_row : (f : ℕ) → 8 ≤ f → row_of f ≡ named []
unfolding row_of table
no_row f h = ap named (get_or-eq_default table [] {n = f} h)

unfoldable row_right : Row → Bool
row_right r =
    leb r.before r.hstart
    && (leb (r.hstart + r.hstep * 59 + 1 + r.after) r.width
    && (leb 1 r.hstep
    && (leb r.width 4096
    && (leb (r.before + 1 + r.after) 6
    && (leb 1 r.vstart1
    && (leb 1 r.vstep
    && (leb (r.vstart1 + r.vstep * 15) r.lines
    && (leb (r.vstart2 + r.vstep * 15) r.lines
    && (leb r.lines 2250
    && (eqb r.vstart2 0 || ltb (r.vstart1 + r.vstep * 15) r.vstart2))))))))))

unfoldable listed_right : ℕ → Bool
listed_right f = row_right (row_of f)

table_right : below listed_right 8 ≡ true
unfolding below listed_right row_right row_of named table
table_right = refl

pub record Right (r : Row) : Type 0 where
  pub first_tap : r.before ≤ r.hstart
  pub last_tap : r.hstart + r.hstep * 59 + 1 + r.after ≤ r.width
  pub spread : 1 ≤ r.hstep
  pub wide : r.width ≤ 4096
  pub taps : r.before + 1 + r.after ≤ 6
  pub first_line : 1 ≤ r.vstart1
  pub apart : 1 ≤ r.vstep
  pub last_line1 : r.vstart1 + r.vstep * 15 ≤ r.lines
  pub last_line2 : r.vstart2 + r.vstep * 15 ≤ r.lines
  pub tall : r.lines ≤ 2250
  pub in_turn : (r.vstart2 ≡ 0 → ⊥) → r.vstart1 + r.vstep * 15 < r.vstart2

second_test : (v : ℕ) → (v ≡ 0 → ⊥) → (t : Bool) → (eqb v 0 || t) ≡ true → t ≡ true
second_test v n t e = rw (ne_eqb v 0 n) at e

pub listed : (f : ℕ) → f < 8 → Right (row_of f)
unfolding listed_right row_right
listed f h =
    let a = both _ _ (at_below listed_right 8 f table_right h) in
    let b = both _ _ a.1 in
    let c = both _ _ b.1 in
    let d = both _ _ c.1 in
    let e = both _ _ d.1 in
    let g = both _ _ e.1 in
    let i = both _ _ g.1 in
    let j = both _ _ i.1 in
    let k = both _ _ j.1 in
    let l = both _ _ k.1 in
    record {
      first_tap = leb-true _ _ a.0;
      last_tap = leb-true _ _ b.0;
      spread = leb-true _ _ c.0;
      wide = leb-true _ _ d.0;
      taps = leb-true _ _ e.0;
      first_line = leb-true _ _ g.0;
      apart = leb-true _ _ i.0;
      last_line1 = leb-true _ _ j.0;
      last_line2 = leb-true _ _ k.0;
      tall = leb-true _ _ l.0;
      in_turn = λ n. ltb-true _ _ (second_test (row_of f).vstart2 n _ l.1);
    }
