-- What holds of a line that is not refused, and the numbers of a row of the table.
use Prim.Native.Nat.{ℕ, ◌*◌, ◌≤◌, ◌<◌}
use mathlib.Core.Path.{◌≡◌}
use mathlib.Core.Bool.{Bool}
use native.Mathlib.Omega.{arith}
use lib.Dec.{ltb, eqb}
use borrow.Author.Tests.{ltb-true, eqb-true}
use Rattle.laws.proofs.Tests.{past}
use Rattle.sampling.specs.declared.Row.{Row}
use Rattle.sampling.specs.Formats.{row_of}
use Rattle.sampling.proofs.Table.{Right}
use Rattle.picture.specs.Lines.{line_number, judged_number}

pub record Passed (f row len : ℕ) : Type 0 where
  pub format : f < 8
  pub place : row < 16
  pub long : len ≡ 2 * (row_of f).width

pub passed : (f field row : ℕ) (ready : Bool) (n len : ℕ) → judged_number f field row ready n len ≡ 0 → Passed f row len
unfolding judged_number line_number
passed f field row ready n len e =
    let a = past (ltb f 8) 1 _ e (omega arith) in
    let b = past (ltb row 16) 1 _ a.1 (omega arith) in
    let d = past (eqb len (2 * (row_of f).width)) 2 _ b.1 (omega arith) in
    record { format = ltb-true _ _ a.0; place = ltb-true _ _ b.0; long = eqb-true _ _ d.0 }

-- what `due_line` asks of a row, and `in_order`
pub record Small (r : Row) : Type 0 where
  pub first1 : r.vstart1 ≤ 2250
  pub first2 : r.vstart2 ≤ 2250
  pub step : r.vstep ≤ 2250
  pub apart : 0 < r.vstep
  pub wide : r.width ≤ 4096

pub small : {r : Row} → Right r → Small r
small {r} t = record {
  first1 = omega (arith, t.last_line1, t.tall);
  first2 = omega (arith, t.last_line2, t.tall);
  step = omega (arith, t.last_line1, t.tall);
  apart = t.apart;
  wide = t.wide;
}
