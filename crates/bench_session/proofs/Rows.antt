-- The lines of every format are few enough to be counted without overflow.
use Prim.Native.Nat.{ℕ, ◌≤◌}
use mathlib.Core.Path.{sym, subst}
use mathlib.Core.List.{[]}
use native.Mathlib.Decide.{dec_lt}
use native.Mathlib.Omega.{arith}
use Rattle.sampling.specs.declared.Row.{Row}
use Rattle.sampling.specs.Formats.{named, row_of}
use Rattle.sampling.proofs.Table.{listed, no_row}
use Rattle.picture.proofs.Judged.{small}

pub record Few (r : Row) : Type 0 where
  pub first1 : r.vstart1 ≤ 2250
  pub first2 : r.vstart2 ≤ 2250
  pub step : r.vstep ≤ 2250

none : Few (named [])
unfolding named
none = record { first1 = omega arith; first2 = omega arith; step = omega arith }

pub few : (f : ℕ) → Few (row_of f)
few f =
    elim (dec_lt f 8) [
      | yes h ↦
          let r = small (listed f h) in
          record { first1 = r.first1; first2 = r.first2; step = r.step }
      | no n ↦ subst Few (sym (no_row f (omega arith))) none
    ]
