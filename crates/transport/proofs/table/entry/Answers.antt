-- `transport::table::entry` meets its contract: each arm has its entry; a key that is left lies below the first, where the table has 0 too, or past the last.
use Prim.Native.Nat.{ℕ, ◌-◌, ◌≤◌}
use mathlib.Core.Path.{◌≡◌, sym, ap}
use native.Mathlib.Omega.{arith}
use native.Mathlib.Decide.{dec_lt}
use lib.ListN.{get_or, get_or-eq_default}
use Rattle.laws.proofs.Tests.{NoneOf, none_left}
use Rattle.transport.specs.Table.{table}
use Rattle.transport.proofs.table.entry.Goals as goal

no_entry : (key : ℕ) → NoneOf key 256 256 → get_or table (key - 256) 0 ≡ 0
no_entry key r =
    elim (dec_lt key 256) [
      | yes h ↦ let e : key - 256 ≡ 0 = omega arith in ap (λ (k : ℕ). get_or table k 0) e
      | no n ↦ let l : 512 ≤ key = none_left key 256 256 r (omega arith) in get_or-eq_default table 0 {n = key - 256} (omega arith)
    ]

pub returns-in_default : goal.returns-in_default
unfolding NoneOf
returns-in_default c = sym (no_entry c.args.key c.in_default.in_default-own.rest)
