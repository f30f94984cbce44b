-- `container::check_container` meets its contract.
use Rattle.std.proofs.Common.{ℕ, ◌≡◌, ◌-◌, List, length, get_or, arith}
use Rattle.container.specs.Reading.{middle, reading}
use Rattle.container.proofs.Passing.{any_counter}
use Rattle.container.proofs.check_container.Goals as goal

pub returns : goal.returns
unfolding reading middle
returns c =
    let s : List ℕ = c.args.bytes.now in
    let z : length s - 1 - 4 ≡ length s - 5 = omega arith in
    rw (← c.in_ok-check_header.ensures.number, any_counter (get_or s 1 0) 0, c.check_parts.ensures, z)
