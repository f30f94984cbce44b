-- `container::valid::print_blank` meets its contract: the blank fingerprint's bytes are five zeros.
use Rattle.std.proofs.Common.{◌≡◌, length, rules}
use Rattle.container.specs.Writing.{print_blank}
use Rattle.container.proofs.Readable.{zeros_same}
use Rattle.container.proofs.valid.print_blank.Goals as goal
use Rattle.container.proofs.valid.print_blank.Goals.{Start}

five_bytes : (c : goal.Start) → length c.args.p.bytes ≡ 5
five_bytes c = search rules

pub returns : goal.returns
unfolding print_blank
returns c = rw (c.eq.ensures, c.blank_print.ensures, zeros_same c.args.p.bytes 5 (five_bytes (goal.at.returns c).Start))
