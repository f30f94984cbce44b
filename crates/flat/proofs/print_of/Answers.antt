-- `flat::print_of` meets its contract.
use Rattle.flat.specs.Unflat.{print_of}
use Rattle.flat.proofs.print_of.Goals as goal

pub returns : goal.returns
unfolding print_of
returns c = rw c.copy_from_slice.ensures.after
