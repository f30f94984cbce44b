-- `inspect::main` writes no more of its line than there is.
use Rattle.report.proofs.Sizes.{line_fits}
use Rattle.inspect.proofs.main.Goals as goal

pub slice_bounds-line-end : goal.slice_bounds-line-end
slice_bounds-line-end c = (line_fits _ _ _ c.inspect-size.ensures.0 c.inspect-size.ensures.1).0

pub slice_bounds-write_all-end : goal.slice_bounds-write_all-end
slice_bounds-write_all-end c = (line_fits _ _ _ c.inspect-size.ensures.0 c.inspect-size.ensures.1).1
