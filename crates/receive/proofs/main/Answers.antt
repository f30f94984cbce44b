-- `receive::main` lends no more of its buffers than there is: the line that it prints fits.
use Rattle.std.proofs.Common.{ap}
use Rattle.receiving.specs.declared.Receiver.{Receiver}
use Rattle.answers.specs.declared.Fed.{Fed}
use Rattle.answers.specs.Steps.{fed_of}
use Rattle.receive_feed.specs.Feed.{line_next}
use Rattle.receive_feed.proofs.Kept.{line_held}
use Rattle.receive.proofs.main.Goals as goal

pub slice_bounds-line-end : goal.slice_bounds-line-end
unfolding fed_of line_next
slice_bounds-line-end c = (line_held _ _ _ _ _ c.loop-number.invariant.1 (ap (λ (f : Fed Receiver). f.size) c.next-fed.ensures.0) c.next-fed.ensures.1).0

pub slice_bounds-write_all-end : goal.slice_bounds-write_all-end
unfolding fed_of line_next
slice_bounds-write_all-end c = (line_held _ _ _ _ _ c.loop-number.invariant.1 (ap (λ (f : Fed Receiver). f.size) c.next-fed.ensures.0) c.next-fed.ensures.1).1
