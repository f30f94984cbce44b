-- `card::main` lends no more of its buffers than there is: the line that it prints fits.
use Rattle.std.proofs.Common.{ap}
use Rattle.session.specs.declared.Session.{Session}
use Rattle.answers.specs.declared.Fed.{Fed}
use Rattle.answers.specs.Steps.{fed_of}
use Rattle.feed.specs.Feed.{line_next}
use Rattle.feed.proofs.Sizes.{line_held}
use Rattle.card.proofs.main.Goals as goal

pub slice_bounds-line-end : goal.slice_bounds-line-end
unfolding fed_of line_next
slice_bounds-line-end c = (line_held _ _ _ _ _ c.loop-number.invariant.1 (ap (λ (f : Fed Session). f.size) c.next-fed.ensures.0) c.next-fed.ensures.1).0

pub slice_bounds-write_all-end : goal.slice_bounds-write_all-end
unfolding fed_of line_next
slice_bounds-write_all-end c = (line_held _ _ _ _ _ c.loop-number.invariant.1 (ap (λ (f : Fed Session). f.size) c.next-fed.ensures.0) c.next-fed.ensures.1).1
