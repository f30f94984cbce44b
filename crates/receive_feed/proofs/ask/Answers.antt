-- `receive_feed::ask` meets its contract.
use mathlib.Core.Path.{refl, sym, ◌∙◌}
use borrow.Author.Tests.{lt-ltb, le-ltb}
use lib.ListN.{length}
use Rattle.answers.proofs.Rooms.{Roomed, roomed}
use Rattle.receive_feed.specs.Feed.{done_of, asked, next_in, next_fed}
use Rattle.receive_feed.proofs.Kept.{nexts}
use Rattle.receive_feed.proofs.ask.Goals as goal
use Rattle.receive_feed.proofs.ask.Goals.{In-Ok}

room : (c : goal.In-Ok) → Roomed c.args.payload.now 0 c.in-Ok.room c.args.work.now
room c = roomed _ _ _ _ _ c.room_at.ensures c.in-Ok.is c.requires

pub returns-then-payload-gt2 : goal.returns-then-payload-gt2
unfolding next_fed
returns-then-payload-gt2 c = rw (lt-ltb 2 (length c.args.payload.now) c.if-payload-gt2.true) (refl, c.requires)

pub slice_bounds-next-end : goal.slice_bounds-next-end
slice_bounds-next-end c = (room (goal.at.slice_bounds-next-end c).In-Ok).fits

pub slice_bounds-next-end-in-Ok : goal.slice_bounds-next-end-in-Ok
slice_bounds-next-end-in-Ok c = (room (goal.at.slice_bounds-next-end-in-Ok c).In-Ok).size

pub returns-in-Err : goal.returns-in-Err
unfolding next_fed next_in
returns-in-Err c =
    let s = c in
    rw (le-ltb 2 (length s.args.payload.now) c.if-payload-gt2.false, sym c.room_at.ensures ∙ c.in-Err.is) (refl, s.requires)

pub returns-in-Ok : goal.returns-in-Ok
unfolding next_fed asked done_of
returns-in-Ok c =
    let s = c in
    rw (le-ltb 2 (length s.args.payload.now) c.if-payload-gt2.false, sym c.room_at.ensures ∙ c.in-Ok.is)
    (rw s.from-done.ensures (nexts s.args.r.now _ _ _ _ _ (room (goal.at.returns-in-Ok c).In-Ok).lent s.requires c.next.ensures.answer c.next.ensures.left))
