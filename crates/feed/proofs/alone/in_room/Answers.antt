-- `feed::alone::in_room` meets its contract.
use mathlib.Core.Path.{sym, ◌∙◌}
use native.Mathlib.Omega.{arith}
use Rattle.laws.proofs.Lists.{tail_part}
use Rattle.answers.proofs.Rooms.{Roomed, roomed}
use Rattle.feed.proofs.Steps.{lends}
use Rattle.feed.proofs.alone.in_room.Goals as goal
use Rattle.feed.proofs.alone.in_room.Goals.{In-Ok}

room : (c : goal.In-Ok) → Roomed c.args.payload.now 0 c.in-Ok.room c.args.work.now
room c = roomed _ _ _ _ _ c.room_at.ensures c.in-Ok.is c.requires

pub slice_bounds-lend-count : goal.slice_bounds-lend-count
slice_bounds-lend-count c = (room (goal.at.slice_bounds-lend-count c).In-Ok).long

pub slice_bounds-lend-start : goal.slice_bounds-lend-start
slice_bounds-lend-start c = omega (arith, (room (goal.at.slice_bounds-lend-start c).In-Ok).long)

pub slice_bounds-lend-end-in-Ok : goal.slice_bounds-lend-end-in-Ok
slice_bounds-lend-end-in-Ok c = (room (goal.at.slice_bounds-lend-end-in-Ok c).In-Ok).fits

pub slice_bounds-lend-end-in-Ok-2 : goal.slice_bounds-lend-end-in-Ok-2
slice_bounds-lend-end-in-Ok-2 c = (room (goal.at.slice_bounds-lend-end-in-Ok-2 c).In-Ok).size

pub returns-in-Ok : goal.returns-in-Ok
returns-in-Ok c = lends c.args.payload.now _ _ _ _ _ (room (goal.at.returns-in-Ok c).In-Ok).lent c.requires c.args.tag _ (sym c.room_at.ensures ∙ c.in-Ok.is) (tail_part c.args.payload.now 2) c.lend.ensures
