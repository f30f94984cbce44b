-- `feed::calls::pack` meets its contract.
use mathlib.Core.Path.{sym, ◌∙◌}
use native.Mathlib.Omega.{arith}
use Rattle.session.specs.Packing as session
use Rattle.feed.specs.Calls.{done_of, packed}
use Rattle.laws.proofs.Lists.{tail_part}
use Rattle.answers.proofs.Rooms.{Roomed, roomed}
use Rattle.feed.proofs.Steps.{packs}
use Rattle.feed.proofs.calls.pack.Goals as goal
use Rattle.feed.proofs.calls.pack.Goals.{In-Ok}

room : (c : goal.In-Ok) → Roomed c.args.payload.now 0 c.in-Ok.room c.args.work.now
room c = roomed _ _ _ _ _ c.room_at.ensures c.in-Ok.is c.requires

pub slice_bounds-pack-count : goal.slice_bounds-pack-count
slice_bounds-pack-count c = (room (goal.at.slice_bounds-pack-count c).In-Ok).long

pub slice_bounds-pack-start : goal.slice_bounds-pack-start
slice_bounds-pack-start c = omega (arith, (room (goal.at.slice_bounds-pack-start c).In-Ok).long)

pub slice_bounds-pack-end-in-Ok : goal.slice_bounds-pack-end-in-Ok
slice_bounds-pack-end-in-Ok c = (room (goal.at.slice_bounds-pack-end-in-Ok c).In-Ok).fits

pub slice_bounds-pack-end-in-Ok-2 : goal.slice_bounds-pack-end-in-Ok-2
slice_bounds-pack-end-in-Ok-2 c = (room (goal.at.slice_bounds-pack-end-in-Ok-2 c).In-Ok).size

pub returns-in-Ok : goal.returns-in-Ok
unfolding packed done_of
returns-in-Ok c =
    let a = c.args in
    let p = c.pack-packed in
    rw c.from.ensures (packs a.payload.now _ _ _ _ _ (room (goal.at.returns-in-Ok c).In-Ok).lent c.requires a.s.now (session.packed p.result p.new.self) (sym c.room_at.ensures ∙ c.in-Ok.is) (tail_part a.payload.now 2) p.ensures.answer p.ensures.left)
