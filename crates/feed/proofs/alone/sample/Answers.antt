-- `feed::alone::sample` meets its contract.
use mathlib.Core.Path.{sym, ◌∙◌}
use native.Mathlib.Omega.{arith}
use Rattle.records.specs.Records.{byte_at}
use Rattle.laws.proofs.Lists.{tail_part}
use Rattle.answers.proofs.Rooms.{Roomed, roomed}
use Rattle.feed.proofs.Steps.{samples}
use Rattle.feed.proofs.alone.sample.Goals as goal
use Rattle.feed.proofs.alone.sample.Goals.{In-Ok}

room : (c : goal.In-Ok) → Roomed c.args.payload.now 1 c.in-Ok.room c.args.work.now
room c = roomed _ _ _ _ _ c.room_at.ensures c.in-Ok.is c.requires

pub bounds-payload-0 : goal.bounds-payload-0
bounds-payload-0 c = omega (arith, (room (goal.at.bounds-payload-0 c).In-Ok).long)

pub slice_bounds-sample_line-count : goal.slice_bounds-sample_line-count
slice_bounds-sample_line-count c = (room (goal.at.slice_bounds-sample_line-count c).In-Ok).long

pub slice_bounds-sample_line-start : goal.slice_bounds-sample_line-start
slice_bounds-sample_line-start c = omega (arith, (room (goal.at.slice_bounds-sample_line-start c).In-Ok).long)

pub slice_bounds-sample_line-end-in-Ok : goal.slice_bounds-sample_line-end-in-Ok
slice_bounds-sample_line-end-in-Ok c = (room (goal.at.slice_bounds-sample_line-end-in-Ok c).In-Ok).fits

pub slice_bounds-sample_line-end-in-Ok-2 : goal.slice_bounds-sample_line-end-in-Ok-2
slice_bounds-sample_line-end-in-Ok-2 c = (room (goal.at.slice_bounds-sample_line-end-in-Ok-2 c).In-Ok).size

pub returns-in-Ok : goal.returns-in-Ok
unfolding byte_at
returns-in-Ok c =
    let p = c.args.payload.now in
    let sampled = c.sample_line-sampled in
    samples p _ _ _ _ _ (room (goal.at.returns-in-Ok c).In-Ok).lent c.requires _ (sym c.room_at.ensures ∙ c.in-Ok.is) (tail_part p 3) (c.from.ensures ∙ sampled.ensures.value) sampled.ensures.out_after
