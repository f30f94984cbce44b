-- `report::put_accepted` meets its contract: one item after the other.
use Prim.Native.Nat.{◌≤◌}
use mathlib.Core.Path.{ap}
use native.Mathlib.Omega.{arith}
use lib.ListN.{length}
use Rattle.text.specs.Lines.{last_place, Put, item}
use Rattle.text.proofs.Pieces.{put_then, put_as}
use Rattle.report.specs.Report.{accepted_text, id}
use Rattle.report.proofs.put_accepted.Goals as goal
use Rattle.report.proofs.put_accepted.Goals.{After-slice_known-7-1}

fits_at_0 : (c : goal.After-slice_known-7-1) → length c.args.out.now ≤ last_place
fits_at_0 c = omega arith

line : (c : goal.After-slice_known-7-1) → Put c.args.out.now 0 (accepted_text c.args.c) c.put.new.out c.put.result
unfolding accepted_text
line c =
    let h = fits_at_0 c in
    let i = put_as (ap (item id) c.flag.ensures.0) c.put_item-i.ensures in
    put_then (put_then (put_then (put_then (put_then c.put_item-a.ensures c.put_item-b.ensures h) i h) c.put_video-v.ensures h) c.put_item-s.ensures h) c.put.ensures h

pub returns : goal.returns
returns c = line (goal.at.returns c).After-slice_known-7-1
