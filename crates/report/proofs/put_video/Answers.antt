-- `report::put_video` meets its contract, variant by variant.
use mathlib.Core.Path.{sym, ap}
use native.Mathlib.Omega.{arith}
use Rattle.text.proofs.Pieces.{put_then, put_as}
use Rattle.report.specs.Report.{video_text}
use Rattle.report.proofs.put_video.Goals as goal

pub returns-in-Absent : goal.returns-in-Absent
unfolding video_text
returns-in-Absent c = put_as (ap video_text (sym c.in-Absent.is)) c.put_item.ensures

pub returns-in-One : goal.returns-in-One
unfolding video_text
returns-in-One c = put_as (ap video_text (sym c.in-One.is)) (put_then c.put_item-p.ensures c.put_item-in-One.ensures (omega arith))

pub returns-in-Two : goal.returns-in-Two
unfolding video_text
returns-in-Two c = put_as (ap video_text (sym c.in-Two.is)) (put_then (put_then c.put_item-p-in-Two.ensures c.put_item-q.ensures (omega arith)) c.put_item-in-Two.ensures (omega arith))
