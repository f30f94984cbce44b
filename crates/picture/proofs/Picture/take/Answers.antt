-- `Picture::take` meets its contract.
use Prim.Native.Nat.{◌+◌, ◌-◌, ◌*◌}
use mathlib.Core.Path.{◌≡◌, ap, ◌∙◌}
use borrow.Author.Rules.{rules}
use borrow.Author.Tests.{lt-ltb, le-ltb}
use borrow.Rule.Slice.PartMut.{put_mid}
use lib.ListN.{length}
use Rattle.sampling.specs.Formats.{row_of}
use Rattle.sampling.specs.Samples.{pixels}
use Rattle.picture.specs.Lines.{interlaced}
use Rattle.picture.specs.Pictures.{with_row, field_ended, taken}
use Rattle.picture.proofs.Rows.{sampled_row}
use Rattle.picture.proofs.Picture.take.Goals as goal
use Rattle.picture.proofs.Picture.take.Goals.{After-sample_line}

filled :
    (c : goal.After-sample_line)
    → let p = c.args.self.now in
    put_mid (p.row * 60) (p.row * 60 + 60 - p.row * 60) p.filling c.sample_line.new.out
    ≡ with_row p.filling p.row (pixels (row_of c.args.format) c.args.line.now)
filled c =
    let p = c.args.self.now in
    let l : length p.filling ≡ 960 = search rules in
    ap (put_mid (p.row * 60) (p.row * 60 + 60 - p.row * 60) p.filling) c.sample_line.ensures.out_after
    ∙ sampled_row c.args.line.now p.filling c.args.format p.row l (search rules) (search rules) (search rules)

pub returns-then-self-lt15 : goal.returns-then-self-lt15
unfolding taken
returns-then-self-lt15 c = simp (lt-ltb _ _ c.if-self-lt15.true, filled (goal.at.returns-then-self-lt15 c).After-sample_line)

pub returns : goal.returns
unfolding taken interlaced field_ended
returns c =
    simp (le-ltb _ _ c.if-self-lt15.false, c.end_field.ensures, c.row_of.ensures, filled (goal.at.returns c).After-sample_line)
