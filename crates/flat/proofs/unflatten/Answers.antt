-- `flat::unflatten` meets its contract: each answer by the tests that led to it.
use mathlib.Core.Path.{sym, ap, ◌∙◌}
use borrow.Author.Rules.{rules}
use Rattle.std.specs.Prelude.{Some}
use Rattle.laws.proofs.Tests.{tests}
use Rattle.laws.proofs.Lists.{tail_part}
use Rattle.container.specs.declared.Contents.{Contents}
use Rattle.flat.specs.Unflat.{video_at, prints_of, unflat}
use Rattle.flat.proofs.Places.{unflat_is, contents_is}
use Rattle.flat.proofs.unflatten.Goals as goal
use Rattle.flat.proofs.unflatten.Goals.{then-bytes-ne283-via-then-bytes-ne283, then-bytes-ne283-via-else-bytes-ne283+then-bytes-gt1}

pub returns-then-bytes-ne283 : goal.returns-then-bytes-ne283
unfolding unflat
returns-then-bytes-ne283 c =
    elim c.then-bytes-ne283.branch [
      | then-bytes-ne283-via-then-bytes-ne283 w ↦ search (rules, tests)
      | then-bytes-ne283-via-else-bytes-ne283+then-bytes-gt1 w ↦ search (rules, tests)
    ]

pub returns-in_err-video : goal.returns-in_err-video
unfolding unflat video_at
returns-in_err-video c = search (rules, tests)

pub returns : goal.returns
unfolding video_at
returns c =
    let s = c.args.bytes.now in
    let v = c.in_ok-video.video in
    let is = contents_is s v _ _ c.copy_from_slice.ensures.after (c.prints_of.ensures ∙ ap (prints_of 32) (tail_part s 27)) in
    sym (unflat_is s v c.if-bytes-ne283.false c.if-bytes-gt1.false (sym c.video_of.ensures ∙ c.in_ok-video.was) ∙ ap (λ (x : Contents). Some x) is)
