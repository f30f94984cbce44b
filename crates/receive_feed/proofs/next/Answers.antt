-- `receive_feed::next` meets its contract: what answers the record is quiet, and its line fits.
use Prim.Native.Nat.{ℕ}
use mathlib.Core.Path.{ap, ◌∙◌}
use native.Mathlib.Omega.{arith}
use lib.ListN.{length}
use Rattle.text.proofs.Pieces.{put_as, put_front}
use Rattle.receiving.specs.declared.Receiver.{Receiver}
use Rattle.answers.specs.declared.Fed.{Fed}
use Rattle.answers.specs.Lines.{said_of, line_of}
use Rattle.answers.proofs.Sizes.{quiet_said}
use Rattle.receive_feed.specs.Feed.{Answered, line_next, front}
use Rattle.answers.specs.Steps.{step_line, fed_of}
use Rattle.receive_feed.proofs.Kept.{quiet, next_fits}
use Rattle.receive_feed.proofs.next.Goals as goal

pub returns : goal.returns
unfolding line_next step_line fed_of
returns c =
    let f = c.answer_front-answer in
    let r = c.args.r in
    let bytes = c.args.bytes.now in
    let t = front r bytes in
    let said = ap (λ (a : Answered). said_of a.answer f.new.work) f.ensures.0 ∙ ap (said_of t.answered.answer) f.ensures.1 ∙ quiet_said t.answered.answer t.left (quiet r bytes) in
    let q = put_front (put_as said c.say.ensures) (omega (arith, next_fits r bytes)) in (
      ap {B = Fed Receiver} (λ (n : ℕ). record { size = n; answer = f.result; after = f.new.r }) q.0
          ∙ ap {B = Fed Receiver} (λ (a : Answered). record { size = length (line_of t.answered.answer t.left); answer = a.answer; after = a.after }) f.ensures.0,
      q.1,
    )
