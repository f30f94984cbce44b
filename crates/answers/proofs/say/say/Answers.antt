-- `answers::say::say` meets its contract, answer by answer.
use mathlib.Core.Path.{sym, ap}
use native.Mathlib.Omega.{arith}
use Rattle.text.proofs.Pieces.{put_none, put_as}
use Rattle.answers.specs.declared.Answer.{Answer}
use Rattle.answers.specs.Lines.{spill_part, line_with, said_of}
use Rattle.answers.proofs.say.say.Goals as goal

pub returns-in-Setup : goal.returns-in-Setup
unfolding said_of line_with
returns-in-Setup c = put_as (ap (λ (x : Answer). line_with spill_part x c.args.work.now) (sym c.in-Setup.is)) c.say_number.ensures

pub returns-in-Line : goal.returns-in-Line
unfolding said_of line_with
returns-in-Line c = put_as (ap (λ (x : Answer). line_with spill_part x c.args.work.now) (sym c.in-Line.is)) c.say_line.ensures

pub returns-in-Sound : goal.returns-in-Sound
unfolding said_of line_with
returns-in-Sound c = put_as (ap (λ (x : Answer). line_with spill_part x c.args.work.now) (sym c.in-Sound.is)) c.say_number-in-Sound.ensures

pub returns-in-Instant : goal.returns-in-Instant
unfolding said_of line_with
returns-in-Instant c = put_as (ap (λ (x : Answer). line_with spill_part x c.args.work.now) (sym c.in-Instant.is)) c.say_number-in-Instant.ensures

pub returns-in-VideoRestart : goal.returns-in-VideoRestart
unfolding said_of line_with
returns-in-VideoRestart c = put_as (ap (λ (x : Answer). line_with spill_part x c.args.work.now) (sym c.in-VideoRestart.is)) c.put.ensures

pub returns-in-AudioRestart : goal.returns-in-AudioRestart
unfolding said_of line_with
returns-in-AudioRestart c = put_as (ap (λ (x : Answer). line_with spill_part x c.args.work.now) (sym c.in-AudioRestart.is)) c.put-in-AudioRestart.ensures

pub returns-in-Receiver : goal.returns-in-Receiver
unfolding said_of line_with
returns-in-Receiver c = put_as (ap (λ (x : Answer). line_with spill_part x c.args.work.now) (sym c.in-Receiver.is)) c.put-in-Receiver.ensures

pub returns-in-Arrive : goal.returns-in-Arrive
unfolding said_of line_with
returns-in-Arrive c = put_as (ap (λ (x : Answer). line_with spill_part x c.args.work.now) (sym c.in-Arrive.is)) c.say_number-in-Arrive.ensures

pub returns-in-GiveUp : goal.returns-in-GiveUp
unfolding said_of line_with
returns-in-GiveUp c = put_as (ap (λ (x : Answer). line_with spill_part x c.args.work.now) (sym c.in-GiveUp.is)) c.put-in-GiveUp.ensures

pub returns-in-Handed : goal.returns-in-Handed
unfolding said_of line_with
returns-in-Handed c = put_as (ap (λ (x : Answer). line_with spill_part x c.args.work.now) (sym c.in-Handed.is)) c.say_handed.ensures

pub returns-in-Reported : goal.returns-in-Reported
unfolding said_of line_with
returns-in-Reported c = put_as (ap (λ (x : Answer). line_with spill_part x c.args.work.now) (sym c.in-Reported.is)) c.say_reported.ensures

pub returns-in-Bad : goal.returns-in-Bad
unfolding said_of line_with
returns-in-Bad c = put_as (ap (λ (x : Answer). line_with spill_part x c.args.work.now) (sym c.in-Bad.is)) c.put-in-Bad.ensures

pub returns-in-Finished : goal.returns-in-Finished
unfolding said_of line_with
returns-in-Finished c = put_as (ap (λ (x : Answer). line_with spill_part x c.args.work.now) (sym c.in-Finished.is)) (put_none _ 0 (omega arith))
