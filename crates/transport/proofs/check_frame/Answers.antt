-- `transport::check_frame` meets its contract: each answer by the tests that led to it.
use borrow.Author.Rules.{rules}
use Rattle.laws.proofs.Tests.{tests}
use Rattle.transport.specs.Reading.{length_right, frame_number}
use Rattle.transport.proofs.check_frame.Goals as goal

pub returns-then-bytes-lt10 : goal.returns-then-bytes-lt10
unfolding frame_number
returns-then-bytes-lt10 c = search (rules, tests)

pub returns-then-not-start_right : goal.returns-then-not-start_right
unfolding frame_number
returns-then-not-start_right c = search (rules, tests)

pub returns-then-bytes-pair_at : goal.returns-then-bytes-pair_at
unfolding frame_number length_right
returns-then-bytes-pair_at c = search (rules, tests)

pub returns-then-register-ne0 : goal.returns-then-register-ne0
unfolding frame_number length_right
returns-then-register-ne0 c = search (rules, tests)

pub returns : goal.returns
unfolding frame_number length_right
returns c = search (rules, tests)
