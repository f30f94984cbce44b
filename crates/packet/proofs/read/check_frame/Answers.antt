-- `packet::read::check_frame` meets its contract: each answer by the tests that led to it.
use borrow.Author.Rules.{rules}
use Rattle.laws.proofs.Tests.{tests}
use Rattle.packet.specs.Reading.{frame_number}
use Rattle.packet.proofs.TenBits.{length_words_of}
use Rattle.packet.proofs.read.check_frame.Goals as goal
use Rattle.packet.proofs.read.check_frame.Goals.{then-words-ne0-via-then-words-ne0, then-words-ne0-via-else-words-ne0+then-not-ten_bits}

pub returns-then-words-ne0 : goal.returns-then-words-ne0
unfolding frame_number
returns-then-words-ne0 c =
    elim c.then-words-ne0.branch [
      | then-words-ne0-via-then-words-ne0 w ↦ search (rules, tests)
      | then-words-ne0-via-else-words-ne0+then-not-ten_bits w ↦ search (rules, tests)
    ]

pub returns-then-words-lt7 : goal.returns-then-words-lt7
unfolding frame_number
returns-then-words-lt7 c = search (rules, tests, length_words_of)

pub returns-then-not-start_right : goal.returns-then-not-start_right
unfolding frame_number
returns-then-not-start_right c = search (rules, tests, length_words_of)

pub returns-then-not-names_right : goal.returns-then-not-names_right
unfolding frame_number
returns-then-not-names_right c = search (rules, tests, length_words_of)

pub returns : goal.returns
unfolding frame_number
returns c = search (rules, tests, length_words_of)
