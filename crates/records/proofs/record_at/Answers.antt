-- `records::record_at` meets its contract: each answer by the tests that led to it.
use Rattle.laws.proofs.Tests.{tests}
use Rattle.records.specs.Records.{byte_at, record_at}
use Rattle.records.proofs.record_at.Goals as goal

pub returns-then-bytes-at : goal.returns-then-bytes-at
unfolding record_at
returns-then-bytes-at c = search tests

pub returns-then-bytes-at-lt3 : goal.returns-then-bytes-at-lt3
unfolding record_at
returns-then-bytes-at-lt3 c = search tests

pub returns-then-bytes-start : goal.returns-then-bytes-start
unfolding record_at
returns-then-bytes-start c = rw (← c.pair_at-size.ensures.0) (search tests)

pub returns : goal.returns
unfolding record_at byte_at
returns c = rw (← c.pair_at-size.ensures.0) (search tests)
