-- `flat::video_of` meets its contract.
use borrow.Author.Rules.{rules}
use Rattle.laws.proofs.Tests.{tests}
use Rattle.flat.specs.Unflat.{video_of}
use Rattle.flat.proofs.video_of.Goals as goal

pub returns-in-2-default-default : goal.returns-in-2-default-default
unfolding video_of
returns-in-2-default-default c = search (rules, tests)

pub returns-in-1-default-eq0 : goal.returns-in-1-default-eq0
unfolding video_of
returns-in-1-default-eq0 c = search (rules, tests)

pub returns-in-0-eq0-eq0 : goal.returns-in-0-eq0-eq0
unfolding video_of
returns-in-0-eq0-eq0 c = search (rules, tests)

pub returns-in_default : goal.returns-in_default
unfolding video_of
returns-in_default c = search (rules, tests)

pub returns-in_default-2 : goal.returns-in_default-2
unfolding video_of
returns-in_default-2 c = search (rules, tests)

pub returns-in_default-3 : goal.returns-in_default-3
unfolding video_of
returns-in_default-3 c = search (rules, tests)

pub returns-in_default-4 : goal.returns-in_default-4
unfolding video_of
returns-in_default-4 c = search (rules, tests)
