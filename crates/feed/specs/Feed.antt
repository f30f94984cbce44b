-- A feed, record by record (FEED).
use Rattle.std.specs.Prelude.{ℕ, List, [], cond, ltb}
use Rattle.session.specs.declared.Session.{Session}
use Rattle.session.specs.Session.{setup_of}
use Rattle.answers.specs.Steps.{answers, step, front_fed, step_line}
use Rattle.feed.specs.Alone.{Reply, alone_fed}
use Rattle.feed.specs.Calls.{Step, session_fed}

-- "before the first of them the session is that of a refused setup"
unfoldable pub opening : Session
opening = (setup_of 0 0 0 []).session

unfoldable pub leaves : Session → Reply → Step
leaves s r = step (answers r.answer s) r.left

-- a record by its tag and payload: below 20h the calls on the session, from there on the calls that leave it as it is
unfoldable pub fed : Session → ℕ → List ℕ → Step
fed s tag p = cond (ltb tag 0x20) (session_fed s tag p) (leaves s (alone_fed tag p))

-- the record at the front of what is left of the feed
unfoldable pub front : Session → List ℕ → Step
front s bytes = front_fed fed s bytes

unfoldable pub line_next : Session → List ℕ → List ℕ
line_next s bytes = step_line (front s bytes)
