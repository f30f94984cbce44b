-- `Session::video_restart` meets its contract.
use mathlib.Core.Path.{sym, ◌∙◌}
use Rattle.session.proofs.Calls.{video_same, video_anew}
use Rattle.session.proofs.Session.video_restart.Goals as goal

pub returns-else-is_set : goal.returns-else-is_set
returns-else-is_set c = video_same c.args.self.now (sym c.is_set.ensures ∙ c.if-is_set.false)

pub returns-then-is_set : goal.returns-then-is_set
returns-then-is_set c = video_anew c.args.self.now (sym c.is_set.ensures ∙ c.if-is_set.true) c.restart.new.self c.restart.ensures
