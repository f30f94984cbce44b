-- `Session::line` meets its contract.
use mathlib.Core.Path.{sym, ◌∙◌}
use Rattle.session.proofs.Calls.{line_1, line_answered}
use Rattle.session.proofs.Session.line.Goals as goal

pub returns-then-not-is_set-clause-answer : goal.returns-then-not-is_set-clause-answer
returns-then-not-is_set-clause-answer c = let a = c.args in (line_1 a.self.now (sym c.is_set.ensures ∙ c.if-not-is_set.true) a.number a.line.now).0

pub returns-then-not-is_set-clause-says : goal.returns-then-not-is_set-clause-says
returns-then-not-is_set-clause-says c = let a = c.args in (line_1 a.self.now (sym c.is_set.ensures ∙ c.if-not-is_set.true) a.number a.line.now).1

pub returns-clause-answer : goal.returns-clause-answer
returns-clause-answer c =
    let a = c.args in
    (line_answered a.self.now (sym c.is_set.ensures ∙ c.if-not-is_set.false) a.number a.line.now c.line.result c.line.new.self c.line.ensures.answer c.line.ensures.says).0

pub returns-clause-says : goal.returns-clause-says
returns-clause-says c =
    let a = c.args in
    (line_answered a.self.now (sym c.is_set.ensures ∙ c.if-not-is_set.false) a.number a.line.now c.line.result c.line.new.self c.line.ensures.answer c.line.ensures.says).1
