-- `judge::judge_fields`: its report is no longer than there is room for.
use Rattle.judging.specs.Report.{Within}
use Rattle.judge.proofs.judge_fields.Given as goal

abbrev pub invariant-loop : goal.invariant-loop
invariant-loop l = Within l.report
