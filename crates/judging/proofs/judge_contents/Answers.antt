-- `judging::judge_contents` meets its contract.
use mathlib.Core.Path.{refl}
use Rattle.judging.specs.Judge.{faults_with, known_with, judged_with}
use Rattle.judging.proofs.judge_contents.Goals as goal

pub returns : goal.returns
unfolding judged_with faults_with known_with
returns c =
    rw (c.counter_wrong.ensures, c.rate_wrong.ensures, c.count_wrong.ensures, c.fit_contents-fit.ensures, c.last_count.ensures) refl
