-- `sound::lift` meets its contract.
use mathlib.Core.Path.{refl, ◌∙◌}
use native.Mathlib.Nat.{add-zero}
use native.Mathlib.Omega.{arith}
use lib.IntN.{sub_ℕ}
use Rattle.sound.proofs.Rounding.{rounds_down, rounds_to_zero, lifted, not_lifted}
use borrow.Author.Rules.{rules}
use Rattle.sound.proofs.lift.Goals as goal
use Rattle.sound.proofs.lift.Goals.{else-rule-eq2-via-then-rule-eq2+else-sum-bias, else-rule-eq2-via-else-rule-eq2}

pub returns-then-sum-bias : goal.returns-then-sum-bias
returns-then-sum-bias c =
    let a = c.args in
    (omega arith, (λ h. absurd (omega arith)), lifted a.sum a.bias a.d (search rules) c.if-sum-bias.true ∙ rounds_to_zero a.rule (sub_ℕ a.sum a.bias) a.d c.if-rule-eq2.true)

pub returns-else-rule-eq2 : goal.returns-else-rule-eq2
returns-else-rule-eq2 c =
    let a = c.args in (
      search rules,
      (λ _. refl),
      elim c.else-rule-eq2.branch [
        | else-rule-eq2-via-then-rule-eq2+else-sum-bias w ↦ rw (add-zero a.sum) (not_lifted a.rule a.sum a.bias a.d w.if-sum-bias.false)
        | else-rule-eq2-via-else-rule-eq2 w ↦ rw (add-zero a.sum) (rounds_down a.rule (sub_ℕ a.sum a.bias) a.d w.if-rule-eq2.false)
      ],
    )
