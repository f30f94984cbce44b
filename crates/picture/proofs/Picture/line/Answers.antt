-- `Picture::line` meets its contract: judged, and then taken where it is the line that is due.
use Prim.Native.Nat.{ℕ}
use mathlib.Core.Path.{◌≡◌, sym, ap, ◌∙◌}
use mathlib.Core.List.{List}
use mathlib.Core.Bool.{true}
use native.Mathlib.Omega.{arith}
use borrow.Author.Rules.{rules}
use borrow.Author.Tests.{eq-eqb, ne_eqb}
use lib.Dec.{eqb}
use lib.ListN.{length}
use Rattle.std.proofs.Common.{Result, Ok, Err}
use Rattle.laws.specs.declared.Refusal.{Refusal}
use Rattle.laws.specs.Refusals.{number_in}
use Rattle.laws.proofs.Refusals.{number_positive}
use Rattle.sampling.proofs.Table.{listed}
use Rattle.picture.specs.declared.Picture.{Picture}
use Rattle.picture.specs.declared.Told.{Told}
use Rattle.picture.specs.declared.Told.TheVariants.{Open}
use Rattle.picture.specs.Fields.{says_of}
use Rattle.picture.specs.Pictures.{Scanned, scanned, told_in, number_at, line_of, line_says}
use Rattle.picture.proofs.Says.{line_says_lem, answer_said}
use Rattle.picture.proofs.Judged.{Passed, passed, Small, small}
use Rattle.picture.proofs.Picture.line.Goals as goal
use Rattle.picture.proofs.Picture.line.Goals.{After-from_residual, After-row_of, After-take, Then-number-due_line}

-- what the line tells is said too
said : (p q : Picture) (f n : ℕ) (b : List ℕ) (r : Result Told Refusal) → scanned r q ≡ line_of p f n b → says_of (number_in r) (told_in r) ≡ line_says p f n b
said p q f n b r e = answer_said r q ∙ ap (λ (l : Scanned). says_of l.number l.told) e ∙ line_says_lem p f n b

accepted : (c : goal.After-row_of) → let a = c.args in Passed a.format a.self.now.row (length a.line.now)
accepted c = passed _ _ _ _ _ _ (sym c.in_ok-check.ensures)

zero : (c : goal.After-row_of) → let a = c.args in eqb (number_at a.self.now a.format a.number (length a.line.now)) 0 ≡ true
zero c = eq-eqb _ _ (sym c.in_ok-check.ensures)

refused : (c : goal.After-from_residual) → let a = c.args in scanned c.from_residual.result a.self.now ≡ line_of a.self.now a.format a.number a.line.now
unfolding line_of
refused c =
    let why = c.in_err-check.field-0.0 in
    let e : c.from_residual.result ≡ Err why = search rules in
    rw e (simp (← c.in_err-check.ensures, ne_eqb _ _ (number_positive why)))

pub returns-in_err-check-clause-answer : goal.returns-in_err-check-clause-answer
returns-in_err-check-clause-answer c = refused c

pub returns-in_err-check-clause-says : goal.returns-in_err-check-clause-says
returns-in_err-check-clause-says c = said _ c.args.self.now _ _ _ c.from_residual.result (refused c)

pub due_line-requires : goal.due_line-requires
due_line-requires c =
    let k = accepted c in
    let s : Small c.row_of.result = rw c.row_of.ensures (small (listed _ k.format)) in
    omega (arith, k.place, s.first1, s.first2, s.step)

passed_over : (c : goal.Then-number-due_line) → let a = c.args in scanned (Ok Open) a.self.now ≡ line_of a.self.now a.format a.number a.line.now
unfolding line_of
passed_over c = simp (zero (goal.at.returns-then-number-due_line-clause-answer c).After-row_of, ne_eqb _ _ (rw (c.due_line.ensures, c.row_of.ensures) at c.if-number-due_line.true))

pub returns-then-number-due_line-clause-answer : goal.returns-then-number-due_line-clause-answer
returns-then-number-due_line-clause-answer c = passed_over c

pub returns-then-number-due_line-clause-says : goal.returns-then-number-due_line-clause-says
returns-then-number-due_line-clause-says c = said _ c.args.self.now _ _ _ (Ok Open) (passed_over c)

pub take-requires : goal.take-requires
take-requires c =
    let k = accepted (goal.at.take-requires c).After-row_of in
    (k.place, (k.format, k.long))

tells : (c : goal.After-take) → let a = c.args in scanned (Ok c.take.result) c.take.new.self ≡ line_of a.self.now a.format a.number a.line.now
unfolding line_of
tells c = simp (zero (goal.at.returns-clause-answer c).After-row_of, eq-eqb _ _ (rw (c.due_line.ensures, c.row_of.ensures) at c.if-number-due_line.false), c.take.ensures)

pub returns-clause-answer : goal.returns-clause-answer
returns-clause-answer c = tells c

pub returns-clause-says : goal.returns-clause-says
returns-clause-says c = said _ c.take.new.self _ _ _ (Ok c.take.result) (tells c)
