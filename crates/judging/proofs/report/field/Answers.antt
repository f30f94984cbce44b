-- `judging::report::field` meets its contract.
use Prim.Native.Nat.{ℕ, ◌+◌, ◌-◌, ◌≤◌, ◌<◌}
use mathlib.Core.Path.{◌≡◌, sym, ap, ◌∙◌}
use native.Mathlib.Omega.{arith}
use borrow.Author.Tests.{eqb-true, eqb-false}
use lib.ListN.{length, take, drop}
use lib.Seq.{sets}
use Rattle.laws.specs.Refusals.{number_of, number_in}
use Rattle.laws.proofs.Refusals.{number_positive}
use Rattle.records.specs.Records.{pair_at}
use Rattle.text.specs.Lines.{Put}
use Rattle.text.proofs.Pieces.{put_as}
use Rattle.judging.specs.declared.Judged.{Judged}
use Rattle.judging.specs.Judge.{judged_of}
use Rattle.judging.specs.Lines.{faults_text}
use Rattle.judging.specs.Report.{field_size, field_number, packet_in, judged, lines_of, gone_on}
use Rattle.judging.proofs.Reports.{Left, refused_before, no_byte, refused_here, judged_here, whole_field}
use Rattle.judging.proofs.report.field.Goals as goal
use Rattle.judging.proofs.report.field.Goals.{In-Err, After-pair_at-end, After-put_faults-size, then-r-ne0-via-then-r-ne0, then-r-ne0-via-else-r-ne0+then-is_empty}

-- a field with which the call goes on refuses nothing: it is one of 500, and whole
taken : (c : goal.After-pair_at-end) → field_number c.args.r.packets c.args.bytes.now ≡ 0
taken c = sym c.check_field.ensures ∙ ap number_in c.in_default.is

whole : (c : goal.After-pair_at-end) → (c.args.r.packets < 500) × (field_size c.args.bytes.now ≤ length c.args.bytes.now)
whole c = whole_field c.args.r.packets c.args.bytes.now (taken c)

pub returns-then-r-ne0-clause-value : goal.returns-then-r-ne0-clause-value
returns-then-r-ne0-clause-value c =
    let a = c.args in
    elim c.then-r-ne0.branch [
      | then-r-ne0-via-then-r-ne0 w ↦ (refused_before a.r a.bytes.now a.out.now w.if-r-ne0.true).0
      | then-r-ne0-via-else-r-ne0+then-is_empty w ↦
          (no_byte a.r a.bytes.now a.out.now w.if-r-ne0.false (eqb-true _ 0 (sym w.is_empty.ensures ∙ w.if-is_empty.true))).0
    ]

-- the number of what refuses the file here
here : (c : In-Err) → field_number c.args.r.packets c.args.bytes.now ≡ number_of c.in-Err.why
here c = sym c.check_field.ensures ∙ ap number_in c.in-Err.is

pub returns-in-Err-clause-value : goal.returns-in-Err-clause-value
returns-in-Err-clause-value c =
    let a = c.args in
    let n = here (goal.at.returns-in-Err-clause-value c).In-Err in
    let some = eqb-false _ 0 (sym c.is_empty.ensures ∙ c.if-is_empty.false) in
    rw (c.number.ensures, ← n) (refused_here a.r a.bytes.now a.out.now c.if-r-ne0.false some (λ z. number_positive c.in-Err.why (sym n ∙ z))).0

pub slice_bounds-judge-end : goal.slice_bounds-judge-end
unfolding field_size
slice_bounds-judge-end c = omega (arith, (whole (goal.at.slice_bounds-judge-end c).After-pair_at-end).1, c.pair_at-end.ensures.0)

pub overflow_add-packets : goal.overflow_add-packets
overflow_add-packets c = omega (arith, (whole (goal.at.overflow_add-packets c).After-pair_at-end).0)

-- what is judged and put of its packet
judged_as : (c : goal.After-put_faults-size) → c.judge-judged.result ≡ judged c.args.r c.args.bytes.now
unfolding packet_in
judged_as c =
    let n = c.pair_at-end in
    let size : 3 + n.result - 3 ≡ pair_at c.args.bytes.now 1 = omega (arith, n.ensures.0) in
    c.judge-judged.ensures ∙ ap (λ (m : ℕ). judged_of c.args.r.known (take m (drop 3 c.args.bytes.now))) size

said : (c : goal.After-put_faults-size) → Put c.args.out.now c.args.r.size (lines_of c.args.r c.args.bytes.now) c.put_faults-size.new.out c.put_faults-size.result
unfolding lines_of
said c = put_as (ap (λ (x : Judged). faults_text (c.args.r.packets + 1) x.faults) (judged_as c)) c.put_faults-size.ensures

gone : (c : goal.After-put_faults-size) → Left c.args.r c.args.bytes.now c.args.out.now (gone_on c.args.r c.args.bytes.now) (sets c.args.out.now c.args.r.size (lines_of c.args.r c.args.bytes.now))
gone c =
    let a = c.args in
    let f = a.bytes.now in
    let some = eqb-false _ 0 (sym c.is_empty.ensures ∙ c.if-is_empty.false) in
    let number = sym c.check_field.ensures ∙ ap number_in c.in_default.is in
    judged_here a.r f a.out.now c.if-r-ne0.false some number (whole_field a.r.packets f number).0

pub returns-clause-value : goal.returns-clause-value
returns-clause-value c =
    let p = (goal.at.returns-clause-value c).After-put_faults-size in
    rw (judged_as p, (said p).place, (said p).stands) (gone p).0

pub returns-clause-within : goal.returns-clause-within
returns-clause-within c =
    let p = (goal.at.returns-clause-within c).After-put_faults-size in
    rw (judged_as p, (said p).place) (gone p).1
