-- `mending::tool::report` meets its contract.
use Rattle.std.proofs.Common.{ℕ, ◌≡◌, ◌≤◌, List, length, arith, sym, ◌∙◌}
use borrow.Author.Tests.{eq-eqb, ne_eqb}
use lib.Seq.{sets}
use Rattle.laws.specs.Bytes.{Bytes}
use Rattle.laws.specs.Refusals.{number_of}
use Rattle.laws.proofs.Refusals.{number_positive}
use Rattle.text.specs.Lines.{Put, refused_text}
use Rattle.text.proofs.Pieces.{put_as, put_front}
use Rattle.mending.specs.Mending.{recording_number}
use Rattle.mending.specs.Report.{mended_text, reported}
use Rattle.mending.proofs.Sizes.{reported_size}
use Rattle.mending.proofs.tool.report.Goals as goal
use Rattle.mending.proofs.tool.report.Goals.{After-number, After-put_report}

-- the lines of a recording that is refused, and of one that is not
refused_line : (s : List ℕ) (n : ℕ) → recording_number s ≡ n → (n ≡ 0 → ⊥) → refused_text n ≡ reported s
unfolding reported
refused_line s n e h = rw (e, ne_eqb n 0 h)

mended_lines : (s : List ℕ) → recording_number s ≡ 0 → mended_text s ≡ reported s
unfolding reported
mended_lines s e = rw (eq-eqb (recording_number s) 0 e)

-- a line put from the front on, and how long it is at most
told : {o line o' : List ℕ} {next : ℕ} (s : List ℕ) → Bytes s → line ≡ reported s → Put o 0 line o' next
    → ((next ≡ length (reported s)) × (o' ≡ sets o 0 (reported s))) × (next ≤ 163871)
told s b e p =
    let z = reported_size s b in
    let f = put_front (put_as e p) (omega (arith, z)) in
    (f, omega (arith, f.0, z))

-- by the answer of `first_field`
found : (c : goal.After-put_report) → mended_text c.args.recording.now ≡ reported c.args.recording.now
found c = mended_lines c.args.recording.now (sym (rw c.in-Ok.is at c.first_field.ensures.number))

refused : (c : goal.After-number) → refused_text c.number.result ≡ reported c.args.recording.now
refused c =
    let n : number_of c.in-Err.why ≡ recording_number c.args.recording.now = (rw c.in-Err.is at c.first_field.ensures.number) in
    refused_line c.args.recording.now c.number.result (sym n ∙ sym c.number.ensures) (λ z. number_positive c.in-Err.why (sym c.number.ensures ∙ z))

pub returns-in-Ok-clause-value : goal.returns-in-Ok-clause-value
returns-in-Ok-clause-value c =
    (told c.args.recording.now (λ k. omega (arith, c.type_inv.recording k)) (found (goal.at.returns-in-Ok-clause-value c).After-put_report) c.put_report.ensures).0

pub returns-in-Ok-clause-upper_bound : goal.returns-in-Ok-clause-upper_bound
returns-in-Ok-clause-upper_bound c =
    (told c.args.recording.now (λ k. omega (arith, c.type_inv.recording k)) (found (goal.at.returns-in-Ok-clause-upper_bound c).After-put_report) c.put_report.ensures).1

pub returns-in-Err-clause-value : goal.returns-in-Err-clause-value
returns-in-Err-clause-value c =
    (told c.args.recording.now (λ k. omega (arith, c.type_inv.recording k)) (refused (goal.at.returns-in-Err-clause-value c).After-number) c.put_refused.ensures).0

pub returns-in-Err-clause-upper_bound : goal.returns-in-Err-clause-upper_bound
returns-in-Err-clause-upper_bound c =
    (told c.args.recording.now (λ k. omega (arith, c.type_inv.recording k)) (refused (goal.at.returns-in-Err-clause-upper_bound c).After-number) c.put_refused.ensures).1
