-- `host::read_flat` meets its contract.
use Rattle.std.proofs.Common.{ℕ, ◌≡◌, List, Ok, Err, length, arith, rules, sym, ap, ◌∙◌}
use lib.Seq.{sets}
use Rattle.laws.specs.Refusals.{number_of}
use Rattle.laws.proofs.Lists.{sets_over}
use Rattle.laws.proofs.Calls.{told_refused, told_short, told_ok}
use Rattle.laws.proofs.Refusals.{number_positive}
use Rattle.container.specs.Reading.{Reading, reading, reading_of}
use Rattle.flat.specs.Flat.{flat}
use Rattle.host.specs.Host.{flat_of, read_number, read_done, read_out}
use Rattle.host.proofs.read_flat.Goals as goal
use Rattle.host.proofs.read_flat.Goals.{After-flatten-flat, In_ok-contents}

said : (c : goal.In_ok-contents) → reading_of (Ok c.in_ok-contents.contents) ≡ reading c.args.bytes.now
said c = rw c.in_ok-contents.was at c.read_container.ensures

accepted : (c : goal.In_ok-contents) → (reading c.args.bytes.now).number ≡ 0
accepted c = ap (λ (r : Reading). r.number) (sym (said c))

flat_is : (c : goal.After-flatten-flat) → c.flatten-flat.result ≡ flat_of c.args.bytes.now
unfolding flat_of
flat_is c = c.flatten-flat.ensures ∙ ap (λ (r : Reading). flat r.contents) (rw c.in_ok-contents.was at c.read_container.ensures)

size : (c : goal.After-flatten-flat) → length (flat_of c.args.bytes.now) ≡ 283
size c = ap length (sym (flat_is c)) ∙ c.flatten-flat.type_inv.1.0.1

pub returns-in_err-contents : goal.returns-in_err-contents
unfolding read_done read_number read_out
returns-in_err-contents c =
    let why = c.in_err-contents.field-0.0 in
    let r : c.from_residual.result ≡ Err why = search rules in
    let n : number_of why ≡ (reading c.args.bytes.now).number = ap (λ (r : Reading). r.number) (rw c.in_err-contents.was at c.read_container.ensures) in
    rw (r, ← n) (told_refused (number_of why) (flat_of c.args.bytes.now) c.args.out.now (number_positive why))

pub returns-then-out-lt283 : goal.returns-then-out-lt283
unfolding read_done read_number read_out
returns-then-out-lt283 c =
    let w = goal.at.returns-then-out-lt283 c in
    told_short _ (flat_of c.args.bytes.now) c.args.out.now (accepted w.In_ok-contents) (omega (arith, size w.After-flatten-flat, c.if-out-lt283.true))

pub returns : goal.returns
unfolding read_done read_number read_out
returns c =
    let w = goal.at.returns c in
    let bytes : List ℕ = flat_of c.args.bytes.now in
    let out : List ℕ = c.args.out.now in
    let n = size w.After-flatten-flat in
    let t = told_ok _ bytes out (accepted w.In_ok-contents) (omega (arith, n, c.if-out-lt283.false)) in (
      ap (λ n. record { number = 0; written = n }) (sym n) ∙ t.0,
      c.copy_at.ensures ∙ ap (sets out 0) (flat_is w.After-flatten-flat) ∙ sets_over bytes out (omega (arith, n, c.if-out-lt283.false)) ∙ t.1,
    )
