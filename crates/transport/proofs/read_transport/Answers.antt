-- `transport::read_transport` meets its contract. Of a container it knows only what the container layer's own reading says.
use Prim.Native.Nat.{ℕ, ◌-◌}
use mathlib.Core.Path.{◌≡◌, sym, ap, ◌∙◌}
use mathlib.Core.List.{List}
use native.Mathlib.Omega.{arith}
use borrow.Author.Rules.{rules}
use lib.ListN.{length, take, drop}
use lib.Seq.{sets}
use Rattle.std.proofs.Common.{Err}
use Rattle.laws.specs.Refusals.{number_of}
use Rattle.laws.proofs.Calls.{told_refused, told_short, told_ok}
use Rattle.laws.proofs.Refusals.{number_positive}
use Rattle.laws.proofs.Layers.{own_first, own_passed}
use Rattle.laws.proofs.Lists.{sets_over}
use Rattle.container.specs.Reading.{reading}
use Rattle.transport.specs.Reading.{frame_number, container_bytes, inner_number, read_number, read_done, read_out}
use Rattle.transport.proofs.Passed.{passed, length_carried}
use Rattle.transport.proofs.read_transport.Goals as goal

-- the part that is lent on is what the packet carries
there : (s : List ℕ) → take (length s - 4 - 6) (drop 6 s) ≡ container_bytes s
unfolding container_bytes
there s = let e : length s - 4 - 6 ≡ length s - 10 = omega arith in ap (λ (n : ℕ). take n (drop 6 s)) e

number : (s : List ℕ) (m : ℕ) → frame_number s ≡ 0 → m ≡ (reading (take (length s - 4 - 6) (drop 6 s))).number → m ≡ inner_number s
unfolding inner_number
number s m right e = e ∙ ap (λ (b : List ℕ). (reading b).number) (there s) ∙ sym (own_passed _ _ right)

pub returns-in_err-check_frame : goal.returns-in_err-check_frame
unfolding read_done read_out read_number inner_number
returns-in_err-check_frame c =
    let why = c.in_err-check_frame.field-0.0 in
    let bytes = container_bytes c.args.bytes.now in
    let r : c.from_residual.result ≡ Err why = search rules in
    rw (r, own_first (frame_number c.args.bytes.now) (reading bytes).number (number_of why) c.in_err-check_frame.ensures (number_positive why)) (told_refused (number_of why) bytes c.args.out.now (number_positive why))

pub overflow_sub-end : goal.overflow_sub-end
overflow_sub-end c = omega (arith, (passed _ (sym c.in_ok-check_frame.ensures)).ten)

pub slice_bounds-check_container-count : goal.slice_bounds-check_container-count
slice_bounds-check_container-count c = omega (arith, (passed _ (sym c.in_ok-check_frame.ensures)).ten)

pub slice_bounds-check_container-start : goal.slice_bounds-check_container-start
slice_bounds-check_container-start c = omega (arith, (passed _ (sym c.in_ok-check_frame.ensures)).ten)

pub overflow_sub-size : goal.overflow_sub-size
overflow_sub-size c = omega (arith, (passed _ (sym c.in_ok-check_frame.ensures)).ten)

pub slice_bounds-copy_at-count : goal.slice_bounds-copy_at-count
slice_bounds-copy_at-count c = omega (arith, (passed _ (sym c.in_ok-check_frame.ensures)).ten)

pub slice_bounds-copy_at-start : goal.slice_bounds-copy_at-start
slice_bounds-copy_at-start c = omega (arith, (passed _ (sym c.in_ok-check_frame.ensures)).ten)

pub returns-in_err-check_container : goal.returns-in_err-check_container
unfolding read_done read_out read_number
returns-in_err-check_container c =
    let why = c.in_err-check_container.field-0.0 in
    let r : c.from_residual-in_err-check_container.result ≡ Err why = search rules in
    let number = number _ _ (sym c.in_ok-check_frame.ensures) c.in_err-check_container.ensures in
    rw (r, ← number) (told_refused (number_of why) (container_bytes c.args.bytes.now) c.args.out.now (number_positive why))

pub returns-then-out-size : goal.returns-then-out-size
unfolding read_done read_out read_number
returns-then-out-size c =
    let number = number _ _ (sym c.in_ok-check_frame.ensures) c.in_ok-check_container.ensures in
    told_short _ (container_bytes c.args.bytes.now) c.args.out.now (sym number) (omega (arith, length_carried c.args.bytes.now, c.if-out-size.true))

pub returns : goal.returns
unfolding read_done read_out read_number
returns c =
    let bytes = c.args.bytes.now in
    let out = c.args.out.now in
    let number = number _ _ (sym c.in_ok-check_frame.ensures) c.in_ok-check_container.ensures in
    let n : length (container_bytes bytes) ≡ length bytes - 4 - 6 = length_carried bytes ∙ omega arith in
    let t = told_ok _ (container_bytes bytes) out (sym number) (omega (arith, n, c.if-out-size.false)) in
    let copied = sets_over (container_bytes bytes) out (omega (arith, n, c.if-out-size.false)) in
    rw (← n) (t.0, c.copy_at.ensures ∙ ap (sets out 0) (there bytes) ∙ copied ∙ t.1)
