-- `packet::read_packet` meets its contract. Of a container it knows only what the container's own laws say.
use Prim.Native.Nat.{ℕ, ◌*◌, ◌-◌, ◌+◌, ◌≤◌}
use mathlib.Core.Path.{◌≡◌, refl, sym, ap, ◌∙◌}
use mathlib.Core.List.{List, map}
use native.Mathlib.Omega.{arith}
use borrow.Author.Rules.{rules}
use lib.ListN.{length, take, drop, replicate}
use lib.Seq.{sets}
use Rattle.std.proofs.Common.{Err}
use Rattle.laws.specs.Refusals.{number_of}
use Rattle.laws.proofs.Lists.{sets_over, stored_front}
use Rattle.laws.proofs.Calls.{told_refused, told_short, told_ok}
use Rattle.laws.proofs.Refusals.{number_positive}
use Rattle.laws.proofs.Layers.{own_first, own_passed}
use Rattle.container.specs.Reading.{reading}
use Rattle.packet.specs.Words.{low, words_of}
use Rattle.packet.specs.Reading.{count_of, user_words, frame_number, user_bytes, inner_number, read_number, read_done, read_out}
use Rattle.packet.proofs.TenBits.{words_part}
use Rattle.packet.proofs.Passed.{count_byte, passed_size, length_user_bytes}
use Rattle.packet.proofs.read_packet.Goals as goal

-- n is the count of a packet whose own words are right
module _ (s : List ℕ) (n : ℕ) (right : frame_number s ≡ 0) (counted : n ≡ count_of (words_of s)) where
  small : n ≤ 255
  small = omega (arith, counted, count_byte (words_of s))

  size : length s ≡ 2 * n + 14
  size = passed_size s right ∙ ap (λ (k : ℕ). 2 * k + 14) (sym counted)

  count : length (user_bytes s) ≡ n
  count = length_user_bytes s right ∙ sym counted

  -- the container's bytes stand at the front of the array
  there : (out : List ℕ) → out ≡ sets (replicate 255 0) 0 (map low (words_of (take (12 + 2 * n - 12) (drop 12 s)))) → take n out ≡ user_bytes s
  unfolding user_bytes user_words
  there out put =
      let part = words_part s 6 n 12 (12 + 2 * n - 12) refl (omega arith) ∙ ap (λ (k : ℕ). take k (drop 6 (words_of s))) counted in
      ap (take n) (put ∙ ap (λ (ws : List ℕ). sets (replicate 255 0) 0 (map low ws)) part)
      ∙ stored_front (user_bytes s) (replicate 255 0) n count (omega (arith, small))

  number : (m : ℕ) (out : List ℕ) → m ≡ (reading (take n out)).number → take n out ≡ user_bytes s → m ≡ inner_number s
  unfolding inner_number
  number m out e f = e ∙ ap (λ (l : List ℕ). (reading l).number) f ∙ sym (own_passed _ _ right)

pub returns-in_err-check_frame : goal.returns-in_err-check_frame
unfolding read_done read_out read_number inner_number
returns-in_err-check_frame c =
    let why = c.in_err-check_frame.field-0.0 in
    let bytes = user_bytes c.args.words.now in
    let r : c.from_residual.result ≡ Err why = search rules in
    rw (r, own_first (frame_number c.args.words.now) (reading bytes).number (number_of why) c.in_err-check_frame.ensures (number_positive why)) (told_refused (number_of why) bytes c.args.out.now (number_positive why))

pub count_of-n-requires : goal.count_of-n-requires
count_of-n-requires c = omega (arith, passed_size _ (sym c.in_ok-check_frame.ensures))

pub overflow_mul-n : goal.overflow_mul-n
overflow_mul-n c =
    let right = sym c.in_ok-check_frame.ensures in
    omega (arith, small c.args.words.now c.count_of-n.result right c.count_of-n.ensures)

pub overflow_add-n : goal.overflow_add-n
overflow_add-n c =
    let right = sym c.in_ok-check_frame.ensures in
    omega (arith, small c.args.words.now c.count_of-n.result right c.count_of-n.ensures)

pub slice_bounds-low_bytes-end : goal.slice_bounds-low_bytes-end
slice_bounds-low_bytes-end c =
    let right = sym c.in_ok-check_frame.ensures in
    omega (arith, size c.args.words.now c.count_of-n.result right c.count_of-n.ensures)

pub low_bytes-requires : goal.low_bytes-requires
low_bytes-requires c =
    let right = sym c.in_ok-check_frame.ensures in
    omega (arith, small c.args.words.now c.count_of-n.result right c.count_of-n.ensures)

pub slice_bounds-bytes-end : goal.slice_bounds-bytes-end
slice_bounds-bytes-end c =
    let right = sym c.in_ok-check_frame.ensures in
    omega (arith, small c.args.words.now c.count_of-n.result right c.count_of-n.ensures)

pub slice_bounds-bytes-end-2 : goal.slice_bounds-bytes-end-2
slice_bounds-bytes-end-2 c =
    let right = sym c.in_ok-check_frame.ensures in
    omega (arith, small c.args.words.now c.count_of-n.result right c.count_of-n.ensures)

pub slice_bounds-check_container-end : goal.slice_bounds-check_container-end
slice_bounds-check_container-end c =
    let right = sym c.in_ok-check_frame.ensures in
    sym (ap length (there c.args.words.now c.count_of-n.result right c.count_of-n.ensures _ c.low_bytes.ensures) ∙ count c.args.words.now c.count_of-n.result right c.count_of-n.ensures)

pub slice_bounds-copy_at-end : goal.slice_bounds-copy_at-end
slice_bounds-copy_at-end c =
    let right = sym c.in_ok-check_frame.ensures in
    sym (ap length (there c.args.words.now c.count_of-n.result right c.count_of-n.ensures _ c.low_bytes.ensures) ∙ count c.args.words.now c.count_of-n.result right c.count_of-n.ensures)

pub returns-in_err-check_container : goal.returns-in_err-check_container
unfolding read_done read_out read_number
returns-in_err-check_container c =
    let right = sym c.in_ok-check_frame.ensures in
    let why = c.in_err-check_container.field-0.0 in
    let r : c.from_residual-in_err-check_container.result ≡ Err why = search rules in
    let number = number c.args.words.now c.count_of-n.result right c.count_of-n.ensures _ _ c.in_err-check_container.ensures (there c.args.words.now c.count_of-n.result right c.count_of-n.ensures _ c.low_bytes.ensures) in
    rw (r, ← number) (told_refused (number_of why) (user_bytes c.args.words.now) c.args.out.now (number_positive why))

pub returns-then-out-n : goal.returns-then-out-n
unfolding read_done read_out read_number
returns-then-out-n c =
    let right = sym c.in_ok-check_frame.ensures in
    let number = number c.args.words.now c.count_of-n.result right c.count_of-n.ensures _ _ c.in_ok-check_container.ensures (there c.args.words.now c.count_of-n.result right c.count_of-n.ensures _ c.low_bytes.ensures) in
    told_short _ (user_bytes c.args.words.now) c.args.out.now (sym number) (omega (arith, count c.args.words.now c.count_of-n.result right c.count_of-n.ensures, c.if-out-n.true))

pub returns : goal.returns
unfolding read_done read_out read_number
returns c =
    let right = sym c.in_ok-check_frame.ensures in
    let there = there c.args.words.now c.count_of-n.result right c.count_of-n.ensures _ c.low_bytes.ensures in
    let number = number c.args.words.now c.count_of-n.result right c.count_of-n.ensures _ _ c.in_ok-check_container.ensures there in
    let bytes = user_bytes c.args.words.now in
    let n = count c.args.words.now c.count_of-n.result right c.count_of-n.ensures in
    let t = told_ok _ bytes c.args.out.now (sym number) (omega (arith, n, c.if-out-n.false)) in
    rw (← n) (t.0, c.copy_at.ensures ∙ ap (sets c.args.out.now 0) there ∙ sets_over bytes c.args.out.now (omega (arith, n, c.if-out-n.false)) ∙ t.1)
