-- `mending::mend` meets its contract: each answer by the tests that led to it.
use Rattle.std.proofs.Common.{ℕ, ◌≡◌, ◌+◌, ◌-◌, ◌≤◌, ◌<◌, List, ◌++◌, true, Err, length, take, drop, length-append, arith, rules, sym, ap, ◌∙◌}
use borrow.Author.Tests.{leb-true, leb-false}
use lib.Seq.{sets}
use Rattle.laws.specs.Refusals.{number_of}
use Rattle.laws.proofs.Lists.{sets_over, sets_then}
use Rattle.laws.proofs.Calls.{told_refused, told_short, told_ok}
use Rattle.laws.proofs.Refusals.{number_positive}
use Rattle.mending.specs.Fields.{acceptable}
use Rattle.mending.specs.Mending.{mended, recording_number, mend_number, mend_done, mend_out}
use Rattle.mending.specs.Places.{gap, Stretch, Before}
use Rattle.mending.proofs.Gaps.{gap_at}
use Rattle.mending.proofs.Walks.{mended_over, stretch_over, stretch_size, next_before}
use Rattle.mending.proofs.mend.Goals as goal
use Rattle.mending.proofs.mend.Goals.{In_ok-first}

-- the first place that starts a field
module _ (s : List ℕ) (first : ℕ) (is : first ≡ gap s) (found : first < length s) where
  starts : acceptable (drop first s) ≡ true
  starts = ap (λ (n : ℕ). acceptable (drop n s)) is ∙ gap_at s (omega (arith, is, found))

  -- the fields from there up to end, and the place behind them
  module _ (end next : ℕ) (this : Stretch s first end) (behind : next ≡ end + gap (drop end s)) where
    abbrev front : List ℕ
    front = take (end - first) (drop first s)

    before : Before s next (end - first)
    before = next_before s first end next (end - first) this behind (omega arith)

    all : mended s ≡ front ++ mended (drop next s)
    all =
        mended_over s ∙ ap (λ (n : ℕ). mended (drop n s)) (sym is) ∙ stretch_over s first end next this behind

    all_size : length (mended s) ≡ end - first + length (mended (drop next s))
    all_size = ap length all ∙ length-append front (mended (drop next s)) ∙ ap (λ (n : ℕ). n + length (mended (drop next s))) (stretch_size s first end this)

place : (c : goal.In_ok-first) → let s = c.args.recording.now in (c.in_ok-first.first ≡ gap s) × (c.in_ok-first.first < length s)
place c = rw c.in_ok-first.was at c.first_field.ensures.place

accepted : (c : goal.In_ok-first) → recording_number c.args.recording.now ≡ 0
accepted c = sym (rw c.in_ok-first.was at c.first_field.ensures.number)

pub returns-in_err-first : goal.returns-in_err-first
unfolding mend_done mend_out mend_number
returns-in_err-first c =
    let s = c.args.recording.now in
    let why = c.in_err-first.field-0.0 in
    let r : c.from_residual.result ≡ Err why = search rules in
    let n : number_of why ≡ recording_number s = (rw c.in_err-first.was at c.first_field.ensures.number) in
    rw (r, ← n) (told_refused (number_of why) (mended s) c.args.out.now (number_positive why))

pub fields_end-end-requires : goal.fields_end-end-requires
fields_end-end-requires c =
    let p = place (goal.at.fields_end-end-requires c).In_ok-first in
    (p.1, starts c.args.recording.now _ p.0 p.1)

pub has_room-requires : goal.has_room-requires
has_room-requires c =
    let p = place (goal.at.has_room-requires c).In_ok-first in
    before c.args.recording.now _ p.0 p.1 _ _ c.fields_end-end.ensures.0 c.place_behind-next.ensures

pub returns-then-not-has_room : goal.returns-then-not-has_room
unfolding mend_done mend_out mend_number
returns-then-not-has_room c =
    let s = c.args.recording.now in
    let o = c.args.out.now in
    let w = (goal.at.returns-then-not-has_room c).In_ok-first in
    let p = place w in
    let size = all_size s _ p.0 p.1 _ _ c.fields_end-end.ensures.0 c.place_behind-next.ensures in
    let h = leb-false _ (length o) (sym c.has_room.ensures ∙ c.if-not-has_room.true) in
    told_short _ (mended s) o (accepted w) (omega (arith, size, h))

pub put_kept-rest-requires : goal.put_kept-rest-requires
put_kept-rest-requires c =
    let p = place (goal.at.put_kept-rest-requires c).In_ok-first in
    before c.args.recording.now _ p.0 p.1 _ _ c.fields_end-end.ensures.0 c.place_behind-next.ensures

pub returns : goal.returns
unfolding mend_done mend_out mend_number
returns c =
    let s = c.args.recording.now in
    let o = c.args.out.now in
    let first = c.in_ok-first.first in
    let end = c.fields_end-end.result in
    let next = c.place_behind-next.result in
    let w = (goal.at.returns c).In_ok-first in
    let at = place w in
    let this = c.fields_end-end.ensures.0 in
    let p = c.put_kept-rest.ensures in
    let size = all_size s first at.0 at.1 end next this c.place_behind-next.ensures in
    let h = leb-true _ (length o) (sym c.has_room.ensures ∙ c.if-not-has_room.false) in
    let k : length (mended s) ≤ length o = omega (arith, size, h) in
    let n : end - first + c.put_kept-rest.result ≡ length (mended s) = ap (λ (m : ℕ). end - first + m) p.0 ∙ sym size in
    let put = sets_then o _ _ (take (end - first) (drop first s)) (mended (drop next s)) 0 (end - first) c.copy_at.ensures (omega (arith, stretch_size s first end this)) p.1 in
    let t = told_ok _ (mended s) o (accepted w) k in
    rw n (t.0, put ∙ ap (sets o 0) (sym (all s first at.0 at.1 end next this c.place_behind-next.ensures)) ∙ sets_over (mended s) o k ∙ t.1)
