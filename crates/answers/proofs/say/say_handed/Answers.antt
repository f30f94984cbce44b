-- `answers::say::say_handed` meets its contract: one piece after the other.
use Prim.Native.Nat.{ℕ, ◌≤◌}
use mathlib.Core.Path.{ap, ◌∙◌}
use mathlib.Core.List.{List}
use native.Mathlib.Omega.{arith}
use lib.ListN.{length, take, drop}
use Rattle.text.specs.Lines.{last_place, item}
use Rattle.text.proofs.Pieces.{put_then, put_as}
use Rattle.answers.specs.Lines.{hex_part, spill_part, handed_line}
use Rattle.laws.proofs.Lists.{tail_part}
use Rattle.std.proofs.lemmas.List.{take_min, drop_min}
use Rattle.answers.proofs.say.say_handed.Goals as goal
use Rattle.answers.proofs.say.say_handed.Goals.{Start}

fits : (c : goal.Start) → length c.args.out.now ≤ last_place
fits c = omega arith

pub returns : goal.returns
unfolding handed_line item
returns c =
    let a = c.args in
    let w = a.work.now in
    let n = c.min-written.result in
    let h = fits (goal.at.returns c).Start in
    let word = put_as (ap (λ (x : List ℕ). item x a.done.number) c.hand_word.ensures) c.put_item-a.ensures in
    let hex = put_as (ap (hex_part a.done.number) (ap (λ (k : ℕ). take k w) c.min-written.ensures ∙ take_min a.done.written w)) c.put_written-b.ensures in
    let spill = put_as (ap spill_part (tail_part w n ∙ ap (λ (k : ℕ). drop k w) c.min-written.ensures ∙ drop_min a.done.written w)) c.put_spill-c.ensures in
    put_then (put_then (put_then word hex h) spill h) c.put.ensures h
