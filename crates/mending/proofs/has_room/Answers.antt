-- `mending::has_room` meets its contract.
use Prim.Native.Nat.{ℕ, ◌+◌, ◌≤◌}
use mathlib.Core.Path.{sym, ◌∙◌}
use mathlib.Core.List.{List}
use native.Mathlib.Omega.{arith}
use borrow.Author.Tests.{le-leb}
use lib.ListN.{length, drop, length-drop}
use Rattle.mending.specs.Mending.{mended}
use Rattle.mending.proofs.Walks.{mended_size}
use Rattle.mending.proofs.has_room.Goals as goal

-- no more is kept than is left
most : (s : List ℕ) (from : ℕ) → from ≤ length s → length (mended (drop from s)) + from ≤ length s
most s from h = omega (arith, mended_size (drop from s), length-drop from s)

pub returns-then-size-recording : goal.returns-then-size-recording
returns-then-size-recording c =
    let a = c.args in
    let h : a.size + length (mended (drop a.from a.recording.now)) ≤ a.room = omega (arith, c.if-size-recording.true, most a.recording.now a.from c.requires.within) in
    le-leb _ _ c.if-size-recording.true ∙ sym (le-leb _ _ h)

pub overflow_add-result : goal.overflow_add-result
overflow_add-result c = omega (arith, c.put_kept.ensures.0, most c.args.recording.now c.args.from c.requires.within, c.requires.fewer)
