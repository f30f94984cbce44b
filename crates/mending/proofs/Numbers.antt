-- The recording's own number, by where its first acceptable field is.
use Prim.Native.Nat.{ℕ, ◌≤◌, ◌<◌}
use mathlib.Core.Path.{◌≡◌}
use mathlib.Core.List.{List}
use borrow.Author.Tests.{le-leb, lt-leb}
use lib.ListN.{length}
use Rattle.mending.specs.Mending.{recording_number}
use Rattle.mending.specs.Places.{gap}
use Rattle.mending.proofs.Gaps.{any_gap, none_gap}

pub too_long : (s : List ℕ) → 65536 < length s → recording_number s ≡ 51
unfolding recording_number
too_long s h = rw (lt-leb (length s) 65536 h)

pub no_field : (s : List ℕ) → length s ≤ 65536 → gap s ≡ length s → recording_number s ≡ 50
unfolding recording_number
no_field s h e = rw (le-leb (length s) 65536 h, none_gap s e)

pub a_field : (s : List ℕ) → length s ≤ 65536 → gap s < length s → recording_number s ≡ 0
unfolding recording_number
a_field s h e = rw (le-leb (length s) 65536 h, any_gap s e)
