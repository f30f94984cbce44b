-- How long the lines are at most: a buffer of 8,256 bytes holds each.
use Prim.Native.Nat.{ℕ, ◌≤◌}
use mathlib.Core.Path.{◌≡◌}
use mathlib.Core.List.{List}
use native.Mathlib.Omega.{arith}
use lib.ListN.{length, take}
use lib.Seq.{sets}
use Rattle.session.specs.declared.Session.{Session}
use Rattle.answers.proofs.Sizes.{answer_fits}
use Rattle.answers.proofs.Sizes as answers
use Rattle.feed.specs.Feed.{line_next}
use Rattle.answers.specs.Steps.{step_line}
use Rattle.feed.proofs.Kept.{front_held}

-- no line is longer
pub next_fits : (s : Session) (bytes : List ℕ) → length (line_next s bytes) ≤ 8256
unfolding line_next step_line
next_fits s bytes = let h = front_held s bytes in answer_fits _ _ (omega (arith, h.0)) h.1

pub line_held : (s : Session) (bytes o o' : List ℕ) (size : ℕ) → length o ≡ 8256 → size ≡ length (line_next s bytes) → o' ≡ sets o 0 (line_next s bytes)
    → (size ≤ length o') × (size ≡ length (take size o'))
line_held s bytes o o' size = answers.line_held (line_next s bytes) o o' size (next_fits s bytes)
