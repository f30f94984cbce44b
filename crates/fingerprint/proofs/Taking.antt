-- Bytes taken, by the tests.
use Prim.Native.Nat.{ℕ, ◌*◌, ◌<◌, ◌≤◌}
use mathlib.Core.Path.{◌≡◌, ◌∙◌}
use mathlib.Core.Bool.{true, false}
use lib.Dec.{leb}
use lib.ListN.{replicate}
use borrow.Author.Tests.{le-leb, lt-leb, leb-true}
use Rattle.laws.proofs.Tests.{both, and_stops, and_goes}
use Rattle.fingerprint.specs.declared.Fingerprint.{Fingerprint}
use Rattle.fingerprint.specs.State.{holds_of, first_bytes, can_take, without, take_of}

module _ (f : Fingerprint) (n : ℕ) where
  left_alone : (can_take f n ≡ false) → record { fingerprint = f; bytes = replicate 5 0 } ≡ take_of f n
  unfolding take_of
  left_alone e = rw e

  pub take_many : 5 < n → record { fingerprint = f; bytes = replicate 5 0 } ≡ take_of f n
  unfolding can_take
  take_many h = left_alone (and_stops (leb n 5) (holds_of f n) (lt-leb n 5 h))

  pub take_short : n ≤ 5 → f.held < 8 * n → record { fingerprint = f; bytes = replicate 5 0 } ≡ take_of f n
  unfolding can_take holds_of
  take_short h k = left_alone (and_goes (leb n 5) (holds_of f n) (le-leb n 5 h) ∙ lt-leb (8 * n) f.held k)

  pub can_take_held : n ≤ 5 → 8 * n ≤ f.held → can_take f n ≡ true
  unfolding can_take holds_of
  can_take_held h k = rw (le-leb n 5 h, le-leb (8 * n) f.held k)

  pub take_is : can_take f n ≡ true → take_of f n ≡ record { fingerprint = without f n; bytes = first_bytes n f.bytes }
  unfolding take_of
  take_is e = rw e

  pub can_take_room : can_take f n ≡ true → (n ≤ 5) × (8 * n ≤ f.held)
  unfolding can_take holds_of
  can_take_room e =
      let b = both (leb n 5) (leb (8 * n) f.held) e in
      (leb-true n 5 b.0, leb-true (8 * n) f.held b.1)
