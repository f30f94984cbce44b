-- The fingerprints of a session, as lists.
use Rattle.std.specs.Prelude.{ℕ, zero, suc, List, [], ◌∷◌, ◌++◌, map, Bool, true, ◌&&◌, length, drop, replicate}
use Rattle.rates.specs.Mixes.{mix_listed}
use Rattle.fingerprint.specs.declared.Fingerprint.{Fingerprint}
use Rattle.fingerprint.specs.State.{fresh_of, holds_of, take_of}
use Rattle.container.specs.declared.Print.{Print}
use Rattle.container.specs.Contents.{blanks}
use Rattle.session.specs.declared.fingerprints.Part.{Part}
use Rattle.session.specs.declared.fingerprints.Parts.{Parts}

unfoldable pub all_listed : List ℕ → Bool
all_listed [] = true
all_listed (m ∷ ms) = mix_listed m && all_listed ms

-- a fresh fingerprint for each mix type; the places after them have none
unfoldable pub fresh_fingerprints : List ℕ → List Fingerprint
fresh_fingerprints mixes = map fresh_of mixes ++ drop (length mixes) (replicate 32 (fresh_of 0))

-- the first n of fs, each as g makes it
unfoldable pub each : (Fingerprint → Fingerprint) → ℕ → List Fingerprint → List Fingerprint
each g zero fs = fs
each g (suc n) [] = []
each g (suc n) (f ∷ fs) = g f ∷ each g n fs

-- "An audio restart clears all fingerprints"
unfoldable pub cleared : Fingerprint → Fingerprint
cleared f = fresh_of f.mix

-- "these, oldest first, leave all of them"
unfoldable pub shed : ℕ → Fingerprint → Fingerprint
shed due f = (take_of f due).fingerprint

-- each of the first n holds the whole bytes that are due
unfoldable pub all_hold : ℕ → ℕ → List Fingerprint → Bool
all_hold due zero fs = true
all_hold due (suc n) [] = true
all_hold due (suc n) (f ∷ fs) = holds_of f due && all_hold due n fs

-- "Fingerprint k is written with ID k"
unfoldable pub print_of : ℕ → ℕ → Fingerprint → Print
print_of k due f = record { id = k; mix = f.mix; size = due; bytes = (take_of f due).bytes }

-- the first n, the first of them with ID k
unfoldable pub prints_of : ℕ → ℕ → ℕ → List Fingerprint → List Print
prints_of due k zero fs = []
prints_of due k (suc n) [] = []
prints_of due k (suc n) (f ∷ fs) = print_of k due f ∷ prints_of due (suc k) n fs

-- "unused places are zero"
unfoldable pub with_blanks : List Print → List Print
with_blanks ps = ps ++ blanks (length ps)

-- a fingerprint as the container says it, and without the bytes that left; and the same of the first n
unfoldable pub part_of : ℕ → ℕ → Fingerprint → Part
part_of k due f = record { print = print_of k due f; left = shed due f }

unfoldable pub parts_of : ℕ → ℕ → List Fingerprint → Parts
parts_of due n fs = record { said = with_blanks (prints_of due 0 n fs); left = each (shed due) n fs }
