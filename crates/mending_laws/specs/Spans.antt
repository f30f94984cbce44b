-- Where the parts of a recording lie in it: the kept fields by their places, and dropped runs that could not be longer.
use Rattle.std.specs.Prelude.{ℕ, ◌+◌, ◌<◌, ◌≡◌, List, [], ◌∷◌, ◌++◌, length}
use Rattle.mending.specs.Parts.{Part, kept, dropped, bytes_of}

-- a field is kept that lies from a place up to another
pub record KeptAt (parts : List Part) (start end : ℕ) : Type 0 where
  pub before : List Part
  pub field : List ℕ
  pub after : List Part
  pub split : parts ≡ before ++ kept field ∷ after
  pub starts : start ≡ length (bytes_of before)
  pub ends : end ≡ start + length field

-- a field of so many bytes at a place is kept, unless a kept field before it overlaps it
pub data Spared (parts : List Part) (at size : ℕ) : Type 0 where
  whole : KeptAt parts at (at + size) → Spared parts at size
  overlapped : (start end : ℕ) → KeptAt parts start end → start < at → at < end → Spared parts at size

-- no run is empty, and no two stand side by side
unfoldable pub Apart : List Part → Type 0
Apart [] = Unit {0}
Apart (kept field ∷ parts) = Apart parts
Apart (dropped [] ∷ parts) = ⊥
Apart (dropped (b ∷ run) ∷ []) = Unit {0}
Apart (dropped (b ∷ run) ∷ kept field ∷ parts) = Apart parts
Apart (dropped (b ∷ run) ∷ dropped more ∷ parts) = ⊥
