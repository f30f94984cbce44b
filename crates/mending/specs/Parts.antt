-- A recording as the walk over its places parts it (02, A8): fields that are kept and runs of bytes that are dropped, in the input's order.
use Rattle.std.specs.Prelude.{ℕ, zero, suc, ◌-◌, List, [], ◌∷◌, ◌++◌, cond, take}
use Rattle.mending.specs.Fields.{field_size, acceptable}

pub data Part : Type 0 where
  kept : List ℕ → Part
  dropped : List ℕ → Part

-- a byte dropped in front of parts: it is the first of the run that starts there, or a run of its own
unfoldable pub drop_then : ℕ → List Part → List Part
drop_then b [] = dropped (b ∷ []) ∷ []
drop_then b (kept field ∷ parts) = dropped (b ∷ []) ∷ kept field ∷ parts
drop_then b (dropped run ∷ parts) = dropped (b ∷ run) ∷ parts

-- "At each place, a whole field whose container is accepted is kept and passed over; otherwise one byte is dropped and the next place tried", where so many
-- bytes are still to be passed over
unfoldable pub walk : ℕ → List ℕ → List Part
walk n [] = []
walk (suc n) (b ∷ s) = walk n s
walk zero (b ∷ s) =
    cond (acceptable (b ∷ s))
    (kept (take (field_size (b ∷ s)) (b ∷ s)) ∷ walk (field_size (b ∷ s) - 1) s)
    (drop_then b (walk zero s))

unfoldable pub parts_of : List ℕ → List Part
parts_of s = walk 0 s

-- all their bytes, in order
unfoldable pub bytes_of : List Part → List ℕ
bytes_of [] = []
bytes_of (kept field ∷ parts) = field ++ bytes_of parts
bytes_of (dropped run ∷ parts) = run ++ bytes_of parts

-- "the kept fields joined", and how many there are
unfoldable pub joined : List Part → List ℕ
joined [] = []
joined (kept field ∷ parts) = field ++ joined parts
joined (dropped run ∷ parts) = joined parts

unfoldable pub kept_count : List Part → ℕ
kept_count [] = 0
kept_count (kept field ∷ parts) = suc (kept_count parts)
kept_count (dropped run ∷ parts) = kept_count parts
