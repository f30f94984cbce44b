-- The fields of a recording (02, A8): "tagged fields: a one-byte tag 01h, a two-byte length with the high byte first, then a container".
use Rattle.std.specs.Prelude.{ℕ, ◌+◌, List, [], ◌∷◌, Bool, false, ◌&&◌, ◌||◌, length, take, drop, leb, eqb}
use Rattle.records.specs.Records.{byte_at, pair_at}
use Rattle.container.specs.Reading.{reading}

-- the bytes of a field at the front of s, by its length
unfoldable pub field_size : List ℕ → ℕ
field_size s = pair_at s 1 + 3

-- what it says its container is
unfoldable pub container_in : List ℕ → List ℕ
container_in s = take (pair_at s 1) (drop 3 s)

-- at the front of s stands "a whole field whose container is accepted"
unfoldable pub acceptable : List ℕ → Bool
acceptable s = eqb (byte_at s 0) 0x01 && (leb (field_size s) (length s) && eqb (reading (container_in s)).number 0)

-- a "place in the input starts an acceptable field"
unfoldable pub any_field : List ℕ → Bool
any_field [] = false
any_field (b ∷ s) = acceptable (b ∷ s) || any_field s
