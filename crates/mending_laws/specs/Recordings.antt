-- "A recording of one or more whole acceptable fields" (02, A8), and what Mend hands out into a lent buffer.
use Rattle.std.specs.Prelude.{ℕ, ◌<◌, ◌≡◌, true, List, [], ◌++◌, length}
use Rattle.laws.specs.Calls.{handed_out}
use Rattle.mending.specs.Fields.{field_size, acceptable}
use Rattle.mending.specs.Mending.{mend_done, mend_out}

-- an acceptable field, and nothing behind it
pub record IsField (f : List ℕ) : Type 0 where
  pub starts : acceptable f ≡ true
  pub all : field_size f ≡ length f

-- any number of them, one after the other
pub data Fields : List ℕ → Type 0 where
  none : Fields []
  more : (f rest : List ℕ) → IsField f → Fields rest → Fields (f ++ rest)

-- "one or more": a field has three bytes at least
pub record Recording (s : List ℕ) : Type 0 where
  pub fields : Fields s
  pub some : 0 < length s

abbrev pub mended_out : List ℕ → List ℕ → List ℕ
mended_out s out = handed_out (mend_done s (length out)) (mend_out s out)
