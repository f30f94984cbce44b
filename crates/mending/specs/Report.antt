-- What the tool prints of a recording (02, A8). In ASCII, with the lines' ends.
use Rattle.std.specs.Prelude.{ℕ, ◌+◌, List, [], ◌∷◌, ◌++◌, cond, length, eqb}
use Rattle.text.specs.Lines.{item, space, newline, refused_text}
use Rattle.mending.specs.Parts.{Part, parts_of, kept_count}
use Rattle.mending.specs.Parts as parts
use Rattle.mending.specs.Mending.{recording_number}

-- `dropped `
abbrev pub dropped : List ℕ
dropped = 100 ∷ 114 ∷ 111 ∷ 112 ∷ 112 ∷ 101 ∷ 100 ∷ 32 ∷ []

-- `kept `
abbrev pub kept : List ℕ
kept = 107 ∷ 101 ∷ 112 ∷ 116 ∷ 32 ∷ []

-- "`dropped START COUNT`"
unfoldable pub run_text : ℕ → ℕ → List ℕ
run_text start count = item dropped start ++ item space count ++ newline

-- "one line for each dropped run", of parts that start at a place: "START counted from 0"
unfoldable pub runs_text : ℕ → List Part → List ℕ
runs_text at [] = []
runs_text at (parts.kept field ∷ rest) = runs_text (at + length field) rest
runs_text at (parts.dropped run ∷ rest) = run_text at (length run) ++ runs_text (at + length run) rest

-- "and last `kept N`, N the number of fields"
unfoldable pub kept_text : ℕ → List ℕ
kept_text n = item kept n ++ newline

unfoldable pub mended_text : List ℕ → List ℕ
mended_text s = runs_text 0 (parts_of s) ++ kept_text (kept_count (parts_of s))

-- "Where the library refuses, the tool prints only `refused` and the number"
unfoldable pub reported : List ℕ → List ℕ
reported s = cond (eqb (recording_number s) 0) (mended_text s) (refused_text (recording_number s))
