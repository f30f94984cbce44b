-- The pieces of a line, and where one ends in the buffer that it is put into.
use Rattle.std.specs.Prelude.{ℕ, ◌+◌, List, [], ◌∷◌, ◌++◌, cond, ◌≡◌, length, leb}
use Rattle.std.proofs.lemmas.List.Edits.{sets}
use Rattle.text.specs.Spelling.{decimal_text}

-- a place has 64 bits
abbrev pub last_place : ℕ
last_place = 18446744073709551615

-- the place so many bytes after another, or the last place where there is none
unfoldable pub place_past : ℕ → ℕ → ℕ
place_past at size = cond (leb (at + size) last_place) (at + size) last_place

-- text put into a buffer: it stands there from a place on, as far as the buffer goes, and next is the place after it
pub record Put (o : List ℕ) (at : ℕ) (text o' : List ℕ) (next : ℕ) : Type 0 where
  pub place : next ≡ place_past at (length text)
  pub stands : o' ≡ sets o at text

-- a word and the number after it
unfoldable pub item : List ℕ → ℕ → List ℕ
item word n = word ++ decimal_text n

abbrev pub space : List ℕ
space = 32 ∷ []

abbrev pub newline : List ℕ
newline = 10 ∷ []

-- `refused `
abbrev pub refused : List ℕ
refused = 114 ∷ 101 ∷ 102 ∷ 117 ∷ 115 ∷ 101 ∷ 100 ∷ 32 ∷ []

-- "A refusal prints `refused` and the number" (01), the same of 02's programs
unfoldable pub refused_text : ℕ → List ℕ
refused_text n = item refused n ++ newline
