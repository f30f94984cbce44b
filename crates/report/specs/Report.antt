-- The line of 01's program: "counter, rate code, ID present (1) or not, number of video values then the values, number of audio fingerprints";
-- "A refusal prints `refused` and the number". In ASCII, with the line's end.
use Rattle.std.specs.Prelude.{ℕ, List, [], ◌∷◌, ◌++◌, cond, eqb, take}
use Rattle.text.specs.Lines.{item, space, newline, refused_text}
use Rattle.laws.specs.declared.Video.{Video}
use Rattle.laws.specs.declared.Video.TheVariants.{Absent, One, Two}
use Rattle.container.specs.declared.Contents.{Contents}
use Rattle.container.specs.Reading.{Reading}
use Rattle.container.specs.Reading.{reading}

-- `ok seq `
abbrev pub ok_seq : List ℕ
ok_seq = 111 ∷ 107 ∷ 32 ∷ 115 ∷ 101 ∷ 113 ∷ 32 ∷ []

-- ` rate `
abbrev pub rate : List ℕ
rate = 32 ∷ 114 ∷ 97 ∷ 116 ∷ 101 ∷ 32 ∷ []

-- ` id `
abbrev pub id : List ℕ
id = 32 ∷ 105 ∷ 100 ∷ 32 ∷ []

-- ` video `
abbrev pub video : List ℕ
video = 32 ∷ 118 ∷ 105 ∷ 100 ∷ 101 ∷ 111 ∷ 32 ∷ []

-- ` audio `
abbrev pub audio : List ℕ
audio = 32 ∷ 97 ∷ 117 ∷ 100 ∷ 105 ∷ 111 ∷ 32 ∷ []

unfoldable pub video_text : Video → List ℕ
video_text Absent = item video 0
video_text (One a) = item video 1 ++ item space a
video_text (Two a b) = item video 2 ++ item space a ++ item space b

unfoldable pub accepted_text : Contents → List ℕ
accepted_text c =
    item ok_seq c.counter
    ++ item rate c.rate
    ++ item id (cond c.hasid 1 0)
    ++ video_text c.video
    ++ item audio c.count
    ++ newline

unfoldable pub reported : Reading → List ℕ
reported r = cond (eqb r.number 0) (accepted_text r.contents) (refused_text r.number)

-- "A program takes up to 300 bytes .., reads them as a container and prints one line"; "Of a longer input the first 300 bytes are taken"
unfoldable pub inspected : List ℕ → List ℕ
inspected input = reported (reading (take 300 input))
