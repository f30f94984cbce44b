-- What is said of a bad record beside its line, in ASCII: where it stands in the feed, and why it is bad (FEED's last paragraph).
use Rattle.std.specs.Prelude.{ℕ, List, [], ◌∷◌, ◌++◌}
use Rattle.text.specs.Spelling.{hex_text}
use Rattle.text.specs.Lines.{item, newline}
use Rattle.answers.specs.declared.Cause.{Cause}
use Rattle.answers.specs.declared.Cause.TheVariants.{UnknownTag, TooShort, TooLong, RoomAbove, IdPresent, VideoValues, UnusedPlace, OtherKind, CutShort}

-- a cause's words
abbrev pub cause_words : Cause → List ℕ
-- `unknown tag 0x`
cause_words (UnknownTag tag) = 117 ∷ 110 ∷ 107 ∷ 110 ∷ 111 ∷ 119 ∷ 110 ∷ 32 ∷ 116 ∷ 97 ∷ 103 ∷ 32 ∷ 48 ∷ 120 ∷ []
-- `payload too short`
cause_words TooShort = 112 ∷ 97 ∷ 121 ∷ 108 ∷ 111 ∷ 97 ∷ 100 ∷ 32 ∷ 116 ∷ 111 ∷ 111 ∷ 32 ∷ 115 ∷ 104 ∷ 111 ∷ 114 ∷ 116 ∷ []
-- `payload too long`
cause_words TooLong = 112 ∷ 97 ∷ 121 ∷ 108 ∷ 111 ∷ 97 ∷ 100 ∷ 32 ∷ 116 ∷ 111 ∷ 111 ∷ 32 ∷ 108 ∷ 111 ∷ 110 ∷ 103 ∷ []
-- `room above 4,096`
cause_words RoomAbove = 114 ∷ 111 ∷ 111 ∷ 109 ∷ 32 ∷ 97 ∷ 98 ∷ 111 ∷ 118 ∷ 101 ∷ 32 ∷ 52 ∷ 44 ∷ 48 ∷ 57 ∷ 54 ∷ []
-- `flat contents with ID present above 1`
cause_words IdPresent = 102 ∷ 108 ∷ 97 ∷ 116 ∷ 32 ∷ 99 ∷ 111 ∷ 110 ∷ 116 ∷ 101 ∷ 110 ∷ 116 ∷ 115 ∷ 32 ∷ 119 ∷ 105 ∷ 116 ∷ 104 ∷ 32 ∷ 73 ∷ 68 ∷ 32 ∷ 112 ∷ 114 ∷ 101 ∷ 115 ∷ 101 ∷ 110 ∷ 116 ∷ 32 ∷ 97 ∷ 98 ∷ 111 ∷ 118 ∷ 101 ∷ 32 ∷ 49 ∷ []
-- `flat contents with more than 2 video values`
cause_words VideoValues = 102 ∷ 108 ∷ 97 ∷ 116 ∷ 32 ∷ 99 ∷ 111 ∷ 110 ∷ 116 ∷ 101 ∷ 110 ∷ 116 ∷ 115 ∷ 32 ∷ 119 ∷ 105 ∷ 116 ∷ 104 ∷ 32 ∷ 109 ∷ 111 ∷ 114 ∷ 101 ∷ 32 ∷ 116 ∷ 104 ∷ 97 ∷ 110 ∷ 32 ∷ 50 ∷ 32 ∷ 118 ∷ 105 ∷ 100 ∷ 101 ∷ 111 ∷ 32 ∷ 118 ∷ 97 ∷ 108 ∷ 117 ∷ 101 ∷ 115 ∷ []
-- `flat contents with an unused video place not zero`
cause_words UnusedPlace = 102 ∷ 108 ∷ 97 ∷ 116 ∷ 32 ∷ 99 ∷ 111 ∷ 110 ∷ 116 ∷ 101 ∷ 110 ∷ 116 ∷ 115 ∷ 32 ∷ 119 ∷ 105 ∷ 116 ∷ 104 ∷ 32 ∷ 97 ∷ 110 ∷ 32 ∷ 117 ∷ 110 ∷ 117 ∷ 115 ∷ 101 ∷ 100 ∷ 32 ∷ 118 ∷ 105 ∷ 100 ∷ 101 ∷ 111 ∷ 32 ∷ 112 ∷ 108 ∷ 97 ∷ 99 ∷ 101 ∷ 32 ∷ 110 ∷ 111 ∷ 116 ∷ 32 ∷ 122 ∷ 101 ∷ 114 ∷ 111 ∷ []
-- `kind other than 1, 2 or 5`
cause_words OtherKind = 107 ∷ 105 ∷ 110 ∷ 100 ∷ 32 ∷ 111 ∷ 116 ∷ 104 ∷ 101 ∷ 114 ∷ 32 ∷ 116 ∷ 104 ∷ 97 ∷ 110 ∷ 32 ∷ 49 ∷ 44 ∷ 32 ∷ 50 ∷ 32 ∷ 111 ∷ 114 ∷ 32 ∷ 53 ∷ []
-- `cut short by the end of the input`
cause_words CutShort = 99 ∷ 117 ∷ 116 ∷ 32 ∷ 115 ∷ 104 ∷ 111 ∷ 114 ∷ 116 ∷ 32 ∷ 98 ∷ 121 ∷ 32 ∷ 116 ∷ 104 ∷ 101 ∷ 32 ∷ 101 ∷ 110 ∷ 100 ∷ 32 ∷ 111 ∷ 102 ∷ 32 ∷ 116 ∷ 104 ∷ 101 ∷ 32 ∷ 105 ∷ 110 ∷ 112 ∷ 117 ∷ 116 ∷ []

-- an unknown tag follows in hexadecimal
abbrev pub tag_text : Cause → List ℕ
tag_text (UnknownTag tag) = hex_text (tag ∷ [])
tag_text cause = []

unfoldable pub cause_text : Cause → List ℕ
cause_text cause = cause_words cause ++ tag_text cause

-- `record `
abbrev pub record_word : List ℕ
record_word = 114 ∷ 101 ∷ 99 ∷ 111 ∷ 114 ∷ 100 ∷ 32 ∷ []

-- `, at byte `
abbrev pub at_byte : List ℕ
at_byte = 44 ∷ 32 ∷ 97 ∷ 116 ∷ 32 ∷ 98 ∷ 121 ∷ 116 ∷ 101 ∷ 32 ∷ []

-- `: `
abbrev pub colon : List ℕ
colon = 58 ∷ 32 ∷ []

-- records count from 1, bytes from 0
unfoldable pub fault_text : ℕ → ℕ → Cause → List ℕ
fault_text number byte cause = item record_word number ++ item at_byte byte ++ colon ++ cause_text cause

-- as `card: record 17, at byte 40321: unknown tag 0x1f`
unfoldable pub fault_line : List ℕ → ℕ → ℕ → Cause → List ℕ
fault_line program number byte cause = program ++ colon ++ fault_text number byte cause ++ newline
