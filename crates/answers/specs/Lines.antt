-- The printed lines (FEED): "`N` is the answer's number"; "HEX is lower-case, two digits a byte, no spaces".
use Rattle.std.specs.Prelude.{ℕ, ◌≤◌, ◌≡◌, List, [], ◌∷◌, ◌++◌, Bool, true, cond, length, take, drop, replicate, eqb}
use Rattle.std.specs.List.{list_all}
use Rattle.laws.specs.declared.Done.{Done}
use Rattle.text.specs.Spelling.{hex_text}
use Rattle.text.specs.Lines.{item, space, newline}
use Rattle.picture.specs.declared.Told.{Told}
use Rattle.picture.specs.declared.Told.TheVariants.{Open, Nothing, Value}
use Rattle.answers.specs.declared.Hand.{Hand}
use Rattle.answers.specs.declared.Hand.TheVariants.{Pack, Sample, Rewrite, Wrap, Unwrap, Write, Stream, Unstream, Mend, Next}
use Rattle.answers.specs.declared.Answer.{Answer}
use Rattle.answers.specs.declared.Answer.TheVariants.{Setup, Line, Sound, Instant, VideoRestart, AudioRestart, Receiver, Arrive, GiveUp, Handed, Reported, Bad, Finished}
use Rattle.answers.specs.Words.{setup, line, sound, instant, field, brighter, darker, field_none, video_restart, audio_restart, receiver, arrive, give_up, spilled, bad}

-- `word N`
unfoldable pub number_line : List ℕ → ℕ → List ℕ
number_line word number = item word number ++ newline

-- "where a field has a fingerprint: `line N field F brighter B darker K`"
unfoldable pub field_text : ℕ → ℕ → ℕ → List ℕ
field_text f b k = item field f ++ item brighter b ++ item darker k

-- "where the line ended a field ` field none`"
abbrev pub told_text : Told → List ℕ
told_text Open = []
told_text Nothing = field_none
told_text (Value f b k) = field_text f b k

unfoldable pub line_line : ℕ → Told → List ℕ
line_line number told = item line number ++ told_text told ++ newline

-- the word of a call with a room
abbrev pub hand_word : Hand → List ℕ
-- `pack `
hand_word Pack = 112 ∷ 97 ∷ 99 ∷ 107 ∷ 32 ∷ []
-- `sample `
hand_word Sample = 115 ∷ 97 ∷ 109 ∷ 112 ∷ 108 ∷ 101 ∷ 32 ∷ []
-- `rewrite `
hand_word Rewrite = 114 ∷ 101 ∷ 119 ∷ 114 ∷ 105 ∷ 116 ∷ 101 ∷ 32 ∷ []
-- `wrap `
hand_word Wrap = 119 ∷ 114 ∷ 97 ∷ 112 ∷ 32 ∷ []
-- `unwrap `
hand_word Unwrap = 117 ∷ 110 ∷ 119 ∷ 114 ∷ 97 ∷ 112 ∷ 32 ∷ []
-- `write `
hand_word Write = 119 ∷ 114 ∷ 105 ∷ 116 ∷ 101 ∷ 32 ∷ []
-- `stream `
hand_word Stream = 115 ∷ 116 ∷ 114 ∷ 101 ∷ 97 ∷ 109 ∷ 32 ∷ []
-- `unstream `
hand_word Unstream = 117 ∷ 110 ∷ 115 ∷ 116 ∷ 114 ∷ 101 ∷ 97 ∷ 109 ∷ 32 ∷ []
-- `mend `
hand_word Mend = 109 ∷ 101 ∷ 110 ∷ 100 ∷ 32 ∷ []
-- `next `
hand_word Next = 110 ∷ 101 ∷ 120 ∷ 116 ∷ 32 ∷ []

-- "[ HEX] is there only where N is 0"
unfoldable pub hex_part : ℕ → List ℕ → List ℕ
hex_part number bytes = cond (eqb number 0) (space ++ hex_text bytes) []

-- ---- the watch over the bytes beyond those written

-- the buffer lent to a call with a room: "filled with A5h first"
unfoldable pub untouched : ℕ → List ℕ
untouched room = replicate room 0xA5

-- the work buffer, whose first `room` bytes are lent
abbrev pub fresh : List ℕ
fresh = untouched 4096

unfoldable pub is_untouched : List ℕ → Bool
is_untouched s = list_all (λ b. eqb b 0xA5) s

-- ` spilled` where a byte is touched that should not be
unfoldable pub spill_part : List ℕ → List ℕ
spill_part beyond = cond (is_untouched beyond) [] spilled

-- where it never comes
unfoldable pub no_spill : List ℕ → List ℕ
no_spill beyond = []

-- ---- the line of an answer, with the work buffer as the call left it

-- `word N[ HEX]`: "the bytes that the call counted as written", the first of the buffer that it left
unfoldable pub handed_line : (List ℕ → List ℕ) → Hand → Done → List ℕ → List ℕ
handed_line spill hand d left =
    item (hand_word hand) d.number ++ hex_part d.number (take d.written left) ++ spill (drop d.written left) ++ newline

-- "At the end of the feed it stops and prints nothing more"
unfoldable pub line_with : (List ℕ → List ℕ) → Answer → List ℕ → List ℕ
line_with spill (Setup number) left = number_line setup number
line_with spill (Line number told) left = line_line number told
line_with spill (Sound number) left = number_line sound number
line_with spill (Instant number) left = number_line instant number
line_with spill VideoRestart left = video_restart ++ newline
line_with spill AudioRestart left = audio_restart ++ newline
line_with spill Receiver left = receiver ++ newline
line_with spill (Arrive number) left = number_line arrive number
line_with spill GiveUp left = give_up ++ newline
line_with spill (Handed hand d) left = handed_line spill hand d left
line_with spill (Reported size) left = take size left
line_with spill (Bad cause) left = bad ++ newline
line_with spill Finished left = []

-- what is said, with the watch; and the line that FEED has
unfoldable pub said_of : Answer → List ℕ → List ℕ
said_of a left = line_with spill_part a left

unfoldable pub line_of : Answer → List ℕ → List ℕ
line_of a left = line_with no_spill a left

-- an answer counts no more than there is, and beyond what it counts nothing is touched: ` spilled` does not come
unfoldable pub Quiet : Answer → List ℕ → Type 0
Quiet (Handed hand d) left = (d.written ≤ length left) × (is_untouched (drop d.written left) ≡ true)
Quiet (Reported size) left = size ≤ length left
Quiet (Setup number) left = 0 ≤ 0
Quiet (Line number told) left = 0 ≤ 0
Quiet (Sound number) left = 0 ≤ 0
Quiet (Instant number) left = 0 ≤ 0
Quiet VideoRestart left = 0 ≤ 0
Quiet AudioRestart left = 0 ≤ 0
Quiet Receiver left = 0 ≤ 0
Quiet (Arrive number) left = 0 ≤ 0
Quiet GiveUp left = 0 ≤ 0
Quiet (Bad cause) left = 0 ≤ 0
Quiet Finished left = 0 ≤ 0
