-- How long what is said is at most.
use Prim.Native.Nat.{ℕ, ◌+◌, ◌≤◌}
use mathlib.Core.Path.{◌≡◌, refl, sym, ap, ◌∙◌}
use mathlib.Core.List.{List, [], ◌∷◌, ◌++◌}
use native.Mathlib.Omega.{arith}
use lib.ListN.{length, take, drop, length-append}
use lib.Seq.{sets, length-sets, length-take-le}
use Rattle.laws.specs.declared.Done.{Done}
use Rattle.text.specs.Lines.{item, newline}
use Rattle.text.proofs.Spelled.{item_size, hex_size}
use Rattle.picture.specs.declared.Told.{Told}
use Rattle.picture.specs.declared.Told.TheVariants.{Open, Nothing, Value}
use Rattle.answers.specs.declared.Cause.{Cause}
use Rattle.answers.specs.declared.Cause.TheVariants.{UnknownTag, TooShort, TooLong, RoomAbove, IdPresent, VideoValues, UnusedPlace, OtherKind, CutShort}
use Rattle.answers.specs.declared.Hand.{Hand}
use Rattle.answers.specs.declared.Hand.TheVariants.{Pack, Sample, Rewrite, Wrap, Unwrap, Write, Stream, Unstream, Mend, Next}
use Rattle.answers.specs.declared.Answer.{Answer}
use Rattle.answers.specs.declared.Answer.TheVariants.{Setup, Line, Sound, Instant, VideoRestart, AudioRestart, Receiver, Arrive, GiveUp, Handed, Reported, Bad, Finished}
use Rattle.answers.specs.Words.{setup, line, sound, instant, arrive, field, brighter, darker}
use Rattle.answers.specs.Lines.{number_line, field_text, told_text, line_line, hand_word, hex_part, no_spill, handed_line, line_with, said_of, line_of, Quiet}
use Rattle.answers.specs.Faults.{cause_words, tag_text, record_word, at_byte, colon, cause_text, fault_text, fault_line}
use Rattle.answers.proofs.Watch.{hex_part_size, spill_none}

number_size : (word : List ℕ) (n : ℕ) → length (number_line word n) ≤ length word + 21
unfolding number_line
number_size word n = omega (arith, length-append (item word n) newline, item_size word n)

field_size : (f b k : ℕ) → length (field_text f b k) ≤ 85
unfolding field_text
field_size f b k =
    omega (
      arith,
      length-append (item field f ++ item brighter b) (item darker k),
      length-append (item field f) (item brighter b),
      item_size field f,
      item_size brighter b,
      item_size darker k,
    )

told_size : (t : Told) → length (told_text t) ≤ 85
told_size Open = omega arith
told_size Nothing = omega arith
told_size (Value f b k) = field_size f b k

line_size : (n : ℕ) (told : Told) → length (line_line n told) ≤ 111
unfolding line_line
line_size n told = omega (arith, length-append (item line n ++ told_text told) newline, length-append (item line n) (told_text told), item_size line n, told_size told)

word_size : (hand : Hand) → length (hand_word hand) ≤ 9
word_size Pack = omega arith
word_size Sample = omega arith
word_size Rewrite = omega arith
word_size Wrap = omega arith
word_size Unwrap = omega arith
word_size Write = omega arith
word_size Stream = omega arith
word_size Unstream = omega arith
word_size Mend = omega arith
word_size Next = omega arith

-- a line with the bytes that a call wrote into its room
handed_size : (hand : Hand) (d : Done) (left : List ℕ) → d.written ≤ length left → length left ≤ 4096 → length (handed_line no_spill hand d left) ≤ 8256
unfolding handed_line no_spill
handed_size hand d left h k =
    let bytes : List ℕ = take d.written left in
    let text : List ℕ = item (hand_word hand) d.number in
    omega (
      arith,
      length-take-le d.written left h,
      length-append (text ++ hex_part d.number bytes ++ []) newline,
      length-append (text ++ hex_part d.number bytes) [],
      length-append text (hex_part d.number bytes),
      item_size (hand_word hand) d.number,
      word_size hand,
      hex_part_size d.number bytes,
    )

pub answer_fits : (a : Answer) (left : List ℕ) → length left ≤ 4096 → Quiet a left → length (line_of a left) ≤ 8256
unfolding line_of line_with Quiet
answer_fits (Setup n) left h q = omega (arith, number_size setup n)
answer_fits (Line n told) left h q = omega (arith, line_size n told)
answer_fits (Sound n) left h q = omega (arith, number_size sound n)
answer_fits (Instant n) left h q = omega (arith, number_size instant n)
answer_fits VideoRestart left h q = omega arith
answer_fits AudioRestart left h q = omega arith
answer_fits Receiver left h q = omega arith
answer_fits (Arrive n) left h q = omega (arith, number_size arrive n)
answer_fits GiveUp left h q = omega arith
answer_fits (Handed hand d) left h q = handed_size hand d left q.0 h
answer_fits (Reported size) left h q = omega (arith, length-take-le size left q)
answer_fits (Bad cause) left h q = omega arith
answer_fits Finished left h q = omega arith

-- an answer that is quiet is said as FEED has it
pub quiet_said : (a : Answer) (left : List ℕ) → Quiet a left → said_of a left ≡ line_of a left
unfolding said_of line_of line_with handed_line no_spill Quiet
quiet_said (Setup n) left q = refl
quiet_said (Line n told) left q = refl
quiet_said (Sound n) left q = refl
quiet_said (Instant n) left q = refl
quiet_said VideoRestart left q = refl
quiet_said AudioRestart left q = refl
quiet_said Receiver left q = refl
quiet_said (Arrive n) left q = refl
quiet_said GiveUp left q = refl
quiet_said (Handed hand d) left q =
    ap (λ (l : List ℕ). item (hand_word hand) d.number ++ hex_part d.number (take d.written left) ++ l ++ newline) (spill_none (drop d.written left) q.1)
quiet_said (Reported size) left q = refl
quiet_said (Bad cause) left q = refl
quiet_said Finished left q = refl

-- a buffer of 8,256 bytes holds such a line
pub line_held : (line o o' : List ℕ) (size : ℕ) → length line ≤ 8256 → length o ≡ 8256 → size ≡ length line → o' ≡ sets o 0 line
    → (size ≤ length o') × (size ≡ length (take size o'))
line_held line o o' size f e p q =
    let l : length o' ≡ 8256 = ap length q ∙ length-sets o 0 line ∙ e in
    let h : size ≤ length o' = omega arith in
    (h, sym (length-take-le size o' h))

-- ---- what is said of a bad record

words_size : (c : Cause) → length (cause_words c) + length (tag_text c) ≤ 51
words_size (UnknownTag tag) = omega (arith, hex_size (tag ∷ []))
words_size TooShort = omega arith
words_size TooLong = omega arith
words_size RoomAbove = omega arith
words_size IdPresent = omega arith
words_size VideoValues = omega arith
words_size UnusedPlace = omega arith
words_size OtherKind = omega arith
words_size CutShort = omega arith

cause_size : (c : Cause) → length (cause_text c) ≤ 51
unfolding cause_text
cause_size c = omega (arith, length-append (cause_words c) (tag_text c), words_size c)

fault_size : (number byte : ℕ) (c : Cause) → length (fault_text number byte c) ≤ 112
unfolding fault_text
fault_size number byte c =
    let a : List ℕ = item record_word number in
    let b : List ℕ = item at_byte byte in
    omega (
      arith,
      length-append (a ++ b ++ colon) (cause_text c),
      length-append (a ++ b) colon,
      length-append a b,
      item_size record_word number,
      item_size at_byte byte,
      cause_size c,
    )

pub fault_line_size : (program : List ℕ) (number byte : ℕ) (c : Cause) → length (fault_line program number byte c) ≤ length program + 115
unfolding fault_line
fault_line_size program number byte c =
    let f : List ℕ = fault_text number byte c in
    omega (
      arith,
      length-append (program ++ colon ++ f) newline,
      length-append (program ++ colon) f,
      length-append program colon,
      fault_size number byte c,
    )
