-- The user's demands, of any program; `card` is the one that the contracts of `session` make.
use Rattle.std.specs.Prelude.{ℕ, ◌<◌, ◌≡◌, true, List, [], ◌∷◌, get_or, take}
use Rattle.laws.specs.Bytes.{Bytes}
use Rattle.laws.specs.Lists.{is_one_of}
use Rattle.rates.specs.Rates.{interval_of}
use Rattle.fingerprint.specs.Paper.{AllRight}
use Rattle.container.specs.declared.Print.{Print}
use Rattle.container.specs.declared.Contents.{Contents}
use Rattle.container.specs.Reading.{Reading}
use Rattle.container.specs.Contents.{blank_print}
use Rattle.container.specs.Reading.{reading}
use Rattle.session.specs.declared.Session.{Session}
use Rattle.demands.specs.Calls.{Setup, Call, line, sound, instant, pack, video_restart, audio_restart, Answer, Event, calls, begun, answer_of, after_call}
use Rattle.demands.specs.Paper.{samples, bits_packed, sounded, contents_said, accepted, paper, Program, transcript}

-- the session that the calls lead to, the newest first; it answers the next
unfoldable pub session_at : Setup → List Call → Session
session_at u [] = begun u
session_at u (c ∷ cs) = after_call (session_at u cs) c

unfoldable pub card : Program
card u es c = answer_of (session_at u (calls es)) c

-- something of each event of a history, with the events before it
unfoldable pub Every : (List Event → Call → Answer → Type 0) → List Event → Type 0
Every P [] = Unit {0}
Every P (e ∷ es) = P es e.call e.answer × Every P es

-- ---- Demand 1: a refusal has the number in document 01, in just the cases named there, and changes nothing

-- the buffer that a call is lent
unfoldable pub lent : Call → List ℕ
lent (line n b) = []
lent (sound k b) = []
lent (instant k i) = []
lent (pack id out) = out
lent video_restart = []
lent audio_restart = []

-- what a refused call leaves: "a written length of zero; session and lent bytes keep their values"
pub record Untouched (s : Session) (c : Call) : Type 0 where
  pub session : after_call s c ≡ s
  pub written : (answer_of s c).written ≡ 0
  pub out : (answer_of s c).out ≡ lent c

-- the row of a call in the table of numbers, an instant's being 02's (A3) and Pack's as 02's A7 leaves it; "Restarts are never refused"
unfoldable pub numbers_of : Call → List ℕ
numbers_of (line n b) = 2 ∷ 3 ∷ 4 ∷ 5 ∷ []
numbers_of (sound k b) = 7 ∷ 8 ∷ 9 ∷ []
numbers_of (instant k i) = 7 ∷ 14 ∷ 9 ∷ []
numbers_of (pack id out) = 10 ∷ 11 ∷ 12 ∷ []
numbers_of video_restart = []
numbers_of audio_restart = []

-- an answer's number is 0 or stands in its call's row
abbrev pub InRow : List Event → Call → Answer → Type 0
InRow es c a = is_one_of a.number (0 ∷ numbers_of c) ≡ true

-- ---- Demand 2: each call answers what document 01 says, and each container reads back as the contents that packing made

abbrev pub Demand2 : Program → Type 0
Demand2 p = (u : Setup) (cs : List Call) → transcript p u cs ≡ transcript paper u cs

-- the container that Pack wrote, as it is read
unfoldable pub read_again : Answer → Reading
read_again a = reading (take a.written a.out)

-- `Bytes id`: the ID is lent as bytes, as a lent slice of bytes is
unfoldable pub ReadsBack : Setup → List Event → Call → Answer → Type 0
ReadsBack u es (line n b) a = Unit {0}
ReadsBack u es (sound k b) a = Unit {0}
ReadsBack u es (instant k i) a = Unit {0}
ReadsBack u es (pack id out) a = Bytes id → a.number ≡ 0 → read_again a ≡ record { number = 0; contents = contents_said u es id }
ReadsBack u es video_restart a = Unit {0}
ReadsBack u es audio_restart a = Unit {0}

-- ---- Demand 3: audio bits are right wherever the exact envelope and mean are far enough apart

-- each audio bit of one fingerprint of a container, the j-th of its bytes: it is that of the sample D times the number of bits before it since setup or the
-- last audio restart; that sample has been accepted; and the bit is right against the exact values over the samples up to that one (`AllRight`, `Right`)
abbrev pub PrintRight : Setup → List Event → Print → Type 0
PrintRight u es p =
    AllRight (interval_of u.rate) (samples u.rule es (get_or u.mixes p.id 0) p.id) (bits_packed u.rate (sounded u es)) p.bytes p.size

abbrev pub ContainerRight : Setup → List Event → Contents → Type 0
ContainerRight u es c = (k : ℕ) → k < c.count → PrintRight u es (get_or c.prints k blank_print)

unfoldable pub BitsRight : Setup → List Event → Call → Answer → Type 0
BitsRight u es (line n b) a = Unit {0}
BitsRight u es (sound k b) a = Unit {0}
BitsRight u es (instant k i) a = Unit {0}
BitsRight u es (pack id out) a = Bytes id → a.number ≡ 0 → ContainerRight u es (read_again a).contents
BitsRight u es video_restart a = Unit {0}
BitsRight u es audio_restart a = Unit {0}

abbrev pub Demand3 : Program → Type 0
Demand3 p = (u : Setup) → accepted u ≡ true → (cs : List Call) → Every (BitsRight u) (transcript p u cs)
