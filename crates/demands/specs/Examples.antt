-- One program of each kind of Programs, right but for what makes it wrong.
use Rattle.std.specs.Prelude.{ℕ, ◌-◌, cond, List, [], ◌++◌, map, eqb, length, set, replicate}
use Rattle.laws.specs.Calls.{over}
use Rattle.sampling.specs.Samples.{firsts}
use Rattle.picture.specs.declared.Told.{Told}
use Rattle.picture.specs.declared.Told.TheVariants.{Open, Nothing, Value}
use Rattle.container.specs.declared.Print as container
use Rattle.laws.specs.declared.Video.{Video}
use Rattle.laws.specs.declared.Video.TheVariants.{Absent, One, Two}
use Rattle.container.specs.declared.Contents.{Contents}
use Rattle.container.specs.Bytes.{encode}
use Rattle.session.specs.Session.{rule_listed}
use Rattle.demands.specs.Calls.{Setup, Call, line, sound, instant, pack, video_restart, audio_restart, Answer, Event}
use Rattle.demands.specs.Paper.{made, contents_said, said_empty, paper, Program}
use Rattle.demands.specs.Rules.{by_rule}
use Rattle.demands.specs.Programs.{newest}

-- every call as in an empty session
unfoldable pub refusing : Program
refusing u es c = said_empty c

-- an answer with these bytes for the container, if it has one
unfoldable pub with_bytes : List ℕ → Call → Answer → Answer
with_bytes bytes (line n b) a = a
with_bytes bytes (sound k b) a = a
with_bytes bytes (instant k i) a = a
with_bytes bytes (pack id out) a = cond (eqb a.number 0) (record { number = 0; told = Open; written = length bytes; out = over bytes out }) a
with_bytes bytes video_restart a = a
with_bytes bytes audio_restart a = a

-- what document 01 says of a container is changed by e before it is written; Length and checksum are right
unfoldable pub bytes_by : (Contents → Contents) → Setup → List Event → Call → List ℕ
bytes_by e u es (line n b) = []
bytes_by e u es (sound k b) = []
bytes_by e u es (instant k i) = []
bytes_by e u es (pack id out) = encode (e (contents_said u es id))
bytes_by e u es video_restart = []
bytes_by e u es audio_restart = []

unfoldable pub altering : (Contents → Contents) → Program
altering e u es c = with_bytes (bytes_by e u es c) c (paper u es c)

-- what is told is changed by e
unfoldable pub telling_by : (Setup → Told → Told) → Program
telling_by e u es c =
    record {
      number = (paper u es c).number;
      told = e u (paper u es c).told;
      written = (paper u es c).written;
      out = (paper u es c).out;
    }

-- v for value number i
unfoldable pub told_as : ℕ → ℕ → Told → Told
told_as i v Open = Open
told_as i v Nothing = Nothing
told_as i v (Value w b k) = Value (cond (eqb i 0) v w) (cond (eqb i 1) v b) (cond (eqb i 2) v k)

unfoldable pub telling : ℕ → (Setup → ℕ) → Program
telling i v = telling_by (λ u. told_as i (v u))

unfoldable pub told_exchanged : Told → Told
told_exchanged Open = Open
told_exchanged Nothing = Nothing
told_exchanged (Value w b k) = Value w k b

unfoldable pub exchanging : Program
exchanging = telling_by (λ u. told_exchanged)

-- v for each video value
unfoldable pub shown_as : ℕ → Video → Video
shown_as v Absent = Absent
shown_as v (One a) = One v
shown_as v (Two a b) = Two v v

unfoldable pub with_video : ℕ → Contents → Contents
with_video v c =
    record { counter = c.counter; rate = c.rate; hasid = c.hasid; id = c.id; video = shown_as v c.video; count = c.count; prints = c.prints }

unfoldable pub showing : (Setup → ℕ) → Program
showing v u es c = altering (with_video (v u)) u es c

-- xs in each audio fingerprint, as many bytes as are due
unfoldable pub print_as : (ℕ → ℕ) → container.Print → container.Print
print_as xs p = record { id = p.id; mix = p.mix; size = p.size; bytes = firsts xs p.size ++ replicate (5 - p.size) 0 }

unfoldable pub with_audio : (ℕ → ℕ) → Contents → Contents
with_audio xs c =
    record { counter = c.counter; rate = c.rate; hasid = c.hasid; id = c.id; video = c.video; count = c.count; prints = map (print_as xs) c.prints }

unfoldable pub speaking : (Setup → ℕ → ℕ) → Program
speaking xs u es c = altering (with_audio (xs u)) u es c

unfoldable pub packing : (Setup → List ℕ) → Program
packing bytes u es c = with_bytes (bytes u) c (paper u es c)

-- every sound by rule 1
unfoldable pub unruled : Program
unruled u es c = cond (rule_listed u.rule) (paper (by_rule 1 u) es c) (said_empty c)

unfoldable pub forgetting : Program
forgetting u es c = paper u [] c

unfoldable pub repeating : Program
repeating u es c = cond (eqb (made es) 0) (paper u es c) (with_bytes (newest es) c (paper u es c))

-- byte i put in
unfoldable pub with_byte : ℕ → ℕ → Call → Answer → Answer
with_byte i x (line n b) a = a
with_byte i x (sound k b) a = a
with_byte i x (instant k v) a = a
with_byte i x (pack id out) a = record { number = a.number; told = a.told; written = a.written; out = cond (eqb a.number 0) (set a.out i x) a.out }
with_byte i x video_restart a = a
with_byte i x audio_restart a = a

unfoldable pub inventing : ℕ → (Setup → ℕ) → Program
inventing i x u es c = with_byte i (x u) c (paper u es c)

unfoldable pub claiming : (Setup → ℕ) → Program
claiming n u es c =
    record { number = (paper u es c).number; told = (paper u es c).told; written = cond (eqb (paper u es c).number 0) (n u) 0; out = (paper u es c).out }
