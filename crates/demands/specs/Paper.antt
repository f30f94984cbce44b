-- Document 01, with 02's A1, A2, A3, A7 and A9, as a function of what was set up and of the calls and answers so far: no slot, no store of bits, no wait, no counter and no place is kept.
use Rattle.std.specs.Prelude.{ℕ, zero, suc, ◌+◌, ◌-◌, ◌*◌, ◌%◌, Bool, true, cond, ◌&&◌, List, [], ◌∷◌, ◌++◌, leb, eqb, length, get_or, replicate}
use Rattle.rates.specs.Rates.{interval_of}
use Rattle.rates.specs.Cadence.{cadence}
use Rattle.picture.specs.declared.Told.TheVariants.{Open}
use Rattle.picture.specs.History.{Waiting, no_frame, is_waiting, waiting_shows, lines_after, waiting_after, number_said, told_said}
use Rattle.floats.specs.declared.Instant.{Instant}
use Rattle.floats.specs.Instants.{float_value}
use Rattle.fingerprint.specs.State.{values_of}
use Rattle.fingerprint.specs.History.{bytes_from}
use Rattle.fingerprint.specs.Paper.{sound_answer, instant_answer, held_answer}
use Rattle.container.specs.declared.Print.{Print}
use Rattle.container.specs.declared.Contents.{Contents}
use Rattle.container.specs.Writing.{write_done, write_out}
use Rattle.session.specs.Fingerprints.{with_blanks}
use Rattle.session.specs.Session.{setup_number}
use Rattle.session.specs.Packing.{id_of, ready_number}
use Rattle.demands.specs.Calls.{Setup, Call, line, sound, instant, pack, video_restart, audio_restart, Answer, saying, Event}

-- ---- Histories. Of each: what one event more does, and all events, the newest first.

-- the monitored lines accepted since setup or the last video restart, as their 60 bytes each, in format f
unfoldable pub lines_at : ℕ → Call → Answer → List (List ℕ) → List (List ℕ)
lines_at f (line n b) a ls = lines_after f n b a.number ls
lines_at f (sound k b) a ls = ls
lines_at f (instant k i) a ls = ls
lines_at f (pack id out) a ls = ls
lines_at f video_restart a ls = []
lines_at f audio_restart a ls = ls

unfoldable pub lines : ℕ → List Event → List (List ℕ)
lines f [] = []
lines f (e ∷ es) = lines_at f e.call e.answer (lines f es)

-- the frame that waits to be packed; ls are the lines with the event
unfoldable pub waiting_at : ℕ → Call → Answer → List (List ℕ) → Waiting → Waiting
waiting_at f (line n b) a ls w = waiting_after f n a.number ls w
waiting_at f (sound k b) a ls w = w
waiting_at f (instant k i) a ls w = w
waiting_at f (pack id out) a ls w = cond (eqb a.number 0) no_frame w
waiting_at f video_restart a ls w = w
waiting_at f audio_restart a ls w = w

unfoldable pub waiting : ℕ → List Event → Waiting
waiting f [] = no_frame
waiting f (e ∷ es) = waiting_at f e.call e.answer (lines f (e ∷ es)) (waiting f es)

-- the samples of fingerprint k, of a mix type, mixed by a rule, accepted since setup or the last audio restart
unfoldable pub samples_at : ℕ → Call → Answer → ℕ → ℕ → List ℕ → List ℕ
samples_at rule (line n b) a mix k h = h
samples_at rule (sound j b) a mix k h = cond (eqb a.number 0 && eqb j k) (values_of rule mix b ++ h) h
samples_at rule (instant j i) a mix k h = cond (eqb a.number 0 && eqb j k) (float_value rule i ∷ h) h
samples_at rule (pack id out) a mix k h = h
samples_at rule video_restart a mix k h = h
samples_at rule audio_restart a mix k h = []

-- "Demand 2 means the session's own rule, and demand 3 starts from its samples" (02, A9)
unfoldable pub samples : ℕ → List Event → ℕ → ℕ → List ℕ
samples rule [] mix k = []
samples rule (e ∷ es) mix k = samples_at rule e.call e.answer mix k (samples rule es mix k)

-- the containers since setup
unfoldable pub made_at : Call → Answer → ℕ → ℕ
made_at (line n b) a m = m
made_at (sound k b) a m = m
made_at (instant k i) a m = m
made_at (pack id out) a m = cond (eqb a.number 0) (m + 1) m
made_at video_restart a m = m
made_at audio_restart a m = m

unfoldable pub made : List Event → ℕ
made [] = 0
made (e ∷ es) = made_at e.call e.answer (made es)

-- ---- Audio: p containers with audio have been packed since setup or the last audio restart

-- the bytes that the next one asks of each fingerprint: "Bytes per frame .., cyclic"
unfoldable pub bytes_due : ℕ → ℕ → ℕ
bytes_due rate p = get_or (cadence rate) (p % length (cadence rate)) 0

-- the bits that the p have taken of each fingerprint
unfoldable pub bits_packed : ℕ → ℕ → ℕ
bits_packed rate zero = 0
bits_packed rate (suc p) = bits_packed rate p + 8 * bytes_due rate p

-- each fingerprint, from k on, of the mix types given and with the samples h, holds n whole bytes beside those taken
unfoldable pub every_holds : ℕ → ℕ → ℕ → (ℕ → ℕ → List ℕ) → ℕ → List ℕ → Bool
every_holds d taken n h k [] = true
every_holds d taken n h k (mix ∷ mixes) = held_answer d (h mix k) taken n && every_holds d taken n h (suc k) mixes

-- "Audio is present exactly when every fingerprint holds the whole bytes the cadence asks for"
unfoldable pub audio_after : Setup → ℕ → List Event → Bool
audio_after u p es = every_holds (interval_of u.rate) (bits_packed u.rate p) (bytes_due u.rate p) (samples u.rule es) 0 u.mixes

-- the containers with audio since setup or the last audio restart
unfoldable pub sounded_at : Call → Answer → Bool → ℕ → ℕ
sounded_at (line n b) a audio p = p
sounded_at (sound k b) a audio p = p
sounded_at (instant k i) a audio p = p
sounded_at (pack id out) a audio p = cond (eqb a.number 0 && audio) (suc p) p
sounded_at video_restart a audio p = p
sounded_at audio_restart a audio p = 0

unfoldable pub sounded : Setup → List Event → ℕ
sounded u [] = 0
sounded u (e ∷ es) = sounded_at e.call e.answer (audio_after u (sounded u es) es) (sounded u es)

-- ---- What the next container says

-- "these, oldest first": each bit is the bit of its own sample. "Fingerprint k is written with ID k"; "unused places are zero"
unfoldable pub prints_said : ℕ → ℕ → ℕ → (ℕ → ℕ → List ℕ) → ℕ → List ℕ → List Print
prints_said d taken n h k [] = []
prints_said d taken n h k (mix ∷ mixes) =
    record { id = k; mix = mix; size = n; bytes = bytes_from d (h mix k) taken n ++ replicate (5 - n) 0 } ∷ prints_said d taken n h (suc k) mixes

unfoldable pub audio_said : Setup → ℕ → List Event → List Print
audio_said u p es = prints_said (interval_of u.rate) (bits_packed u.rate p) (bytes_due u.rate p) (samples u.rule es) 0 u.mixes

-- "The counter starts at 0, grows by one per container, and goes from 255 to 0"; the video values are those of the frame that waits
unfoldable pub contents_said : Setup → List Event → List ℕ → Contents
contents_said u es id =
    record {
      counter = made es % 256;
      rate = u.rate;
      hasid = eqb (length id) 20;
      id = id_of id;
      video = waiting_shows (waiting u.format es);
      count = cond (audio_after u (sounded u es) es) (length u.mixes) 0;
      prints = with_blanks (cond (audio_after u (sounded u es) es) (audio_said u (sounded u es) es) []);
    }

-- ---- What each call answers

unfoldable pub line_said : ℕ → List (List ℕ) → Waiting → ℕ → List ℕ → Answer
line_said f ls w n b = record { number = number_said f ls w n b; told = told_said f ls (number_said f ls w n b) n b; written = 0; out = [] }

-- "7 no such fingerprint; 8 ..; 9 .."
unfoldable pub sound_said : Setup → List Event → ℕ → List ℕ → ℕ
sound_said u es k b =
    cond (leb (length u.mixes) k) 7
    (sound_answer (get_or u.mixes k 0) (interval_of u.rate) (samples u.rule es (get_or u.mixes k 0) k) (bits_packed u.rate (sounded u es)) b)

-- "14 .., after 7 and before 9"
unfoldable pub instant_said : Setup → List Event → ℕ → Instant → ℕ
instant_said u es k i =
    cond (leb (length u.mixes) k) 7
    (instant_answer (get_or u.mixes k 0) (interval_of u.rate) (samples u.rule es (get_or u.mixes k 0) k) (bits_packed u.rate (sounded u es)) i)

-- "10 no ready frame; 11 ID length neither 0 nor 20" (`ready_number`); then what Write answers for these contents, "12" being its (02, A7)
unfoldable pub packed_said : ℕ → Contents → List ℕ → Answer
packed_said number c out =
    cond (eqb number 0)
    (record { number = (write_done c (length out)).number; told = Open; written = (write_done c (length out)).written; out = write_out c out })
    (record { number = number; told = Open; written = 0; out = out })

unfoldable pub said : Setup → List Event → Call → Answer
said u es (line n b) = line_said u.format (lines u.format es) (waiting u.format es) n b
said u es (sound k b) = saying (sound_said u es k b)
said u es (instant k i) = saying (instant_said u es k i)
said u es (pack id out) = packed_said (ready_number (is_waiting (waiting u.format es)) (length id)) (contents_said u es id) out
said u es video_restart = saying 0
said u es audio_restart = saying 0

-- an empty session, "for which Line, Sound and Pack return 1 first and restarts change nothing"; an instant is sound
unfoldable pub said_empty : Call → Answer
said_empty (line n b) = saying 1
said_empty (sound k b) = saying 1
said_empty (instant k i) = saying 1
said_empty (pack id out) = record { number = 1; told = Open; written = 0; out = out }
said_empty video_restart = saying 0
said_empty audio_restart = saying 0

-- "a refused setup gives an empty one"
unfoldable pub accepted : Setup → Bool
accepted u = eqb (setup_number u.format u.rate u.rule u.mixes) 0

unfoldable pub paper : Setup → List Event → Call → Answer
paper u es c = cond (accepted u) (said u es c) (said_empty c)

-- ---- Programs: what each answers, from what was set up and the calls and answers so far. `paper` is one.

abbrev pub Program : Type 0
Program = Setup → List Event → Call → Answer

-- what a program says to a caller who makes the calls cs, the newest first
unfoldable pub transcript : Program → Setup → List Call → List Event
transcript p u [] = []
transcript p u (c ∷ cs) = record { call = c; answer = p u (transcript p u cs) c } ∷ transcript p u cs
