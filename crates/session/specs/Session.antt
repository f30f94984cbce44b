-- A session and its calls but Pack (01, "What the card's software does", "What a caller is told"; 02, A3 and A9).
use Rattle.std.specs.Prelude.{ℕ, List, [], Bool, false, cond, ◌&&◌, ◌||◌, leb, eqb, length, get_or, set, Result, Ok, Err}
use Rattle.laws.specs.Calls.{unless}
use Rattle.laws.specs.declared.Refusal.{Refusal}
use Rattle.laws.specs.Refusals.{number_of, number_in}
use Rattle.rates.specs.Rates.{pairs_with, interval_of}
use Rattle.picture.specs.declared.Picture.{Picture}
use Rattle.picture.specs.declared.Told.{Told}
use Rattle.picture.specs.declared.Told.TheVariants.{Open}
use Rattle.picture.specs.Pictures.{fresh_picture, restarted}
use Rattle.picture.specs.Fields.{Says}
use Rattle.picture.specs.Pictures as picture
use Rattle.floats.specs.declared.Instant.{Instant}
use Rattle.floats.specs.Instants.{float_value}
use Rattle.fingerprint.specs.declared.Fingerprint.{Fingerprint}
use Rattle.fingerprint.specs.State.{step_of, heard_of, sound_number, instant_number}
use Rattle.session.specs.declared.Settings.{Settings}
use Rattle.session.specs.declared.Session.{Session}
use Rattle.session.specs.Fingerprints.{each, all_listed, fresh_fingerprints, cleared}

-- there is a session: a format with a rate that it takes, and 1 to 32 fingerprints
unfoldable pub is_set : Settings → Bool
is_set s = pairs_with s.format s.rate && (leb 1 s.count && leb s.count 32)

-- ---- Setup

-- "Setup takes rule 1 or 2" (02, A9)
unfoldable pub rule_listed : ℕ → Bool
rule_listed rule = eqb rule 1 || eqb rule 2

-- "1 format, rate pairing, fingerprint count or mix type not listed"; "1 also covers another rule number" (02, A9)
unfoldable pub setup_number : ℕ → ℕ → ℕ → List ℕ → ℕ
setup_number format rate rule mixes =
    unless (pairs_with format rate) 1
    (unless (rule_listed rule) 1
    (unless (leb 1 (length mixes)) 1
    (unless (leb (length mixes) 32) 1
    (unless (all_listed mixes) 1
    0))))

-- "The counter starts at 0"; the cadence "to frame 1, where setup starts it"
unfoldable pub set_up_with : ℕ → ℕ → ℕ → ℕ → List ℕ → Session
set_up_with format rate rule count mixes =
    record {
      programme = record {
        settings = record { format = format; rate = rate; rule = rule; count = count };
        picture = fresh_picture;
        counter = 0;
        place = 0;
      };
      fingerprints = fresh_fingerprints mixes;
    }

-- "a refused setup gives an empty one"
unfoldable pub empty_session : Session
empty_session = set_up_with 0 0 0 0 []

-- what Setup tells: 01's number, and the session that it gives
pub record Begun : Type 0 where
  pub number : ℕ
  pub session : Session

-- the same of an answer, with the session that it leaves
abbrev pub begun : Result Unit Refusal → Session → Begun
begun answer s = record { number = number_in answer; session = s }

unfoldable pub setup_of : ℕ → ℕ → ℕ → List ℕ → Begun
setup_of format rate rule mixes =
    cond (eqb (setup_number format rate rule mixes) 0)
    (record { number = 0; session = set_up_with format rate rule (length mixes) mixes })
    (record { number = setup_number format rate rule mixes; session = empty_session })

-- ---- Line

-- what Line tells: 01's number, what the line tells, and the session after it
pub record Lined : Type 0 where
  pub number : ℕ
  pub told : Told
  pub session : Session

-- the same of an answer, with the session that it leaves; a refusal tells nothing of a field
abbrev pub lined : Result Told Refusal → Session → Lined
lined (Ok told) s = record { number = 0; told = told; session = s }
lined (Err why) s = record { number = number_of why; told = Open; session = s }

-- a session with another picture
abbrev pub with_picture : Session → Picture → Session
with_picture s p =
    record {
      programme = record {
        settings = s.programme.settings;
        picture = p;
        counter = s.programme.counter;
        place = s.programme.place;
      };
      fingerprints = s.fingerprints;
    }

-- "an empty one, for which Line, Sound and Pack return 1 first"; then what the picture says
unfoldable pub line_of : Session → ℕ → List ℕ → Lined
line_of s number line =
    cond (is_set s.programme.settings)
    (record {
      number = (picture.line_of s.programme.picture s.programme.settings.format number line).number;
      told = (picture.line_of s.programme.picture s.programme.settings.format number line).told;
      session = with_picture s (picture.line_of s.programme.picture s.programme.settings.format number line).picture;
    })
    (record { number = 1; told = Open; session = s })

-- what it answers as 01's number and values, with none of its cases
unfoldable pub line_says : Session → ℕ → List ℕ → Says
line_says s number line =
    cond (is_set s.programme.settings)
    (picture.line_says s.programme.picture s.programme.settings.format number line)
    (record { number = 1; ended = false; values = [] })

-- ---- Sound

-- what a call with sound tells: 01's number, and the session after it
pub record Sounded : Type 0 where
  pub number : ℕ
  pub session : Session

-- the same of an answer, with the session that it leaves
abbrev pub sounded : Result Unit Refusal → Session → Sounded
sounded answer s = record { number = number_in answer; session = s }

abbrev pub no_fingerprint : Fingerprint
no_fingerprint = record { mix = 0; envelope = 0; mean = 0; wait = 0; started = false; held = 0; bytes = [] }

-- a session with another fingerprint k
abbrev pub with_fingerprint : Session → ℕ → Fingerprint → Session
with_fingerprint s k f = record { programme = s.programme; fingerprints = set s.fingerprints k f }

-- "return 1 first"; "7 no such fingerprint"; then the number that fingerprint k itself has
abbrev pub reached : Settings → ℕ → ℕ → ℕ
reached s k number = unless (is_set s) 1 (cond (leb s.count k) 7 number)

-- fingerprint k becomes f, unless the sound for it is refused
abbrev pub heard_with : Session → ℕ → ℕ → Fingerprint → Sounded
heard_with s k number f = cond (eqb number 0) (record { number = 0; session = with_fingerprint s k f }) (record { number = number; session = s })

-- "7 no such fingerprint; 8 length no multiple of one instant; 9 held plus new bits above 256"
unfoldable pub sounded_number : Session → ℕ → ℕ → ℕ
sounded_number s k len =
    reached s.programme.settings k (sound_number (interval_of s.programme.settings.rate) (get_or s.fingerprints k no_fingerprint) len)

-- "a session keeps it" (02, A9): the block is mixed by the rule that was set up
unfoldable pub sound_of : Session → ℕ → List ℕ → Sounded
sound_of s k block =
    heard_with s k (sounded_number s k (length block))
    (heard_of s.programme.settings.rule (interval_of s.programme.settings.rate) (get_or s.fingerprints k no_fingerprint) block)

-- ---- An instant in floating point (02, A3): "14 .., after 7 and before 9"

unfoldable pub instanted_number : Session → ℕ → Instant → ℕ
instanted_number s k i =
    reached s.programme.settings k (instant_number (interval_of s.programme.settings.rate) (get_or s.fingerprints k no_fingerprint) i)

unfoldable pub instant_of : Session → ℕ → Instant → Sounded
instant_of s k i =
    heard_with s k (instanted_number s k i)
    (step_of (interval_of s.programme.settings.rate) (get_or s.fingerprints k no_fingerprint) (float_value s.programme.settings.rule i))

-- ---- Restarts: "never refused"; on an empty session they "change nothing"

unfoldable pub video_restarted : Session → Session
video_restarted s = cond (is_set s.programme.settings) (with_picture s (restarted s.programme.picture)) s

-- "clears all fingerprints and sets the cadence to frame 1"
abbrev pub audio_anew : Session → Session
audio_anew s =
    record {
      programme = record {
        settings = s.programme.settings;
        picture = s.programme.picture;
        counter = s.programme.counter;
        place = 0;
      };
      fingerprints = each cleared s.programme.settings.count s.fingerprints;
    }

unfoldable pub audio_restarted : Session → Session
audio_restarted s = cond (is_set s.programme.settings) (audio_anew s) s
