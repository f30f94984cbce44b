-- The calls on a session: tags 10h to 17h (FEED's table).
use Rattle.std.specs.Prelude.{ℕ, List, cond, length, drop, leb, eqb, Result, Ok, Err}
use Rattle.laws.specs.declared.Done.{Done}
use Rattle.laws.specs.Calls.{over}
use Rattle.records.specs.Records.{byte_at, pair_at}
use Rattle.floats.specs.declared.Instant as floats
use Rattle.session.specs.declared.Session.{Session}
use Rattle.session.specs.Session.{Begun, Lined, Sounded, setup_of, line_of, sound_of, instant_of, video_restarted, audio_restarted}
use Rattle.session.specs.Packing.{Packed, pack_of, pack_out}
use Rattle.answers.specs.declared.Cause.{Cause}
use Rattle.answers.specs.declared.Cause.TheVariants.{UnknownTag, TooShort, TooLong}
use Rattle.answers.specs.declared.Hand.TheVariants.{Pack}
use Rattle.answers.specs.declared.Answer.{Answer}
use Rattle.answers.specs.declared.Answer.TheVariants.{Setup, Line, Sound, Instant, VideoRestart, AudioRestart, Handed}
use Rattle.answers.specs.Lines.{untouched, fresh}
use Rattle.answers.specs.Rooms.{room_at}
use Rattle.answers.specs.declared.Answered as told
use Rattle.answers.specs.Steps as steps
use Rattle.answers.specs.Steps.{answers, step, bad_fed}
use Rattle.feed.specs.Values.{instant_in}

-- what a record does to the session
abbrev pub Answered : Type 0
Answered = told.Answered Session

abbrev pub Step : Type 0
Step = steps.Step Session

-- ---- what each call's answer tells, and the session that it hands on

unfoldable pub begun : Begun → Answered
begun b = answers (Setup b.number) b.session

unfoldable pub lined : Lined → Answered
lined l = answers (Line l.number l.told) l.session

unfoldable pub sounded : Sounded → Answered
sounded h = answers (Sound h.number) h.session

unfoldable pub instanted : Sounded → Answered
instanted h = answers (Instant h.number) h.session

unfoldable pub done_of : Packed → Done
done_of p = record { number = p.number; written = p.written }

unfoldable pub packed : Packed → Answered
packed p = answers (Handed Pack (done_of p)) p.session

-- ---- the records

-- 10h: "format, rate code, then the mix types (0 or more bytes)"; "10h stays: rule 1"
unfoldable pub setup_fed : Session → List ℕ → Answered
setup_fed s p = cond (leb 2 (length p)) (begun (setup_of (byte_at p 0) (byte_at p 1) 1 (drop 2 p))) (bad_fed s TooShort)

-- 17h: "format, rate code, rule, then the mix types (0 or more bytes)"; "Setup with a rule"
unfoldable pub ruled_fed : Session → List ℕ → Answered
ruled_fed s p = cond (leb 3 (length p)) (begun (setup_of (byte_at p 0) (byte_at p 1) (byte_at p 2) (drop 3 p))) (bad_fed s TooShort)

-- 11h: "u16 line number, the line's bytes"
unfoldable pub line_fed : Session → List ℕ → Answered
line_fed s p = cond (leb 2 (length p)) (lined (line_of s (pair_at p 0) (drop 2 p))) (bad_fed s TooShort)

-- 12h: "fingerprint number, the block's bytes"
unfoldable pub sound_fed : Session → List ℕ → Answered
sound_fed s p = cond (leb 1 (length p)) (sounded (sound_of s (byte_at p 0) (drop 1 p))) (bad_fed s TooShort)

-- 13h: "u16 room, the ID's bytes"; "Pack into a buffer of `room` bytes"
unfoldable pub pack_in : Session → List ℕ → Result ℕ Cause → Step
pack_in s p (Ok room) = step (packed (pack_of s (drop 2 p) room)) (over (pack_out s (drop 2 p) (untouched room)) fresh)
pack_in s p (Err cause) = step (bad_fed s cause) fresh

unfoldable pub pack_fed : Session → List ℕ → Step
pack_fed s p = pack_in s p (room_at p 0)

-- 14h, 15h: "nothing"; the session goes on as the restart leaves it
unfoldable pub restart_fed : Session → Session → Answer → List ℕ → Answered
restart_fed s next answer p = cond (eqb (length p) 0) (answers answer next) (bad_fed s TooLong)

-- 16h: "the instant's call"
unfoldable pub instant_with : Session → ℕ → Result floats.Instant Cause → Answered
instant_with s k (Ok i) = instanted (instant_of s k i)
instant_with s k (Err cause) = bad_fed s cause

unfoldable pub instant_fed : Session → List ℕ → Answered
instant_fed s p = instant_with s (byte_at p 0) (instant_in p)

unfoldable pub session_fed : Session → ℕ → List ℕ → Step
session_fed s tag p =
    cond (eqb tag 0x10) (step (setup_fed s p) fresh)
    (cond (eqb tag 0x11) (step (line_fed s p) fresh)
    (cond (eqb tag 0x12) (step (sound_fed s p) fresh)
    (cond (eqb tag 0x13) (pack_fed s p)
    (cond (eqb tag 0x14) (step (restart_fed s (video_restarted s) VideoRestart p) fresh)
    (cond (eqb tag 0x15) (step (restart_fed s (audio_restarted s) AudioRestart p) fresh)
    (cond (eqb tag 0x16) (step (instant_fed s p) fresh)
    (cond (eqb tag 0x17) (step (ruled_fed s p) fresh)
    (step (bad_fed s (UnknownTag tag)) fresh))))))))
