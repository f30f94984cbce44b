-- The calls on a session: what each answers, and which session it leaves, by its contract's own definition; and runs of any calls.
use Rattle.std.specs.Prelude.{ℕ, List, [], ◌∷◌, length}
use Rattle.picture.specs.declared.Told.{Told}
use Rattle.picture.specs.declared.Told.TheVariants.{Open}
use Rattle.floats.specs.declared.Instant.{Instant}
use Rattle.session.specs.declared.Session.{Session}
use Rattle.session.specs.Session.{setup_of, line_of, sound_of, instant_of, video_restarted, audio_restarted}
use Rattle.session.specs.Packing.{pack_of, pack_out}

-- what Setup is given
pub record Setup : Type 0 where
  pub format : ℕ
  pub rate : ℕ
  pub rule : ℕ
  pub mixes : List ℕ

-- line number n with its bytes; a block of fingerprint k; an instant of it in floating point; the bytes lent for the ID and the buffer lent for the container; the restarts
pub data Call : Type 0 where
  line : ℕ → List ℕ → Call
  sound : ℕ → List ℕ → Call
  instant : ℕ → Instant → Call
  pack : List ℕ → List ℕ → Call
  video_restart : Call
  audio_restart : Call

-- what a caller is told: the number, what a line tells, the written length; and the buffer lent, as it is after the call
pub record Answer : Type 0 where
  pub number : ℕ
  pub told : Told
  pub written : ℕ
  pub out : List ℕ

abbrev pub saying : ℕ → Answer
saying number = record { number = number; told = Open; written = 0; out = [] }

-- a call, and what its caller was told
pub record Event : Type 0 where
  pub call : Call
  pub answer : Answer

unfoldable pub calls : List Event → List Call
calls [] = []
calls (e ∷ es) = e.call ∷ calls es

-- ---- By the contracts of `session`

unfoldable pub begun : Setup → Session
begun u = (setup_of u.format u.rate u.rule u.mixes).session

unfoldable pub answer_of : Session → Call → Answer
answer_of s (line n b) = record { number = (line_of s n b).number; told = (line_of s n b).told; written = 0; out = [] }
answer_of s (sound k b) = saying (sound_of s k b).number
answer_of s (instant k i) = saying (instant_of s k i).number
answer_of s (pack id out) =
    record { number = (pack_of s id (length out)).number; told = Open; written = (pack_of s id (length out)).written; out = pack_out s id out }
answer_of s video_restart = saying 0
answer_of s audio_restart = saying 0

unfoldable pub after_call : Session → Call → Session
after_call s (line n b) = (line_of s n b).session
after_call s (sound k b) = (sound_of s k b).session
after_call s (instant k i) = (instant_of s k i).session
after_call s (pack id out) = (pack_of s id (length out)).session
after_call s video_restart = video_restarted s
after_call s audio_restart = audio_restarted s

-- `Run s es t`: from s the calls of es, newest first, have their answers, and lead to t
pub data Run (s : Session) : List Event → Session → Type 0 where
  none : Run s [] s
  then : {es : List Event} {t : Session} (c : Call) → Run s es t → Run s (record { call = c; answer = answer_of t c } ∷ es) (after_call t c)
