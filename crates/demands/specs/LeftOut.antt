-- A host that skips the lines nobody looks at (01, Video: "A line that is not monitored is accepted and changes nothing"): what it leaves out, and what is left.
use Rattle.std.specs.Prelude.{ℕ, ◌≡◌, Bool, true, false, cond, List, [], ◌∷◌}
use Rattle.picture.specs.Lines.{is_monitored}
use Rattle.demands.specs.Calls.{Call, line, sound, instant, pack, video_restart, audio_restart, Answer, Event}

-- A history with some lines left out that are not monitored: every other event stays, with its answer. Newest first.
pub data LeftOut (f : ℕ) : List Event → List Event → Type 0 where
  none : LeftOut f [] []
  kept : {es xs : List Event} (e : Event) → LeftOut f es xs → LeftOut f (e ∷ es) (e ∷ xs)
  left : {es xs : List Event} (n : ℕ) (b : List ℕ) (a : Answer) → is_monitored f n ≡ false → LeftOut f es xs → LeftOut f (record { call = line n b; answer = a } ∷ es) xs

-- all calls but the lines that are not monitored
unfoldable pub is_looked : ℕ → Call → Bool
is_looked f (line n b) = is_monitored f n
is_looked f (sound k b) = true
is_looked f (instant k i) = true
is_looked f (pack id out) = true
is_looked f video_restart = true
is_looked f audio_restart = true

-- the calls of a host that asks of each line whether it is monitored
unfoldable pub looked : ℕ → List Call → List Call
looked f [] = []
looked f (c ∷ cs) = cond (is_looked f c) (c ∷ looked f cs) (looked f cs)

-- and the events of those calls
unfoldable pub looked_at : ℕ → List Event → List Event
looked_at f [] = []
looked_at f (e ∷ es) = cond (is_looked f e.call) (e ∷ looked_at f es) (looked_at f es)
