-- The frames with instants in floating point that are measured: the fingerprints hear them in turn, as of a player that has the sound of all.
use Rattle.std.specs.Prelude.{ℕ, zero, suc, ◌+◌, ◌-◌, ◌*◌, ◌/◌, List, cond, eqb, ltb, Float, length, drop, replicate}
use Rattle.sampling.specs.Formats.{row_of}
use Rattle.session.specs.declared.Session.{Session}
use Rattle.session.specs.Session.{setup_of, instant_of}
use Rattle.bench_audio.specs.Instants as values
use Rattle.bench_session.specs.declared.Turn.{Turn}
use Rattle.bench_session.specs.Frames.{fields_of, packed_in}

-- the fingerprint after k, where the last one has this number
unfoldable pub turn_after : ℕ → ℕ → ℕ
turn_after last k = cond (ltb k last) (k + 1) 0

-- the fingerprint that instant n is for
unfoldable pub turn : ℕ → ℕ → ℕ
turn last zero = 0
turn last (suc n) = turn_after last (turn last n)

-- the first n instants that values hold one after the other
unfoldable pub instants_heard : ℕ → ℕ → List Float → Session → ℕ → Session
instants_heard last mix l s zero = s
instants_heard last mix l s (suc n) = (instant_of (instants_heard last mix l s n) (turn last n) (values.instant_of mix (drop (n * mix) l))).session

-- and all of them
unfoldable pub all_heard : ℕ → ℕ → List Float → Session → Session
all_heard count mix l s = cond (eqb count 0) s (instants_heard (count - 1) mix l s (length l / mix))

-- a frame of 1080i, packed into 254 bytes
unfoldable pub instant_frame : ℕ → ℕ → List ℕ → List Float → Turn → Turn
instant_frame count mix line l t = packed_in (replicate 254 0) (all_heard count mix l (fields_of (row_of 3) line t.session)) t.sum

unfoldable pub instant_turns : ℕ → List ℕ → ℕ → List ℕ → List Float → ℕ → Turn
instant_turns rule mixes mix line l zero = record { session = (setup_of 3 5 rule mixes).session; sum = 0 }
instant_turns rule mixes mix line l (suc n) = instant_frame (length mixes) mix line l (instant_turns rule mixes mix line l n)

unfoldable pub instant_sum_after : ℕ → List ℕ → ℕ → List ℕ → List Float → ℕ → ℕ
instant_sum_after rule mixes mix line l rounds = (instant_turns rule mixes mix line l rounds).sum
