-- The turns in floating point that are measured: instants are heard one by one, and bytes are taken and summed.
use Rattle.std.specs.Prelude.{ℕ, zero, suc, ◌*◌, ◌/◌, List, false, cond, eqb, leb, pos, Float, length, get_or, drop}
use Rattle.std.specs.Float.{nan, fin}
use Rattle.floats.specs.declared.Instant.{Instant}
use Rattle.floats.specs.declared.Instant.TheVariants as instant
use Rattle.floats.specs.Instants.{float_value}
use Rattle.fingerprint.specs.declared.Fingerprint.{Fingerprint}
use Rattle.fingerprint.specs.State.{fresh_of, step_of, instant_number}
use Rattle.bench_audio.specs.declared.Turn.{Turn}
use Rattle.bench_audio.specs.Turns.{taken_in}

abbrev pub silent : Instant
silent = instant.Mono (fin false 0 (pos 0))

abbrev pub five : List Float → Instant
five l = instant.Five (record { L = get_or l 0 nan; R = get_or l 1 nan; C = get_or l 2 nan; Ls = get_or l 3 nan; Rs = get_or l 4 nan })

-- the first values as an instant of a mix type, which has as many of them as its number says; a silent one where there are fewer
unfoldable pub instant_of : ℕ → List Float → Instant
instant_of mix l =
    cond (leb mix (length l))
    (cond (eqb mix 1) (instant.Mono (get_or l 0 nan)) (cond (eqb mix 2) (instant.Stereo (get_or l 0 nan) (get_or l 1 nan)) (cond (eqb mix 5) (five l) silent)))
    silent

-- an instant is heard unless it is refused
unfoldable pub instant_in : ℕ → ℕ → Fingerprint → Instant → Fingerprint
instant_in rule d f i = cond (eqb (instant_number d f i) 0) (step_of d f (float_value rule i)) f

-- the first n instants that values hold one after the other
unfoldable pub instants_in : ℕ → ℕ → ℕ → List Float → Fingerprint → ℕ → Fingerprint
instants_in rule mix d l f zero = f
instants_in rule mix d l f (suc n) = instant_in rule d (instants_in rule mix d l f n) (instant_of mix (drop (n * mix) l))

-- and all of them
unfoldable pub all_in : ℕ → ℕ → ℕ → List Float → Fingerprint → Fingerprint
all_in rule mix d l f = instants_in rule mix d l f (length l / mix)

unfoldable pub float_turns : ℕ → ℕ → ℕ → List Float → ℕ → Turn
float_turns rule mix d l zero = record { fingerprint = fresh_of mix; sum = 0 }
float_turns rule mix d l (suc n) = taken_in (float_turns rule mix d l n).sum (all_in rule mix d l (float_turns rule mix d l n).fingerprint)

unfoldable pub float_sum_after : ℕ → ℕ → ℕ → List Float → ℕ → ℕ
float_sum_after rule mix d l rounds = (float_turns rule mix d l rounds).sum
