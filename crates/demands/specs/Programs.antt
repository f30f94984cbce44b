-- The wrong programs that document 01 names ("What we hold each promise to"): what all programs of a kind do, whatever else they do, so that no byte, value or
-- size is left out. A constant is one for each setup. Examples has one program of each kind.
use Rattle.std.specs.Prelude.{ℕ, ◌<◌, ◌≡◌, true, cond, List, [], ◌∷◌, eqb, length, get_or, take}
use Rattle.laws.specs.Bytes.{Bytes}
use Rattle.floats.specs.declared.Instant.{Instant}
use Rattle.picture.specs.declared.Told.TheVariants.{Value}
use Rattle.picture.specs.Fields.{told_values}
use Rattle.laws.specs.declared.Video.TheVariants.{Absent}
use Rattle.container.specs.declared.Contents.{Contents}
use Rattle.container.specs.Contents.{blank_print}
use Rattle.demands.specs.Calls.{Setup, Call, line, sound, instant, pack, video_restart, audio_restart, Answer, Event}
use Rattle.demands.specs.Paper.{made, audio_after, sounded, contents_said, paper, Program, transcript}
use Rattle.demands.specs.Demands.{read_again}
use Rattle.demands.specs.Rules.{by_rule}

-- after any calls from any setup, es being what the program has answered to them
abbrev pub Throughout : Program → (Setup → List Event → Type 0) → Type 0
Throughout p P = (u : Setup) (cs : List Call) → P u (transcript p u cs)

-- document 01's numbers, whatever else is wrong
abbrev pub RightNumbers : Program → Type 0
RightNumbers p = Throughout p (λ u es. (c : Call) → (p u es c).number ≡ (paper u es c).number)

-- the container that Pack wrote
abbrev pub bytes_in : Answer → List ℕ
bytes_in a = take a.written a.out

-- ---- "one that refuses everything", with whatever numbers: every line, every block, every instant or every Pack is enough

abbrev pub RefusesLines : Program → Type 0
RefusesLines p = Throughout p (λ u es. (n : ℕ) (b : List ℕ) → (p u es (line n b)).number ≡ 0 → ⊥)

abbrev pub RefusesSound : Program → Type 0
RefusesSound p = Throughout p (λ u es. (k : ℕ) (b : List ℕ) → (p u es (sound k b)).number ≡ 0 → ⊥)

abbrev pub RefusesInstants : Program → Type 0
RefusesInstants p = Throughout p (λ u es. (k : ℕ) (i : Instant) → (p u es (instant k i)).number ≡ 0 → ⊥)

abbrev pub RefusesPacks : Program → Type 0
RefusesPacks p = Throughout p (λ u es. (id out : List ℕ) → (p u es (pack id out)).number ≡ 0 → ⊥)

-- ---- "one constant fingerprint": of video; and the counts beside it (02, A1)

-- wherever document 01 tells a fingerprint, of the values that the program tells number i is v: the fingerprint, the brighter pixels, the darker ones
abbrev pub TellsAlways : ℕ → (Setup → ℕ) → Program → Type 0
TellsAlways i v p = Throughout p (λ u es. (c : Call) (w b k : ℕ) → (paper u es c).told ≡ Value w b k → get_or (told_values (p u es c).told) i 0 ≡ v u)

-- one that tells the two counts in each other's place
abbrev pub Exchanges : Program → Type 0
Exchanges p = Throughout p (λ u es. (c : Call) (w b k : ℕ) → (paper u es c).told ≡ Value w b k → (p u es c).told ≡ Value w k b)

-- wherever document 01 has video in a container and no ID is lent, so that byte 5 is the value of the first field, byte 5 of the program's container is v
abbrev pub ShowsAlways : (Setup → ℕ) → Program → Type 0
ShowsAlways v p = Throughout p (λ u es. (out : List ℕ) → ((contents_said u es []).video ≡ Absent → ⊥) → 5 < length out
    → (p u es (pack [] out)).number ≡ 0 → get_or (p u es (pack [] out)).out 5 0 ≡ v u)

-- ---- "one constant fingerprint": of audio

-- the container has audio, and the bytes of its first fingerprint, as many as it has, are xs 0, xs 1 and so on
pub record Speaks (xs : ℕ → ℕ) (c : Contents) : Type 0 where
  pub some : 0 < c.count
  pub bytes : (i : ℕ) → i < (get_or c.prints 0 blank_print).size → get_or (get_or c.prints 0 blank_print).bytes i 0 ≡ xs i

-- wherever document 01 has audio in a container, the program's container reads so
abbrev pub SpeaksAlways : (Setup → ℕ → ℕ) → Program → Type 0
SpeaksAlways xs p = Throughout p (λ u es. (id out : List ℕ) → Bytes id → audio_after u (sounded u es) es ≡ true → (p u es (pack id out)).number ≡ 0
    → Speaks (xs u) (read_again (p u es (pack id out))).contents)

-- ---- "or container"

abbrev pub PacksAlways : (Setup → List ℕ) → Program → Type 0
PacksAlways bytes p = Throughout p (λ u es. (id out : List ℕ) → (p u es (pack id out)).number ≡ 0 → bytes_in (p u es (pack id out)) ≡ bytes u)

-- ---- one that mixes by one rule, whatever was set up (02, A9): set up by rule 2 it answers any calls as set up by rule 1

abbrev pub IgnoresRule : Program → Type 0
IgnoresRule p = (u : Setup) (cs : List Call) (c : Call) → p (by_rule 2 u) (transcript p (by_rule 2 u) cs) c ≡ p (by_rule 1 u) (transcript p (by_rule 1 u) cs) c

-- ---- "one that hands the session back untouched": every call is answered as the first after setup

abbrev pub Forgets : Program → Type 0
Forgets p = Throughout p (λ u es. (c : Call) → p u es c ≡ p u [] c)

-- ---- "one that works until the first container and then repeats it"

-- the newest container of a history
unfoldable pub newest_at : Call → Answer → List ℕ → List ℕ
newest_at (line n b) a bytes = bytes
newest_at (sound k b) a bytes = bytes
newest_at (instant k i) a bytes = bytes
newest_at (pack id out) a bytes = cond (eqb a.number 0) (bytes_in a) bytes
newest_at video_restart a bytes = bytes
newest_at audio_restart a bytes = bytes

unfoldable pub newest : List Event → List ℕ
newest [] = []
newest (e ∷ es) = newest_at e.call e.answer (newest es)

pub record Repeats (p : Program) : Type 0 where
  pub works : Throughout p (λ u es. (c : Call) → made es ≡ 0 → p u es c ≡ paper u es c)
  pub repeats :
      Throughout p (λ u es. (id out : List ℕ) → (made es ≡ 0 → ⊥) → (p u es (pack id out)).number ≡ 0 → bytes_in (p u es (pack id out)) ≡ newest es)

-- ---- "one with invented Length, AFDataCount, fingerprint count or written size"

-- wherever document 01 has audio and no video in a container and no ID is lent, so that byte 2 is Length, byte 4 has the fingerprint count and byte 6 the first
-- AFDataCount, byte i of the program's container is x
abbrev pub Invents : ℕ → (Setup → ℕ) → Program → Type 0
Invents i x p = Throughout p (λ u es. (out : List ℕ) → audio_after u (sounded u es) es ≡ true → (contents_said u es []).video ≡ Absent
    → i < length out → (p u es (pack [] out)).number ≡ 0 → get_or (p u es (pack [] out)).out i 0 ≡ x u)

-- every container is said to have n bytes
abbrev pub Claims : (Setup → ℕ) → Program → Type 0
Claims n p = Throughout p (λ u es. (id out : List ℕ) → (p u es (pack id out)).number ≡ 0 → (p u es (pack id out)).written ≡ n u)
