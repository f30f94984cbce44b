-- The turns that are measured: a block is heard, and bytes are taken and summed.
use Rattle.std.specs.Prelude.{ℕ, zero, suc, ◌+◌, ◌*◌, ◌%◌, List, cond, get_or}
use Rattle.fingerprint.specs.declared.Fingerprint.{Fingerprint}
use Rattle.fingerprint.specs.State.{fresh_of, heard_of, holds_of, take_of}
use Rattle.bench_audio.specs.declared.Turn.{Turn}

unfoldable pub byte_in : ℕ → ℕ → ℕ
byte_in sum b = (sum * 31 + b) % 4294967296

unfoldable pub bytes_in : ℕ → List ℕ → ℕ
bytes_in sum l =
    byte_in (byte_in (byte_in (byte_in (byte_in sum (get_or l 0 0)) (get_or l 1 0)) (get_or l 2 0)) (get_or l 3 0)) (get_or l 4 0)

unfoldable pub four_or_five : Fingerprint → ℕ
four_or_five f = cond (holds_of f 5) 5 4

-- bytes are taken and summed
unfoldable pub taken_in : ℕ → Fingerprint → Turn
taken_in sum f = record { fingerprint = (take_of f (four_or_five f)).fingerprint; sum = bytes_in sum (take_of f (four_or_five f)).bytes }

unfoldable pub next_turn : ℕ → ℕ → List ℕ → Turn → Turn
next_turn rule d block t = taken_in t.sum (heard_of rule d t.fingerprint block)

unfoldable pub turns : ℕ → ℕ → ℕ → List ℕ → ℕ → Turn
turns rule mix d block zero = record { fingerprint = fresh_of mix; sum = 0 }
turns rule mix d block (suc n) = next_turn rule d block (turns rule mix d block n)

unfoldable pub sum_after : ℕ → ℕ → ℕ → List ℕ → ℕ → ℕ
sum_after rule mix d block rounds = (turns rule mix d block rounds).sum
