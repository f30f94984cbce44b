-- A container that reads with audio has a byte of it in its first fingerprint: each count that "occurs in the cadence" (02, A2) is 1 or more.
use Prim.Native.Nat.{ℕ, zero, suc, ◌+◌, ◌/◌, ◌%◌, ◌<◌}
use mathlib.Core.Path.{◌≡◌}
use mathlib.Core.Bool.{Bool, true, cond}
use mathlib.Core.List.{List, ◌++◌}
use native.Mathlib.Nat.{not-suc-le-zero}
use lib.Dec.{eqb}
use lib.ListN.{length, get_or, drop}
use Rattle.std.specs.Prelude.{Option, None, Some}
use Rattle.std.specs.Option.{IfSome}
use Rattle.laws.proofs.Tests.{chosen}
use Rattle.rates.proofs.Table.{occurs_1_to_5}
use Rattle.container.specs.declared.Print.{Print}
use Rattle.container.specs.declared.PrintPart.{PrintPart}
use Rattle.container.specs.declared.AudioPart.{AudioPart}
use Rattle.container.specs.Reading.{Reading}
use Rattle.container.specs.Contents.{blank_print}
use Rattle.container.specs.Parts.{print_at, print_part, Run, run_of, audio_part}
use Rattle.container.specs.Reading.{header_number, refusal, id_in, video_in, audio_in, middle, parts_reading, reading}
use Rattle.container.proofs.Parts.{of_part, part_cases, print_right, print_said, first_of, count_in, audio_cases}

-- what is refused has it, and what passes the test has it
guarded : {A : Type 0} (P : A → Type 0) (t : Bool) {x y : A} → P y → (t ≡ true → P x) → P (cond t x y)
guarded P t {x} {y} refused passed = chosen P t x y passed (λ _. refused)

abbrev SomeByte : ℕ → List Print → Type 0
SomeByte n ps = 0 < n → 0 < (get_or ps 0 blank_print).size

none : {n : ℕ} → 0 < 0 → 0 < n
none l = absurd (not-suc-le-zero l)

in_print : (rate : ℕ) (b : List ℕ) (p : PrintPart) → print_part rate b ≡ Some p → 0 < p.print.size
unfolding print_at
in_print rate b p e = rw (print_said rate b p e) (occurs_1_to_5 rate (get_or b 1 0 / 8) (print_right rate b p e).occurs).0

in_run : (rate n : ℕ) (b : List ℕ) (ps : List Print) (r : Run) → run_of rate n b ≡ Some r → SomeByte n (r.list ++ ps)
in_run rate zero b ps r e = none
in_run rate (suc n) b ps r e = let q = first_of rate n b r e in rw q.whole (λ _. in_print rate b q.first q.first_is)

abbrev InAudio : AudioPart → Type 0
InAudio a = SomeByte a.count a.prints

in_audio : (flag rate : ℕ) (b : List ℕ) → IfSome (audio_part flag rate b) InAudio
in_audio flag rate b =
    let P : Option AudioPart → Type 0 = λ o. IfSome o InAudio in
    audio_cases P flag rate b (λ _. none) tt (λ a. in_run rate (count_in b) (drop 1 b) _ a.run a.run_is)

abbrev InReading : Reading → Type 0
InReading r = SomeByte r.contents.count r.contents.prints

in_parts : (counter flags : ℕ) (b : List ℕ) → InReading (parts_reading counter flags b)
unfolding parts_reading
in_parts counter flags b =
    part_cases InReading (id_in flags b) (refusal 25) _ none
    (λ i _. part_cases InReading (video_in flags i.used b) (refusal 26) _ none
    (λ v _. part_cases InReading (audio_in flags (i.used + v.used) b) (refusal 27) _ none
    (λ a e. guarded InReading (eqb (i.used + v.used + a.used) (length b)) none
    (λ _. of_part InAudio (audio_in flags (i.used + v.used) b) a e (in_audio (flags % 2) (flags / 16) (drop (i.used + v.used) b))))))

pub some_byte : (s : List ℕ) → 0 < (reading s).contents.count → 0 < (get_or (reading s).contents.prints 0 blank_print).size
unfolding reading
some_byte s = guarded InReading (eqb (header_number s) 0) none (λ _. in_parts (get_or s 1 0) (get_or s 3 0) (middle s))
