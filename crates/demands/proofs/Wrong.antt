-- Document 01's wrong programs ("What we hold each promise to", "Try these"), each shut out by the demand, or both, that it names. The kinds of program
-- stand in specs/Programs, one of each in specs/Examples. The runs are small, of 720p: one mono fingerprint at 24 Hz, and two at 25 Hz (Story, Shots).
use Prim.Native.Nat.{ℕ, zero, suc, ◌<◌}
use mathlib.Core.Path.{◌≡◌, sym, ap, subst, ◌∙◌}
use mathlib.Core.Bool.{true}
use mathlib.Core.List.{List, [], ◌∷◌}
use native.Mathlib.Omega.{arith}
use Rattle.laws.proofs.Bytes.{bytes_nil}
use Rattle.container.specs.declared.Contents.{Contents}
use Rattle.container.specs.Reading.{Reading}
use Rattle.container.specs.Reading.{reading}
use Rattle.demands.specs.Calls.{Setup, line, pack, Answer}
use Rattle.demands.specs.Paper.{accepted, Program, transcript}
use Rattle.demands.specs.Demands.{read_again, Demand2, Demand3}
use Rattle.demands.specs.Programs.{RightNumbers, RefusesLines, RefusesSound, RefusesInstants, RefusesPacks, TellsAlways, Exchanges, ShowsAlways, Speaks, SpeaksAlways, PacksAlways, IgnoresRule, Forgets, Repeats, Invents, Claims}
use Rattle.demands.specs.Examples.{refusing, telling, exchanging, showing, speaking, packing, unruled, forgetting, repeating, inventing, claiming}
use Rattle.demands.proofs.Fade.{click}
use Rattle.demands.proofs.Story.{room}
use Rattle.demands.proofs.Shots.{dark, first, second, third, u, is_accepted, still, first_block, first_instant, packs_1, packs_2, packs_3, audio_1, audio_3, never_both}
use Rattle.demands.proofs.Against.{as_said, right_numbers, follows, followed, bits_too, counts, spoken, speaks, reads_same, speaks_same, second_is_first, third_is_first, first_some}
use Rattle.demands.proofs.Pictured.{first_row, not_again, gives_0, gives_brighter, gives_darker, exchanged_is, told_is, shown_is}
use Rattle.demands.proofs.OneRule.{ignores}
use Rattle.demands.proofs.Invented.{two, in_one_first, in_two_first, in_two_second, of_two_first, of_two_second, one_first_is, two_first_is, two_second_is}
use Rattle.demands.proofs.Examples.{refusing_refuses, telling_tells, exchanging_exchanges, showing_shows, speaking_speaks, speaking_numbers, packing_packs, packing_numbers, unruled_ignores, forgetting_forgets, repeating_repeats, repeating_numbers, inventing_invents, claiming_claims}

-- "one that refuses everything (shut out by demand 2, as the table says when to accept)": the first row of the first frame is accepted
pub refusing_lines_2 : (p : Program) → RefusesLines p → Demand2 p → ⊥
refusing_lines_2 p r d = r u [] 117 dark (ap (λ (a : Answer). a.number) (as_said p d u is_accepted [] (line 117 dark)) ∙ first_row p d)

-- so is the first block
pub refusing_sound_2 : (p : Program) → RefusesSound p → Demand2 p → ⊥
refusing_sound_2 p r d = r u [] 0 click (first_block (follows p d is_accepted))

-- the first instant in floating point
pub refusing_instants_2 : (p : Program) → RefusesInstants p → Demand2 p → ⊥
refusing_instants_2 p r d = r u [] 0 still (first_instant (follows p d is_accepted))

-- and the first Pack with a frame to pack
pub refusing_packs_2 : (p : Program) → RefusesPacks p → Demand2 p → ⊥
refusing_packs_2 p r d = r u (first 1) [] room (packs_1 (follows p d is_accepted))

-- "one constant fingerprint or container (demands 2 and 3)". Demand 2, of a video fingerprint and of each count beside it: a third frame tells 0, 0, 0 where it
-- is black as the first was, 240, 960, 0 where it is white after black, and 240, 0, 960 where it is black after white
pub constant_told_2 : (p : Program) (i : ℕ) (v : Setup → ℕ) → i < 3 → TellsAlways i v p → Demand2 p → ⊥
constant_told_2 p zero v h f d = omega (arith, told_is p d v gives_0 0 f, told_is p d v gives_brighter 0 f)
constant_told_2 p (suc zero) v h f d = omega (arith, told_is p d v gives_0 1 f, told_is p d v gives_brighter 1 f)
constant_told_2 p (suc (suc zero)) v h f d = omega (arith, told_is p d v gives_0 2 f, told_is p d v gives_darker 2 f)
constant_told_2 p (suc (suc (suc i))) v h f d = omega arith

-- and the counts in each other's place (02, A1)
pub exchanged_told_2 : (p : Program) → Exchanges p → Demand2 p → ⊥
exchanged_told_2 p f d = omega (arith, exchanged_is p d gives_brighter f)

-- and its container has the same
pub constant_shown_2 : (p : Program) (v : Setup → ℕ) → ShowsAlways v p → Demand2 p → ⊥
constant_shown_2 p v f d =
    let one = shown_is p d v gives_0 f in
    let other = shown_is p d v gives_brighter f in
    omega arith

-- Demand 3, of an audio fingerprint, whatever its bytes and however many: after a click its bit 1 has to be 1 in the first container and 0 in the third. A
-- program that packs nothing has no wrong bit: hence the numbers
pub constant_audio_3 : (p : Program) (xs : Setup → ℕ → ℕ) → SpeaksAlways xs p → RightNumbers p → Demand3 p → ⊥
constant_audio_3 p xs f n d =
    let g = followed p n in
    never_both g d (xs u) (f u (first 1) [] room bytes_nil (audio_1 g) (packs_1 g))
    (f u (third 1) [] room bytes_nil (audio_3 g) (packs_3 g))

-- Demand 2, of the same
pub constant_audio_2 : (p : Program) (xs : Setup → ℕ → ℕ) → SpeaksAlways xs p → Demand2 p → ⊥
constant_audio_2 p xs f d = constant_audio_3 p xs f (right_numbers p d) (bits_too p d)

-- Demand 2, of a container, whatever its bytes: the second has another counter than the first
pub constant_container_2 : (p : Program) (bytes : Setup → List ℕ) → PacksAlways bytes p → Demand2 p → ⊥
constant_container_2 p bytes f d =
    let g = follows p d is_accepted in
    counts p d
    (reads_same p bytes f u (first 1) [] room (packs_1 g) ∙ sym (reads_same p bytes f u (second 1) [] room (packs_2 g)))

-- Demand 3, of a container that has audio at all
pub constant_container_3 : (p : Program) (bytes : Setup → List ℕ) → PacksAlways bytes p → ((v : Setup) → accepted v ≡ true → 0 < (reading (bytes v)).contents.count)
    → RightNumbers p → Demand3 p → ⊥
constant_container_3 p bytes f some n = constant_audio_3 p (λ v. spoken (reading (bytes v)).contents) (speaks_same p bytes f n some) n

-- "one that hands the session back untouched (demand 2)": it takes the same row twice, where the second time is refused with 4
pub forgetting_2 : (p : Program) → Forgets p → Demand2 p → ⊥
unfolding transcript
forgetting_2 p f d =
    let row = line 117 dark in
    let one : (p u [] row).number ≡ 0 = ap (λ (a : Answer). a.number) (as_said p d u is_accepted [] row) ∙ first_row p d in
    let again : (p u [] row).number ≡ 4 =
    ap (λ (a : Answer). a.number) (sym (f u (row ∷ []) row) ∙ as_said p d u is_accepted (row ∷ []) row) ∙ not_again p d in
    omega arith

-- "one that works until the first container and then repeats it (demand 2's history and counter, demand 3's every bit)": the second container has another
-- counter
pub repeating_2 : (p : Program) → Repeats p → Demand2 p → ⊥
repeating_2 p r d = counts p d (sym (second_is_first p r (follows p d is_accepted)))

-- and the third another bit 1 than the first
pub repeating_3 : (p : Program) → Repeats p → RightNumbers p → Demand3 p → ⊥
repeating_3 p r n d =
    let g = followed p n in
    let c : Contents = (read_again (p u (transcript p u (first 1)) (pack [] room))).contents in
    let s = speaks c (first_some p r g) in
    never_both g d (spoken c) s (subst (λ (x : Reading). Speaks (spoken c) x.contents) (sym (third_is_first p r g)) s)

-- one that mixes by one rule, whatever was set up (02, A9)
pub one_rule_2 : (p : Program) → IgnoresRule p → Demand2 p → ⊥
one_rule_2 = ignores

-- "one with invented Length, AFDataCount, fingerprint count or written size (demand 2)". Two fingerprints at 25 Hz: the first container has 15 bytes after its
-- Length, the second 17
pub invented_length : (p : Program) (x : Setup → ℕ) → Invents 2 x p → Demand2 p → ⊥
invented_length p x f d =
    let one : x two ≡ 15 = in_two_first p d 2 (omega arith) x f ∙ two_first_is.0 in
    let other : x two ≡ 17 = in_two_second p d 2 (omega arith) x f ∙ two_second_is.0 in
    omega arith

-- four audio bytes of each, written 4 x 8, and then five
pub invented_data_count : (p : Program) (x : Setup → ℕ) → Invents 6 x p → Demand2 p → ⊥
invented_data_count p x f d =
    let one : x two ≡ 32 = in_two_first p d 6 (omega arith) x f ∙ two_first_is.2 in
    let other : x two ≡ 40 = in_two_second p d 6 (omega arith) x f ∙ two_second_is.1 in
    omega arith

-- 18 bytes, and then 20
pub invented_size : (p : Program) (n : Setup → ℕ) → Claims n p → Demand2 p → ⊥
invented_size p n f d =
    let one : n two ≡ 18 = of_two_first p d n f ∙ two_first_is.3 in
    let other : n two ≡ 20 = of_two_second p d n f ∙ two_second_is.2 in
    omega arith

-- the setup has the right count, so one count for all: one fingerprint is written (1 - 1) x 8 + 2, two (2 - 1) x 8 + 2
pub invented_count : (p : Program) (x : ℕ) → Invents 4 (λ _. x) p → Demand2 p → ⊥
invented_count p x f d =
    let one : x ≡ 2 = in_one_first p d 4 (omega arith) (λ _. x) f ∙ one_first_is in
    let other : x ≡ 10 = in_two_first p d 4 (omega arith) (λ _. x) f ∙ two_first_is.1 in
    omega arith

-- ---- There are such programs, whatever the value, the bytes or the size

pub some_refusing : RefusesLines refusing × RefusesSound refusing × RefusesInstants refusing × RefusesPacks refusing
some_refusing = refusing_refuses

pub some_told : (i : ℕ) (v : Setup → ℕ) → i < 3 → TellsAlways i v (telling i v)
some_told = telling_tells

pub some_exchanged : Exchanges exchanging
some_exchanged = exchanging_exchanges

pub some_shown : (v : Setup → ℕ) → ShowsAlways v (showing v)
some_shown = showing_shows

pub some_audio : (xs : Setup → ℕ → ℕ) → ((v : Setup) (i : ℕ) → xs v i < 256) → SpeaksAlways xs (speaking xs) × RightNumbers (speaking xs)
some_audio xs small = (speaking_speaks xs small, speaking_numbers xs)

pub some_container : (bytes : Setup → List ℕ) → PacksAlways bytes (packing bytes) × RightNumbers (packing bytes)
some_container bytes = (packing_packs bytes, packing_numbers bytes)

pub some_forgetting : Forgets forgetting
some_forgetting = forgetting_forgets

pub some_one_rule : IgnoresRule unruled
some_one_rule = unruled_ignores

pub some_repeating : Repeats repeating × RightNumbers repeating
some_repeating = (repeating_repeats, repeating_numbers)

pub some_invention : (i : ℕ) (x : Setup → ℕ) → Invents i x (inventing i x)
some_invention = inventing_invents

pub some_size : (n : Setup → ℕ) → Claims n (claiming n)
some_size = claiming_claims
