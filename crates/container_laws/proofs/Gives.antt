-- What an accepted reading gives is readable, and typed as the types make it; and the bytes written are bytes.
use Prim.Native.Nat.{ℕ, zero, suc, ◌+◌, ◌-◌, ◌/◌, ◌%◌, ◌≤◌}
use mathlib.Core.List.{List, [], ◌++◌}
use mathlib.Core.Path.{◌≡◌, refl, ap, sym, ◌∙◌}
use mathlib.Core.Bool.{true}
use native.Mathlib.Omega.{arith}
use lib.ListN.{length, get_or, take, drop, replicate, length-drop}
use lib.Seq.{take_at, drop_at, length-take-le}
use lib.Dec.{leb, eqb}
use borrow.Author.Tests.{le-leb}
use Rattle.laws.specs.Bytes.{Bytes}
use Rattle.laws.specs.Calls.{over}
use Rattle.laws.proofs.Bytes.{bytes_take, bytes_drop}
use Rattle.std.specs.Prelude.{Option, Some}
use Rattle.std.specs.Option.{IfSome}
use Rattle.laws.proofs.Tests.{chosen}
use Rattle.rates.specs.Rates.{two_fields}
use Rattle.container.specs.declared.Print.{Print}
use Rattle.container.specs.declared.IdPart.{IdPart}
use Rattle.container.specs.declared.VideoPart.{VideoPart}
use Rattle.container.specs.declared.PrintPart.{PrintPart}
use Rattle.container.specs.declared.AudioPart.{AudioPart}
use Rattle.container.specs.Contents.{all_carry, same_count}
use Rattle.container.specs.Parts.{id_part, one_field, both_fields, video_part, print_at, Run, run_of, audio_part}
use Rattle.container.specs.Reading.{id_in, video_in, audio_in, middle, reading}
use Rattle.container.specs.Writing.{id_readable, video_readable, print_readable, prints_readable, readable}
use Rattle.container.proofs.Runs.{run_length}
use Rattle.container.proofs.Parts.{of_part, some_is, first_of, PrintRight, print_right, print_said, audio_cases, count_in}
use Rattle.container_laws.proofs.Back.{accepted_is}
use Rattle.container_laws.proofs.Padded.{zeros_pass, blanks_pass}

none_counted : same_count [] ≡ true
unfolding same_count all_carry
none_counted = refl

print_passes : (rate : ℕ) (b : List ℕ) → Bytes b → PrintRight rate b → print_readable rate (print_at b).print ≡ true
unfolding print_readable print_at over
print_passes rate b s r =
    let n = get_or b 1 0 / 8 in
    let xs : List ℕ = take n (drop 2 b) in
    let l : length xs ≡ n = length-take-le n (drop 2 b) (rw length-drop (omega (arith, r.fits))) in
    rw (
      le-leb (get_or b 0 0 / 8) 31 (omega (arith, s 0)),
      r.mix,
      r.occurs,
      drop_at xs (drop (length xs) (replicate 5 0)) n l,
      l,
    ) (zeros_pass 5 n)

run_passes : (rate n : ℕ) (b : List ℕ) (z : List Print) (r : Run) → Bytes b → run_of rate n b ≡ Some r → prints_readable rate 0 z ≡ true → prints_readable rate n (r.list ++ z) ≡ true
unfolding run_of prints_readable
run_passes rate zero b z r s e f = rw (sym (some_is _ r e)) f
run_passes rate (suc n) b z r s e f =
    let q = first_of rate n b r e in
    let g : print_readable rate q.first.print ≡ true =
    ap (λ (g : PrintPart). print_readable rate g.print) (print_said rate b q.first q.first_is) ∙ print_passes rate b s (print_right rate b q.first q.first_is) in
    rw (q.whole, g) (run_passes rate n (drop q.first.used b) z q.rest (bytes_drop q.first.used b s) q.rest_is f)

abbrev IdPasses : ℕ → IdPart → Type 0
IdPasses flag g = id_readable (eqb flag 1) g.id ≡ true

id_passes : (flag : ℕ) (b : List ℕ) → flag ≤ 1 → IfSome (id_part flag b) (IdPasses flag)
unfolding id_part id_readable
id_passes zero b h = zeros_pass 20 0
id_passes (suc zero) b h =
    let P : Option IdPart → Type 0 = λ o. IfSome o (IdPasses 1) in
    chosen P (leb 21 (length b)) _ _ (λ _. chosen P (eqb (get_or b 0 0) 0) _ _ (λ _. refl) (λ _. tt)) (λ _. tt)
id_passes (suc (suc n)) b h = absurd (let z : ⊥ = omega arith in z)

abbrev VideoPasses : ℕ → VideoPart → Type 0
VideoPasses rate g = video_readable rate g.video ≡ true

video_passes : (flag rate : ℕ) (b : List ℕ) → IfSome (video_part flag rate b) (VideoPasses rate)
unfolding video_part one_field both_fields video_readable
video_passes flag rate b =
    let P : Option VideoPart → Type 0 = λ o. IfSome o (VideoPasses rate) in
    chosen P (eqb flag 0) _ _ (λ _. refl)
    (λ _. chosen P (leb 2 (length b)) _ _
    (λ _. chosen P (eqb (get_or b 0 0) 0x09) _ _
    (λ _. chosen P (leb (get_or b 1 0) 240) _ _ (λ h. h) (λ _. tt))
    (λ _. chosen P (eqb (get_or b 0 0) 0x11) _ _
    (λ _. chosen P (two_fields rate) _ _
    (λ two. chosen P (leb 3 (length b)) _ _
    (λ _. chosen P (leb (get_or b 1 0) 240) _ _
    (λ h₁. chosen P (leb (get_or b 2 0) 240) _ _ (λ h₂. rw (h₁, h₂, two)) (λ _. tt)) (λ _. tt)) (λ _. tt)) (λ _. tt)) (λ _. tt)))
    (λ _. tt))

record AudioRight (rate : ℕ) (g : AudioPart) : Type 0 where
  many : leb g.count 32 ≡ true
  prints : prints_readable rate g.count g.prints ≡ true
  counts : same_count (take g.count g.prints) ≡ true

audio_passes : (flag rate : ℕ) (b : List ℕ) → Bytes b → IfSome (audio_part flag rate b) (AudioRight rate)
audio_passes flag rate b s =
    let P : Option AudioPart → Type 0 = λ o. IfSome o (AudioRight rate) in
    audio_cases P flag rate b (λ _. record { many = refl; prints = blanks_pass rate 32 0; counts = none_counted }) tt
    (λ a.
    let n = count_in b in
    record {
      many = le-leb n 32 (omega (arith, s 0));
      prints = run_passes rate n (drop 1 b) _ a.run (bytes_drop 1 b s) a.run_is (blanks_pass rate 32 n);
      counts = ap same_count (take_at a.run.list _ n (run_length rate n (drop 1 b) a.run a.run_is)) ∙ a.counts;
    })

pub middle_bytes : (s : List ℕ) → Bytes s → Bytes (middle s)
unfolding middle
middle_bytes s b = bytes_take (length s - 5) (drop 4 s) (bytes_drop 4 s b)

pub reading_readable : (s : List ℕ) → Bytes s → (reading s).number ≡ 0 → readable (reading s).contents ≡ true
unfolding readable
reading_readable s small e =
    let a = accepted_is s e in
    let flags = get_or s 3 0 in
    let b = middle s in
    let r = a.parts in
    let p = r.id.used in
    let q = r.video.used in
    let i = of_part (IdPasses (flags / 4 % 2)) (id_in flags b) r.id r.id_is (id_passes (flags / 4 % 2) b (omega arith)) in
    let v = of_part (VideoPasses (flags / 16)) (video_in flags p b) r.video r.video_is (video_passes (flags / 2 % 2) (flags / 16) (drop p b)) in
    let g = of_part (AudioRight (flags / 16)) (audio_in flags (p + q) b) r.audio r.audio_is (audio_passes (flags % 2) (flags / 16) (drop (p + q) b) (bytes_drop (p + q) b (middle_bytes s small))) in
    rw (a.says, a.header.rate, i, v, g.many, g.prints) g.counts
