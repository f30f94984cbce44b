-- How long a container of each rate is at most, and that this is met (02, A7 and A2).
use Prim.Native.Nat.{ℕ, zero, suc, ◌-◌, ◌≤◌, ◌<◌}
use mathlib.Core.Path.{◌≡◌, refl, sym, subst, ◌∙◌}
use mathlib.Core.List.{List, [], ◌∷◌, map}
use mathlib.Core.Bool.{Bool, true, false, ◌&&◌, ◌||◌}
use native.Mathlib.Omega.{arith}
use lib.Dec.{leb, eqb}
use lib.ListN.{length, get_or, replicate, length-replicate}
use borrow.Author.Tests.{leb-true, leb-false, eqb-true}
use Rattle.laws.specs.Bytes.{Bytes}
use Rattle.laws.specs.Lists.{is_one_of}
use Rattle.laws.specs.declared.Video.{Video}
use Rattle.laws.specs.declared.Video.TheVariants.{Absent, One, Two}
use Rattle.laws.proofs.Bytes.{bytes_replicate}
use Rattle.laws.proofs.Tests.{both, chosen, below, at_below}
use Rattle.rates.specs.Rates.{rate_listed, two_fields}
use Rattle.rates.specs.Cadence.{cadences, cadence, frames, from, count_occurs}
use Rattle.rates.specs.Mixes.{mix_listed}
use Rattle.rates.proofs.Table.{listed_below, at_listed, occurs_is}
use Rattle.container.specs.declared.Print.{Print}
use Rattle.container.specs.declared.Contents.{Contents}
use Rattle.container.specs.Contents.{all_carry, same_count}
use Rattle.container.specs.Bytes.{id_bytes, video_bytes, print_bytes, run_bytes, audio_bytes, encode}
use Rattle.container.specs.Writing.{all_zero, id_readable, video_readable, print_readable, prints_readable, readable}
use Rattle.container.specs.Reading.{reading}
use Rattle.container.proofs.Readable.{passes, print_occurs, each_readable, readable_fits}
use Rattle.container.proofs.Bytes.{Shaped, audio_at_most}
use Rattle.container.proofs.Bytes as bytes
use Rattle.container.proofs.Outcome.{write_0, write_12}
use Rattle.container_laws.specs.Typed.{TypedPrint, TypedPrints, TypedVideo, Typed}
use Rattle.container_laws.specs.Largest.{greatest, most_bytes, video_most, audio_most, largest_at, full_print, full_video, full_contents, Largest}
use Rattle.container_laws.proofs.Padded.{padded_typed}
use Rattle.container_laws.proofs.Back.{written_again}
use Rattle.container_laws.proofs.There.{read_as_written}
use Rattle.container_laws.proofs.Gives.{reading_readable}
use Rattle.container_laws.proofs.Sizes.{reading_shaped}
use Rattle.container_laws.proofs.Container.{sized}

-- ---- no container is longer

-- no element is above the greatest
at_most_greatest : (l : List ℕ) (i : ℕ) → i < length l → get_or l i 0 ≤ greatest l
unfolding greatest
at_most_greatest [] i h = absurd (let z : ⊥ = omega (arith, h) in z)
at_most_greatest (x ∷ l) zero h =
    chosen (λ (n : ℕ). x ≤ n) (leb (greatest l) x) _ _ (λ _. omega arith) (λ f. omega (arith, leb-false (greatest l) x f))
at_most_greatest (x ∷ l) (suc i) h =
    let m = at_most_greatest l i (omega (arith, h)) in
    chosen (λ (n : ℕ). get_or l i 0 ≤ n) (leb (greatest l) x) _ _ (λ t. omega (arith, leb-true (greatest l) x t)) (λ _. m)

occurs_at_most : (rate count : ℕ) → count_occurs rate count ≡ true → count ≤ most_bytes rate
occurs_at_most rate count e =
    let s = (occurs_is rate count).0 e in
    subst (λ (n : ℕ). n ≤ most_bytes rate) s.there (at_most_greatest (cadence rate) s.place s.within)

video_at_rate : (rate : ℕ) (v : Video) → video_readable rate v ≡ true → length (video_bytes v) ≤ video_most rate
unfolding video_readable video_bytes
video_at_rate rate Absent e = omega arith
video_at_rate rate (One a) e = chosen (λ (n : ℕ). 2 ≤ n) (two_fields rate) 3 2 (λ _. omega arith) (λ _. omega arith)
video_at_rate rate (Two a b) e = rw (both (leb b 240) (two_fields rate) (both (leb a 240) _ e).1).1 (omega arith)

shaped_at_rate : (c : Contents) → Shaped c → readable c ≡ true → length (encode c) ≤ largest_at c.rate
unfolding largest_at
shaped_at_rate c s e =
    let p = passes c e in
    let z = bytes.sized c s (readable_fits c s.prints e) in
    let l : c.count ≤ length c.prints = omega (arith, p.many, s.prints) in
    let a = audio_at_most (most_bytes c.rate) c.count c.prints
    (λ k h. occurs_at_most c.rate _ (print_occurs c.rate _ (each_readable c.rate c.count c.prints l p.prints k h))) p.many l in
    omega (arith, z.whole, z.id, video_at_rate c.rate c.video p.video, a)

-- contents that pass 29
pub at_most_at_rate : (c : Contents) → Typed c → readable c ≡ true → length (encode c) ≤ largest_at c.rate
at_most_at_rate c t e = shaped_at_rate c (record { id = t.id_long; prints = t.many }) e

-- an accepted container
pub accepted_at_rate : (s : List ℕ) → Bytes s → (reading s).number ≡ 0 → length s ≤ largest_at (reading s).contents.rate
accepted_at_rate s b e =
    subst (λ (l : List ℕ). length l ≤ largest_at (reading s).contents.rate) (written_again s b e)
    (shaped_at_rate (reading s).contents (reading_shaped s b e) (reading_readable s b e))

-- ---- and each rate has a container of that length

-- one test over the codes: at a listed rate the full contents pass 29, and each part of theirs is at its largest
abbrev parts_full : ℕ → Bool
parts_full rate =
    eqb (length (video_bytes (full_video rate))) (video_most rate)
    && (eqb (length (audio_bytes 32 (full_contents rate).prints)) (audio_most rate)
    && (leb (most_bytes rate) 5
    && readable (full_contents rate)))

all_full : listed_below parts_full ≡ true
unfolding listed_below below rate_listed two_fields cadence cadences frames from is_one_of greatest video_bytes audio_bytes run_bytes print_bytes readable id_readable video_readable prints_readable print_readable count_occurs mix_listed all_zero same_count all_carry
all_full = refl

record Full (rate : ℕ) : Type 0 where
  video : length (video_bytes (full_video rate)) ≡ video_most rate
  audio : length (audio_bytes 32 (full_contents rate).prints) ≡ audio_most rate
  few : most_bytes rate ≤ 5
  passes : readable (full_contents rate) ≡ true

is_full : (rate : ℕ) → rate_listed rate ≡ true → Full rate
is_full rate e =
    let q₁ = both _ _ (at_listed parts_full rate all_full e) in
    let q₂ = both _ _ q₁.1 in
    let q₃ = both _ _ q₂.1 in
    record { video = eqb-true _ _ q₁.0; audio = eqb-true _ _ q₂.0; few = leb-true _ _ q₃.0; passes = q₃.1 }

prints_typed : (p : Print) → TypedPrint p → (n : ℕ) → TypedPrints (replicate n p)
unfolding TypedPrints
prints_typed p t zero = tt
prints_typed p t (suc n) = (t, prints_typed p t n)

print_typed : (n : ℕ) → n ≤ 5 → TypedPrint (full_print n)
print_typed n h = padded_typed 31 5 n (replicate n 255) (length-replicate n 255) h (bytes_replicate n 255 (omega arith))

video_typed : (rate : ℕ) → TypedVideo (full_video rate)
unfolding TypedVideo
video_typed rate = chosen TypedVideo (two_fields rate) _ _ (λ _. (omega arith, omega arith)) (λ _. omega arith)

full_typed : (rate : ℕ) → most_bytes rate ≤ 5 → Typed (full_contents rate)
full_typed rate h = record {
  counter = omega arith;
  id_long = refl;
  id = bytes_replicate 20 255 (omega arith);
  video = video_typed rate;
  many = refl;
  prints = prints_typed (full_print (most_bytes rate)) (print_typed (most_bytes rate) h) 32;
}

full_length : (rate : ℕ) → Full rate → length (encode (full_contents rate)) ≡ largest_at rate
unfolding largest_at id_bytes
full_length rate f = (sized (full_contents rate) (full_typed rate f.few) f.passes).whole ∙ rw (f.video, f.audio)

some_bytes : (rate : ℕ) → 1 ≤ largest_at rate
unfolding largest_at
some_bytes rate = omega arith

pub largest : (rate : ℕ) → rate_listed rate ≡ true → Largest rate (full_contents rate)
unfolding id_bytes
largest rate e =
    let f = is_full rate e in
    let t = full_typed rate f.few in
    let l = full_length rate f in
    record {
      typed = t;
      id = refl;
      video = f.video;
      audio = f.audio;
      written = sym (rw length-replicate at (write_0 (full_contents rate) (replicate (largest_at rate) 0) f.passes (largest_at rate) (sym l) (rw length-replicate (omega arith))).0);
      short = sym (rw length-replicate at (write_12 (full_contents rate) (replicate (largest_at rate - 1) 0) f.passes (largest_at rate) (sym l) (rw length-replicate (omega (arith, some_bytes rate)))).0);
      read = read_as_written (full_contents rate) t f.passes;
    }

-- from code 2 on: 23.98, 24, 47.95, 25, 29.97, 30, 48, 50, 59.94, 60
pub by_rate : map largest_at (2 ∷ 3 ∷ 4 ∷ 5 ∷ 6 ∷ 7 ∷ 8 ∷ 9 ∷ 10 ∷ 11 ∷ []) ≡ 253 ∷ 253 ∷ 189 ∷ 254 ∷ 222 ∷ 222 ∷ 189 ∷ 189 ∷ 157 ∷ 157 ∷ []
unfolding largest_at two_fields greatest cadence cadences frames from is_one_of
by_rate = refl

others_less : below (λ rate. eqb rate 5 || leb (largest_at rate) 253) 12 ≡ true
unfolding below largest_at two_fields greatest cadence cadences frames from is_one_of
others_less = refl

-- 254 bytes can be had at 25 Hz alone
pub only_at_25 : (s : List ℕ) → Bytes s → (reading s).number ≡ 0 → length s ≡ 254 → (reading s).contents.rate ≡ 5
only_at_25 s b e l =
    let rate = (reading s).contents.rate in
    let h = (readable_fits (reading s).contents (reading_shaped s b e).prints (reading_readable s b e)).rate in
    go (eqb rate 5) refl (at_below (λ r. eqb r 5 || leb (largest_at r) 253) 12 rate others_less (omega (arith, h)))
  where
    go : (t : Bool) → eqb (reading s).contents.rate 5 ≡ t → (eqb (reading s).contents.rate 5 || leb (largest_at (reading s).contents.rate) 253) ≡ true → (reading s).contents.rate ≡ 5
    go true q z = eqb-true _ 5 q
    go false q z = absurd (let y : ⊥ = omega (arith, l, accepted_at_rate s b e, leb-true (largest_at (reading s).contents.rate) 253 (rw q at z)) in y)
