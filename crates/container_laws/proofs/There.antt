-- Readable contents are read as they were written.
use Prim.Native.Nat.{ℕ, zero, suc, ◌+◌, ◌-◌, ◌*◌, ◌/◌, ◌%◌, ◌≤◌, ◌<◌}
use mathlib.Core.List.{List, [], ◌∷◌, ◌++◌, append_assoc, append-nil}
use mathlib.Core.Path.{◌≡◌, refl, ap, sym, ◌∙◌}
use mathlib.Core.Bool.{Bool, true, false, cond}
use native.Mathlib.Omega.{arith}
use native.Mathlib.Numerals.{add-one}
use lib.ListN.{length, take, drop, replicate, length-append, take-append-drop}
use lib.Seq.{length-take-le, take_at, drop_at}
use lib.Dec.{leb, eqb}
use borrow.Author.Tests.{eqb-true, le-leb, eq-eqb}
use Rattle.laws.specs.Calls.{over}
use Rattle.laws.specs.Sums.{sum}
use Rattle.std.specs.Prelude.{Some}
use Rattle.laws.proofs.Tests.{both}
use Rattle.laws.proofs.Sums.{sum_append}
use Rattle.rates.specs.Mixes.{mix_listed}
use Rattle.rates.specs.Cadence.{count_occurs}
use Rattle.laws.specs.declared.Video.{Video}
use Rattle.laws.specs.declared.Video.TheVariants.{Absent, One, Two}
use Rattle.container.specs.declared.Print.{Print}
use Rattle.container.specs.declared.IdPart.{IdPart}
use Rattle.container.specs.declared.VideoPart.{VideoPart}
use Rattle.container.specs.declared.AudioPart.{AudioPart}
use Rattle.container.specs.declared.Contents.{Contents}
use Rattle.container.specs.Contents.{blank_print, same_count}
use Rattle.container.specs.Bytes.{id_bytes, video_bytes, print_bytes, run_bytes, audio_bytes, video_flag, audio_flag, part_bytes, flag_byte, front_bytes, check_byte, encode}
use Rattle.container.specs.Parts.{id_part, one_field, both_fields, video_part, print_part, print_at, run_of, audio_of, audio_part}
use Rattle.container.specs.Reading.{header_number, parts_reading, middle, reading}
use Rattle.container.specs.Writing.{all_zero, id_readable, video_readable, print_readable, print_blank, prints_readable, readable, PrintFits}
use Rattle.container.proofs.Parts.{HeaderRight, header_0, PrintRight, print_is, parts_0}
use Rattle.container.proofs.Bytes.{print_length}
use Rattle.container.proofs.Readable.{Passes, passes, print_fits}
use Rattle.container_laws.specs.Typed.{TypedPrint, TypedPrints, Typed}

-- ---- zeros

zeros_are : (xs : List ℕ) → all_zero xs ≡ true → xs ≡ replicate (length xs) 0
unfolding all_zero
zeros_are [] e = refl
zeros_are (x ∷ xs) e =
    let q = both (eqb x 0) _ e in
    ap (λ (y : ℕ). y ∷ xs) (eqb-true x 0 q.0) ∙ ap (λ (l : List ℕ). 0 ∷ l) (zeros_are xs q.1)

drop_zeros : (k n : ℕ) (xs : List ℕ) → length xs ≡ n → all_zero (drop k xs) ≡ true → drop k xs ≡ drop k (replicate n 0)
drop_zeros zero n xs l e = zeros_are xs e ∙ ap (λ (m : ℕ). replicate m 0) l
drop_zeros (suc k) zero [] l e = refl
drop_zeros (suc k) zero (x ∷ xs) l e = absurd (let z : ⊥ = omega arith in z)
drop_zeros (suc k) (suc n) [] l e = absurd (let z : ⊥ = omega arith in z)
drop_zeros (suc k) (suc n) (x ∷ xs) l e = drop_zeros k n xs (omega arith) e

-- ---- fingerprints

-- a fingerprint as a reading gives it
record Well (rate : ℕ) (p : Print) : Type 0 where
  fits : PrintFits p
  listed : mix_listed p.mix ≡ true
  occurs : count_occurs rate p.size ≡ true
  room : length p.bytes ≡ 5
  zeros : drop p.size p.bytes ≡ drop p.size (replicate 5 0)

well : (rate : ℕ) (p : Print) → TypedPrint p → print_readable rate p ≡ true → Well rate p
unfolding print_readable
well rate p t e =
    let q₁ = both (leb p.id 31) _ e in
    let q₂ = both (mix_listed p.mix) _ q₁.1 in
    let q₃ = both (count_occurs rate p.size) _ q₂.1 in
    record { fits = print_fits rate p e; listed = q₂.0; occurs = q₃.0; room = t.long; zeros = drop_zeros p.size 5 p.bytes t.long q₃.1 }

print_there : (rate : ℕ) (p : Print) (rest : List ℕ) → Well rate p → print_part rate (print_bytes p ++ rest) ≡ Some (record { used = p.size + 2; print = p })
unfolding print_bytes print_at over
print_there rate p rest w =
    let f = w.fits in
    let m = f.mix in
    let xs : List ℕ = take p.size p.bytes in
    let hx : length xs ≡ p.size = length-take-le p.size p.bytes (omega (arith, f.five, w.room)) in
    let b : List ℕ = (p.id * 8 + p.mix) ∷ (p.size * 8) ∷ (xs ++ rest) in
    let lb = length-append xs rest in
    let e₁ : (p.id * 8 + p.mix) / 8 ≡ p.id = omega arith in
    let e₂ : (p.id * 8 + p.mix) % 8 ≡ p.mix = omega arith in
    let e₃ : p.size * 8 / 8 ≡ p.size = omega arith in
    let t : take p.size (xs ++ rest) ≡ xs = take_at xs rest p.size hx in
    let z : xs ++ drop (length xs) (replicate 5 0) ≡ p.bytes =
    ap (λ (k : ℕ). xs ++ drop k (replicate 5 0)) hx ∙ ap (λ (d : List ℕ). xs ++ d) (sym w.zeros) ∙ take-append-drop p.size p.bytes in
    let r : PrintRight rate b =
    record {
      two = omega arith;
      mix = rw e₂ w.listed;
      low = omega arith;
      occurs = rw e₃ w.occurs;
      fits = omega arith;
    } in
    print_is rate b r ∙ rw (e₁, e₂, e₃, t, z)

data AllWell (rate : ℕ) : List Print → Type 0 where
  none : AllWell rate []
  more : {p : Print} {ps : List Print} → Well rate p → AllWell rate ps → AllWell rate (p ∷ ps)

run_there : (rate : ℕ) (ps : List Print) (rest : List ℕ) → AllWell rate ps
    → run_of rate (length ps) (run_bytes ps ++ rest) ≡ Some (record { used = length (run_bytes ps); list = ps })
unfolding run_of run_bytes
run_there rate [] rest w = refl
run_there rate (p ∷ ps) rest (more w ws) =
    let l : length (print_bytes p) ≡ p.size + 2 = print_length p (omega (arith, w.fits.five, w.room)) in
    rw (
      append_assoc (print_bytes p) (run_bytes ps) rest,
      print_there rate p (run_bytes ps ++ rest) w,
      drop_at (print_bytes p) (run_bytes ps ++ rest) (p.size + 2) l,
      run_there rate ps rest ws,
      length-append,
      l,
    )

each_well : (rate n : ℕ) (ps : List Print) → TypedPrints ps → prints_readable rate n ps ≡ true → AllWell rate (take n ps)
unfolding prints_readable TypedPrints
each_well rate zero [] t e = none
each_well rate zero (p ∷ ps) t e = none
each_well rate (suc n) [] t e = none
each_well rate (suc n) (p ∷ ps) t e =
    let q = both (print_readable rate p) _ e in
    more (well rate p t.0 q.0) (each_well rate n ps t.1 q.1)

blank_is : (p : Print) → TypedPrint p → print_blank p ≡ true → p ≡ blank_print
unfolding print_blank
blank_is p t e =
    let q₁ = both (eqb p.id 0) _ e in
    let q₂ = both (eqb p.mix 0) _ q₁.1 in
    let q₃ = both (eqb p.size 0) _ q₂.1 in
    let b = drop_zeros 0 5 p.bytes t.long q₃.1 in
    λ i. record { id = eqb-true p.id 0 q₁.0 i; mix = eqb-true p.mix 0 q₂.0 i; size = eqb-true p.size 0 q₃.0 i; bytes = b i }

rest_blank : (rate n m : ℕ) (ps : List Print) → TypedPrints ps → length ps ≡ m → prints_readable rate n ps ≡ true → drop n ps ≡ drop n (replicate m blank_print)
unfolding prints_readable TypedPrints
rest_blank rate zero zero [] t l e = refl
rest_blank rate zero (suc m) [] t l e = absurd (let z : ⊥ = omega arith in z)
rest_blank rate zero zero (p ∷ ps) t l e = absurd (let z : ⊥ = omega arith in z)
rest_blank rate zero (suc m) (p ∷ ps) t l e =
    let q = both (print_blank p) _ e in
    ap (λ (x : Print). x ∷ ps) (blank_is p t.0 q.0) ∙ ap (λ (x : List Print). blank_print ∷ x) (rest_blank rate zero m ps t.1 (omega arith) q.1)
rest_blank rate (suc n) zero [] t l e = refl
rest_blank rate (suc n) (suc m) [] t l e = absurd (let z : ⊥ = omega arith in z)
rest_blank rate (suc n) zero (p ∷ ps) t l e = absurd (let z : ⊥ = omega arith in z)
rest_blank rate (suc n) (suc m) (p ∷ ps) t l e = rest_blank rate n m ps t.1 (omega arith) (both (print_readable rate p) _ e).1

-- ---- each part

id_there : (present : Bool) (id rest : List ℕ) → length id ≡ 20 → id_readable present id ≡ true
    → id_part (cond present 1 0) (id_bytes present id ++ rest) ≡ Some (record { used = length (id_bytes present id); id = id })
unfolding id_part id_bytes id_readable
id_there false id rest h e = rw (drop_zeros 0 20 id h e)
id_there true id rest h e =
    let l = length-append id rest in
    rw (le-leb 21 (suc (length (id ++ rest))) (omega arith), take_at id rest 20 h, h)

video_there : (rate : ℕ) (v : Video) (rest : List ℕ) → video_readable rate v ≡ true
    → video_part (video_flag v) rate (video_bytes v ++ rest) ≡ Some (record { used = length (video_bytes v); video = v })
unfolding video_part one_field both_fields video_bytes video_readable
video_there rate Absent rest e = refl
video_there rate (One a) rest e = rw (le-leb 2 (suc (suc (length rest))) (omega arith), e)
video_there rate (Two a b) rest e =
    let q₁ = both (leb a 240) _ e in
    let q₂ = both (leb b 240) _ q₁.1 in
    rw (le-leb 2 (suc (suc (suc (length rest)))) (omega arith), q₂.1, le-leb 3 (suc (suc (suc (length rest)))) (omega arith), q₁.0, q₂.0)

audio_there : (rate n : ℕ) (ps : List Print) → n ≤ 32 → length ps ≡ 32 → AllWell rate (take n ps) → same_count (take n ps) ≡ true → drop n ps ≡ drop n (replicate 32 blank_print)
    → audio_part (audio_flag n) rate (audio_bytes n ps) ≡ Some (record { used = length (audio_bytes n ps); count = n; prints = ps })
unfolding audio_part audio_of audio_bytes
audio_there rate zero ps m l w c z = rw z
audio_there rate (suc n) ps m l w c z =
    let qs : List Print = take (suc n) ps in
    let hl : length qs ≡ suc n = length-take-le (suc n) ps (omega arith) in
    let r = rw (append-nil, hl) at (run_there rate qs [] w) in
    let e₁ : (n * 8 + 2) / 8 + 1 ≡ suc n = omega arith in
    let e₂ : (n * 8 + 2) % 8 ≡ 2 = omega arith in
    let e₃ : qs ++ drop (suc n) (replicate 32 blank_print) ≡ ps = ap (λ (d : List Print). qs ++ d) (sym z) ∙ take-append-drop (suc n) ps in
    rw (le-leb 1 (suc (length (run_bytes qs))) (omega arith), e₂, e₁, r, c, e₃, add-one (length (run_bytes qs)))

-- ---- the flags, taken apart again

pub video_flag_lem : (v : Video) → video_flag v ≤ 1
video_flag_lem Absent = omega arith
video_flag_lem (One a) = omega arith
video_flag_lem (Two a b) = omega arith

pub audio_flag_lem : (n : ℕ) → audio_flag n ≤ 1
audio_flag_lem zero = omega arith
audio_flag_lem (suc n) = omega arith

pub id_flag : (present : Bool) → cond present 1 0 ≤ 1
id_flag true = omega arith
id_flag false = omega arith

id_flag_is : (present : Bool) → eqb (cond present 1 0) 1 ≡ present
id_flag_is true = refl
id_flag_is false = refl

record Flags (flags r i v a : ℕ) : Type 0 where
  rate : flags / 16 ≡ r
  low : flags % 16 < 8
  id : flags / 4 % 2 ≡ i
  video : flags / 2 % 2 ≡ v
  audio : flags % 2 ≡ a

flags_are : (r i v a : ℕ) → i ≤ 1 → v ≤ 1 → a ≤ 1 → Flags (r * 16 + i * 4 + v * 2 + a) r i v a
flags_are r i v a hi hv ha =
    let e₄ : (r * 16 + i * 4 + v * 2 + a) / 4 ≡ r * 4 + i = omega arith in
    let e₂ : (r * 16 + i * 4 + v * 2 + a) / 2 ≡ r * 8 + i * 2 + v = omega arith in
    record { rate = omega arith; low = omega arith; id = rw e₄ (omega arith); video = rw e₂ (omega arith); audio = omega arith }

flags_there : (c : Contents) → Flags (flag_byte c) c.rate (cond c.hasid 1 0) (video_flag c.video) (audio_flag c.count)
unfolding flag_byte
flags_there c =
    flags_are c.rate (cond c.hasid 1 0) (video_flag c.video) (audio_flag c.count)
    (id_flag c.hasid) (video_flag_lem c.video) (audio_flag_lem c.count)

-- ---- the whole

module _ (c : Contents) (t : Typed c) (p : Passes c) where
  parts_there : parts_reading c.counter (flag_byte c) (part_bytes c) ≡ record { number = 0; contents = c }
  unfolding part_bytes
  parts_there =
      let f = flags_there c in
      let flags = flag_byte c in
      let I : List ℕ = id_bytes c.hasid c.id in
      let W : List ℕ = video_bytes c.video in
      let A : List ℕ = audio_bytes c.count c.prints in
      let gi : IdPart = record { used = length I; id = c.id } in
      let gv : VideoPart = record { used = length W; video = c.video } in
      let ga : AudioPart = record { used = length A; count = c.count; prints = c.prints } in
      let pi : id_part (flags / 4 % 2) (I ++ W ++ A) ≡ Some gi = rw (f.id, append_assoc I W A) (id_there c.hasid c.id (W ++ A) t.id_long p.id) in
      let pv : video_part (flags / 2 % 2) (flags / 16) (drop (length I) (I ++ W ++ A)) ≡ Some gv =
      rw (f.video, f.rate, append_assoc I W A, drop_at I (W ++ A) (length I) refl) (video_there c.rate c.video A p.video) in
      let pa : audio_part (flags % 2) (flags / 16) (drop (length I + length W) (I ++ W ++ A)) ≡ Some ga =
      rw (f.audio, f.rate, drop_at (I ++ W) A (length I + length W) (length-append I W))
      (audio_there c.rate c.count c.prints p.many t.many (each_well c.rate c.count c.prints t.prints p.prints) p.counts
      (rest_blank c.rate c.count 32 c.prints t.prints t.many p.prints)) in
      let l : length I + length W + length A ≡ length (I ++ W ++ A) = sym (length-append (I ++ W) A ∙ ap (λ (k : ℕ). k + length A) (length-append I W)) in
      parts_0 c.counter flags (I ++ W ++ A) gi pi gv pv ga pa l ∙ rw (f.rate, f.id, id_flag_is)

check_0 : (front : List ℕ) → sum (front ++ (check_byte (sum front) ∷ [])) % 256 ≡ 0
unfolding sum check_byte
check_0 front = omega (arith, sum_append front (check_byte (sum front) ∷ []))

pub read_as_written : (c : Contents) → Typed c → readable c ≡ true → reading (encode c) ≡ record { number = 0; contents = c }
unfolding reading encode front_bytes middle
read_as_written c t e =
    let p = passes c e in
    let f = flags_there c in
    let b : List ℕ = part_bytes c in
    let front : List ℕ = 0 ∷ c.counter ∷ (length b + 2) ∷ flag_byte c ∷ b in
    let z : ℕ = check_byte (sum front) in
    let s : List ℕ = front ++ (z ∷ []) in
    let l : length s ≡ length b + 5 = omega (arith, length-append b (z ∷ [])) in
    let h : HeaderRight s =
    record { five = omega arith; version = refl; counted = omega arith; check = check_0 front; rate = rw f.rate p.rate; bit_3 = f.low } in
    let m : take (length s - 5) (b ++ (z ∷ [])) ≡ b = take_at b (z ∷ []) (length s - 5) (omega arith) in
    rw (eq-eqb (header_number s) 0 (header_0 s h), m) (parts_there c t p)
