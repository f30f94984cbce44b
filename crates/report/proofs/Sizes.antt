-- How long the line is at most.
use Prim.Native.Nat.{ℕ, ◌+◌, ◌/◌, ◌%◌, ◌≤◌, ◌<◌}
use mathlib.Core.Path.{◌≡◌, sym, ap, ◌∙◌}
use mathlib.Core.List.{List, ◌++◌}
use mathlib.Core.Bool.{Bool, true, false, cond, ◌&&◌}
use native.Mathlib.Omega.{arith}
use lib.ListN.{length, get_or, take, replicate, length-append}
use lib.Seq.{sets, length-sets, length-take-le}
use lib.Dec.{leb, ltb, eqb}
use borrow.Author.Tests.{leb-true, eqb-true}
use Rattle.laws.specs.declared.Video.{Video}
use Rattle.laws.specs.declared.Video.TheVariants.{Absent, One, Two}
use Rattle.container.specs.declared.Contents.{Contents}
use Rattle.container.specs.Reading.{Reading}
use Rattle.rates.specs.Rates.{rate_listed, two_fields}
use Rattle.container.specs.Writing.{id_readable, video_readable, readable}
use Rattle.container.specs.Reading.{header_number, refusal, parts_say, id_in, video_in, audio_in, parts_reading, middle, reading}
use Rattle.laws.specs.Bytes.{Bytes}
use Rattle.laws.specs.Sums.{sum}
use Rattle.laws.proofs.Tests.{both, chosen}
use Rattle.container.proofs.Parts.{part_cases}
use Rattle.container_laws.proofs.Back.{accepted_is}
use Rattle.container_laws.proofs.Gives.{reading_readable}
use Rattle.text.specs.Lines.{item, space, newline, refused, refused_text}
use Rattle.text.proofs.Spelled.{item_size, item_small, refused_size}
use Rattle.report.specs.Report.{ok_seq, rate, id, video, audio, video_text, accepted_text, reported, inspected}

video_size : (v : Video) → length (video_text v) ≤ 69
unfolding video_text
video_size Absent = omega (arith, item_size video 0)
video_size (One a) = omega (arith, length-append (item video 1) (item space a), item_size video 1, item_size space a)
video_size (Two a b) =
    omega (arith, length-append (item video 2 ++ item space a) (item space b), length-append (item video 2) (item space a), item_size video 2, item_size space a, item_size space b)

accepted_size : (c : Contents) → length (accepted_text c) ≤ 192
unfolding accepted_text
accepted_size c =
    let a : List ℕ = item ok_seq c.counter in
    let b : List ℕ = item rate c.rate in
    let i : List ℕ = item id (cond c.hasid 1 0) in
    let v : List ℕ = video_text c.video in
    let s : List ℕ = item audio c.count in
    omega (
      arith,
      length-append (a ++ b ++ i ++ v ++ s) newline,
      length-append (a ++ b ++ i ++ v) s,
      length-append (a ++ b ++ i) v,
      length-append (a ++ b) i,
      length-append a b,
      item_size ok_seq c.counter,
      item_size rate c.rate,
      item_size id (cond c.hasid 1 0),
      video_size c.video,
      item_size audio c.count,
    )

-- no line is longer than 192, whatever the numbers
pub reported_size : (r : Reading) → length (reported r) ≤ 192
unfolding reported
reported_size r = chosen (λ (l : List ℕ). length l ≤ 192) (eqb r.number 0) _ _ (λ _. accepted_size r.contents) (λ _. omega (arith, refused_size r.number))

-- a buffer of 192 bytes holds the line
pub line_fits : (input line : List ℕ) (size : ℕ) → size ≡ length (inspected input) → line ≡ sets (replicate 192 0) 0 (inspected input) → (size ≤ length line) × (size ≡ length (take size line))
unfolding inspected
line_fits input line size p q =
    let l : length line ≡ 192 = ap length q ∙ length-sets (replicate 192 0) 0 (inspected input) in
    let h : size ≤ length line = omega (arith, reported_size (reading (take 300 input))) in
    (h, sym (length-take-le size line h))

-- ---- of a container's bytes: no line is longer than 64

either_small : (t : Bool) (m n : ℕ) → m < 1000 → n < 1000 → cond t m n < 1000
either_small true m n h k = h
either_small false m n h k = k

header_small : (s : List ℕ) → header_number s < 1000
unfolding header_number
header_small s =
    either_small (leb 5 (length s)) _ 20
    (either_small (eqb (get_or s 0 0) 0) _ 21
    (either_small (eqb (length s) (get_or s 2 0 + 3)) _ 22
    (either_small (eqb (sum s % 256) 0) _ 23
    (either_small (rate_listed (get_or s 3 0 / 16)) _ 24
    (either_small (ltb (get_or s 3 0 % 16) 8) 0 24 (omega arith) (omega arith))
    (omega arith)) (omega arith)) (omega arith)) (omega arith)) (omega arith)

-- the number of a reading that is one or the other
one_small : (t : Bool) (x y : Reading) → x.number < 1000 → y.number < 1000 → (cond t x y).number < 1000
one_small true x y h k = h
one_small false x y h k = k

number_small : (s : List ℕ) → (reading s).number < 1000
unfolding reading parts_reading
number_small s =
    let P : Reading → Type 0 = λ r. r.number < 1000 in
    let flags : ℕ = get_or s 3 0 in
    let b : List ℕ = middle s in
    one_small (eqb (header_number s) 0) _ (refusal (header_number s))
    (part_cases P (id_in flags b) (refusal 25) _ (omega arith)
    (λ i _. part_cases P (video_in flags i.used b) (refusal 26) _ (omega arith)
    (λ v _. part_cases P (audio_in flags (i.used + v.used) b) (refusal 27) _ (omega arith)
    (λ a _. one_small (eqb (i.used + v.used + a.used) (length b)) (parts_say (get_or s 1 0) flags i v a) (refusal 28) (omega arith) (omega arith)))))
    (header_small s)

video_small : (rate : ℕ) (v : Video) → video_readable rate v ≡ true → length (video_text v) ≤ 18
unfolding video_text video_readable
video_small rate Absent e = omega (arith, item_small video 0 (omega arith))
video_small rate (One a) e =
    let h : a ≤ 240 = leb-true a 240 e in
    omega (arith, length-append (item video 1) (item space a), item_small video 1 (omega arith), item_small space a (omega arith))
video_small rate (Two a b) e =
    let p = both (leb a 240) (leb b 240 && two_fields rate) e in
    let h : a ≤ 240 = leb-true a 240 p.0 in
    let k : b ≤ 240 = leb-true b 240 (both (leb b 240) (two_fields rate) p.1).0 in
    omega (
      arith,
      length-append (item video 2 ++ item space a) (item space b),
      length-append (item video 2) (item space a),
      item_small video 2 (omega arith),
      item_small space a (omega arith),
      item_small space b (omega arith),
    )

flag_small : (b : Bool) → cond b 1 0 < 1000
flag_small true = omega arith
flag_small false = omega arith

-- the counter is a byte of the container
counter_byte : (s : List ℕ) → Bytes s → (reading s).number ≡ 0 → (reading s).contents.counter < 256
counter_byte s b e = rw (ap (λ (r : Reading). r.contents.counter) (accepted_is s e).says) (b 1)

-- what an accepted container of bytes says: no number of it has more than three digits
module _ (s : List ℕ) (bytes : Bytes s) (e : (reading s).number ≡ 0) where
  abbrev c : Contents
  c = (reading s).contents

  fits : (rate_listed c.rate ≡ true) × (video_readable c.rate c.video ≡ true) × (leb c.count 32 ≡ true)
  unfolding readable
  fits =
      let p = both (rate_listed c.rate) _ (reading_readable s bytes e) in
      let q = both (id_readable c.hasid c.id) _ p.1 in
      let r = both (video_readable c.rate c.video) _ q.1 in
      (p.0, r.0, (both (leb c.count 32) _ r.1).0)

  accepted_small : length (accepted_text c) ≤ 64
  unfolding accepted_text rate_listed
  accepted_small =
      let a : List ℕ = item ok_seq c.counter in
      let b : List ℕ = item rate c.rate in
      let i : List ℕ = item id (cond c.hasid 1 0) in
      let v : List ℕ = video_text c.video in
      let n : List ℕ = item audio c.count in
      let r : c.rate ≤ 11 = leb-true c.rate 11 (both (leb 2 c.rate) (leb c.rate 11) fits.0).1 in
      let m : c.count ≤ 32 = leb-true c.count 32 fits.2 in
      omega (
        arith,
        length-append (a ++ b ++ i ++ v ++ n) newline,
        length-append (a ++ b ++ i ++ v) n,
        length-append (a ++ b ++ i) v,
        length-append (a ++ b) i,
        length-append a b,
        item_small ok_seq c.counter (omega (arith, counter_byte s bytes e)),
        item_small rate c.rate (omega (arith, r)),
        item_small id (cond c.hasid 1 0) (flag_small c.hasid),
        video_small c.rate c.video fits.1,
        item_small audio c.count (omega (arith, m)),
      )

pub bytes_line : (s : List ℕ) → Bytes s → length (reported (reading s)) ≤ 64
unfolding reported refused_text
bytes_line s b =
    chosen (λ (l : List ℕ). length l ≤ 64) (eqb (reading s).number 0) _ _
    (λ e. accepted_small s b (eqb-true (reading s).number 0 e))
    (λ _. omega (arith, length-append (item refused (reading s).number) newline, item_small refused (reading s).number (number_small s)))
