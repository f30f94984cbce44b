-- What is printed of any file is what 02 says of it: a report that is fed its fields one after the other, and closed.
use Prim.Native.Nat.{ℕ, zero, suc, ◌+◌, ◌-◌, ◌/◌, ◌%◌, ◌≤◌, ◌<◌}
use mathlib.Core.Path.{◌≡◌, refl, sym, ap, ap₂, ◌∙◌}
use mathlib.Core.Bool.{Bool, true, false, cond, ◌&&◌, ◌||◌, not}
use mathlib.Core.List.{List, [], ◌∷◌, ◌++◌, append-nil}
use native.Mathlib.Omega.{arith}
use lib.ListN.{length, take, drop, length-append, length-take}
use lib.Seq.{sets, sets-eq, length-sets, take_at, take-append_seam, take_all}
use lib.Dec.{eqb}
use borrow.Author.Tests.{eq-eqb, ne_eqb, eqb-true, eqb-false, lt-ltb, le-leb}
use Rattle.laws.proofs.Lists.{stored_front}
use Rattle.records.specs.Records.{byte_at, pair_at}
use Rattle.text.specs.Lines.{place_past, item, newline, refused, refused_text}
use Rattle.text.proofs.Pieces.{place_plain}
use Rattle.text.proofs.Spelled.{refused_size}
use Rattle.judging.specs.declared.Faults.{Faults}
use Rattle.judging.specs.declared.report.Report.{Report}
use Rattle.judging.specs.Lines.{packet, counter, rate, count, cadence, clean, fault_text, refusal_text, faults_text}
use Rattle.judging.specs.Report.{field_size, field_number, packet_in, fresh_report, judged, lines_of, refused_at, field_of, field_out, closed_number, closed_text, closed_size, Within}
use Rattle.judging.proofs.Sizes.{faults_size}
use Rattle.judging.proofs.Reports.{refused_before, refused_here, judged_here, whole_field, was_refused, was_empty}
use Rattle.judging_laws.specs.Faults.{accepted_of, faults_of, is_faultless, is_clean, lines, report_of}
use Rattle.judging_laws.specs.Files.{field_with, file_with, file_of, Short, fields_from, fields_of, number_from, file_number, packets_of, judged_text, fed, fed_out, printed, printed_of}
use Rattle.judging_laws.proofs.Kept.{Knows, nothing_known_lem, judged_same}

-- ---- `clean` exactly where there is no line

is_some : (n : ℕ) → 0 < n → eqb n 0 ≡ false
is_some n h = ne_eqb n 0 (λ e. omega (arith, e, h))

none_joined : (xs ys : List ℕ) → eqb (length (xs ++ ys)) 0 ≡ (eqb (length xs) 0 && eqb (length ys) 0)
none_joined [] ys = refl
none_joined (x ∷ xs) ys = rw (is_some (suc (length (xs ++ ys))) (omega arith), is_some (suc (length xs)) (omega arith)) refl

not_or : (s t : Bool) → not (s || t) ≡ (not s && not t)
not_or true t = refl
not_or false t = refl

fault_none : (holds : Bool) (k : ℕ) (name : List ℕ) → 0 < length name → eqb (length (fault_text holds k name)) 0 ≡ not holds
unfolding fault_text
fault_none true k name h = is_some (length (item packet k ++ name)) (omega (arith, h, length-append (item packet k) name))
fault_none false k name h = refl

faultless : (k : ℕ) (f : Faults) → eqb (length (faults_text k f)) 0 ≡ is_faultless f
unfolding faults_text is_faultless refusal_text
faultless k f = go (eqb f.refused 0)
  where
    four : eqb (length (fault_text f.counter k counter ++ fault_text f.rate k rate ++ fault_text f.count k count ++ fault_text f.cadence k cadence)) 0
        ≡ not (f.counter || f.rate || f.count || f.cadence)
    four =
        rw (
          none_joined (fault_text f.counter k counter ++ fault_text f.rate k rate ++ fault_text f.count k count) (fault_text f.cadence k cadence),
          none_joined (fault_text f.counter k counter ++ fault_text f.rate k rate) (fault_text f.count k count),
          none_joined (fault_text f.counter k counter) (fault_text f.rate k rate),
          fault_none f.counter k counter (omega arith),
          fault_none f.rate k rate (omega arith),
          fault_none f.count k count (omega arith),
          fault_none f.cadence k cadence (omega arith),
          not_or (f.counter || f.rate || f.count) f.cadence,
          not_or (f.counter || f.rate) f.count,
          not_or f.counter f.rate,
        ) refl

    go : (t : Bool)
        → eqb (length (cond t (fault_text f.counter k counter ++ fault_text f.rate k rate ++ fault_text f.count k count ++ fault_text f.cadence k cadence) (refusal_text k f.refused))) 0
        ≡ (t && not (f.counter || f.rate || f.count || f.cadence))
    go true = four
    go false = is_some (length (refusal_text k f.refused)) (omega (arith, length-append (item packet k ++ item (32 ∷ refused) f.refused) newline))

pub clean_none : (ps : List (List ℕ)) → eqb (length (lines ps)) 0 ≡ is_clean ps
unfolding lines is_clean
clean_none [] = refl
clean_none (p ∷ before) =
    none_joined (lines before) (faults_text (length before + 1) (faults_of before p))
    ∙ ap₂ (λ (s t : Bool). s && t) (clean_none before) (faultless (length before + 1) (faults_of before p))

-- ---- a report so far

record Reported (before : List (List ℕ)) (r : Report) (out : List ℕ) : Type 0 where
  number : r.number ≡ 0
  packets : r.packets ≡ length before
  knows : Knows (accepted_of before) r.known
  size : r.size ≡ length (lines before)
  front : take r.size out ≡ lines before
  within : Within r
  room : 35500 ≤ length out

none_reported : (out : List ℕ) → 35500 ≤ length out → Reported [] fresh_report out
unfolding fresh_report accepted_of lines
none_reported out h = record { number = refl; packets = refl; knows = nothing_known_lem; size = refl; front = refl; within = record { packets = omega arith; size = omega arith }; room = h }

-- a whole field more
module _ (before : List (List ℕ)) (r : Report) (out f : List ℕ) (o : Reported before r out) (whole : field_number r.packets f ≡ 0) (byte : length f ≡ 0 → ⊥) where
  abbrev text : List ℕ
  text = lines_of r f

  one_of_500 : r.packets < 500
  one_of_500 = (whole_field r.packets f whole).0

  said : text ≡ faults_text (length before + 1) (faults_of before (packet_in f))
  unfolding lines_of
  said = ap₂ (λ (n : ℕ) (x : Faults). faults_text (n + 1) x) o.packets (judged_same before r.known o.knows (packet_in f)).0

  text_size : length text ≤ 71
  unfolding lines_of
  text_size = faults_size (r.packets + 1) (judged r f).faults (omega (arith, one_of_500))

  placed : place_past r.size (length text) ≡ r.size + length text
  placed = place_plain r.size (length text) (omega (arith, text_size, o.within.size, o.within.packets))

  fits : r.size + length text ≤ length out
  fits = omega (arith, text_size, o.within.size, one_of_500, o.room)

  fronted : take (r.size + length text) (sets out r.size text) ≡ lines before ++ text
  fronted =
      ap (take (r.size + length text)) (sets-eq text out r.size fits ∙ ap (λ (l : List ℕ). l ++ text ++ drop (r.size + length text) out) o.front)
      ∙ take_at (lines before ++ text) (drop (r.size + length text) out) (r.size + length text) (omega (arith, length-append (lines before) text, o.size))

  next_reported : Reported (packet_in f ∷ before) (field_of r f) (field_out r f out)
  unfolding lines
  next_reported =
      let a = judged_here r f out o.number byte whole one_of_500 in
      rw (← a.0.0, ← a.0.1) (record {
        number = refl;
        packets = omega (arith, o.packets);
        knows = (judged_same before r.known o.knows (packet_in f)).1;
        size = placed ∙ omega (arith, o.size, length-append (lines before) text) ∙ ap (λ (l : List ℕ). length (lines before ++ l)) said;
        front = ap (λ (n : ℕ). take n (sets out r.size text)) placed ∙ fronted ∙ ap (λ (l : List ℕ). lines before ++ l) said;
        within = a.1 o.within;
        room = omega (arith, o.room, length-sets out r.size text);
      })

-- ---- the end

refused_some : (number : ℕ) → (0 < length (refused_text number)) × (length (refused_text number) ≤ 35500)
unfolding refused_text
refused_some number = (omega (arith, length-append (item refused number) newline), omega (arith, refused_size number))

module _ (r : Report) (out : List ℕ) (room : 35500 ≤ length out) where
  -- text over the front is what is printed
  over_front : (text : List ℕ) → closed_text r ≡ text → 0 < length text → length text ≤ 35500 → printed r out ≡ text
  unfolding printed closed_size
  over_front text e some few = rw (e, is_some (length text) some) (stored_front text out (length text) refl (omega (arith, few, room)))

  closes_refused : (number : ℕ) → closed_number r ≡ number → (number ≡ 0 → ⊥) → printed r out ≡ refused_text number
  unfolding closed_text
  closes_refused number e h =
      let s = refused_some number in
      over_front (refused_text number) (rw (e, ne_eqb number 0 h) refl) s.0 s.1

-- a refused file stays refused, and nothing more is put
module _ (r : Report) (n : r.number ≡ 0 → ⊥) where
  still_refused : (fs : List (List ℕ)) (out : List ℕ) → (fed r fs ≡ r) × (fed_out r fs out ≡ out)
  unfolding fed fed_out
  still_refused [] out = (refl, refl)
  still_refused (f ∷ fs) out =
      let a = refused_before r f out n in
      rw (← a.0.0, ← a.0.1) (still_refused fs out)

-- ---- all fields

-- what is to be printed of packets that came and of fields that come
unfoldable answer : List (List ℕ) → List (List ℕ) → List ℕ
answer before fs =
    cond (eqb (number_from (length before) fs) 0)
    (cond (eqb (length (packets_of before fs)) 0) (refused_text 80) (report_of (packets_of before fs)))
    (refused_text (number_from (length before) fs))

-- packets, and no field more
module _ (before : List (List ℕ)) (r : Report) (out : List ℕ) (o : Reported before r out) where
  no_line : eqb r.size 0 ≡ is_clean before
  no_line = ap (λ (n : ℕ). eqb n 0) o.size ∙ clean_none before

  module _ (some : eqb (length before) 0 ≡ false) where
    taken : closed_number r ≡ 0
    unfolding closed_number
    taken = let f = eqb-false (length before) 0 some in rw (eq-eqb r.number 0 o.number, lt-ltb 0 r.packets (omega (arith, o.packets))) refl

    closes_report : printed r out ≡ report_of before
    unfolding report_of printed closed_size closed_text
    closes_report = go (is_clean before) refl
      where
        go : (t : Bool) → is_clean before ≡ t → printed r out ≡ cond t clean (lines before)
        go true e = over_front r out o.room clean (rw (taken, no_line, e) refl) (omega arith) (omega arith)
        go false e = rw (taken, no_line, e) o.front

  closes : printed r out ≡ answer before []
  unfolding answer number_from packets_of
  closes = go (eqb (length before) 0) refl
    where
      go : (t : Bool) → eqb (length before) 0 ≡ t → printed r out ≡ cond t (refused_text 80) (report_of before)
      go true e = closes_refused r out o.room 80 (was_empty r out o.number (o.packets ∙ eqb-true (length before) 0 e)) (λ z. omega (arith, z))
      go false e = closes_report e

-- each field has a byte
unfoldable Bytewise : List (List ℕ) → Type 0
Bytewise [] = Unit {0}
Bytewise (f ∷ fs) = (length f ≡ 0 → ⊥) × Bytewise fs

prints : (fs before : List (List ℕ)) (r : Report) (out : List ℕ) → Bytewise fs → Reported before r out → printed (fed r fs) (fed_out r fs out) ≡ answer before fs
unfolding fed fed_out Bytewise answer number_from packets_of
prints [] before r out w o = closes before r out o
prints (f ∷ fs) before r out w o =
    go (eqb (field_number (length before) f) 0) refl (λ a. prints fs (packet_in f ∷ before) (field_of r f) (field_out r f out) w.1 a)
  where
    go : (t : Bool) → eqb (field_number (length before) f) 0 ≡ t
        → (Reported (packet_in f ∷ before) (field_of r f) (field_out r f out) → printed (fed (field_of r f) fs) (fed_out (field_of r f) fs (field_out r f out)) ≡ answer (packet_in f ∷ before) fs)
        → printed (fed (field_of r f) fs) (fed_out (field_of r f) fs (field_out r f out)) ≡ answer before (f ∷ fs)
    go true e next = rw e (next (next_reported before r out f o (ap (λ (n : ℕ). field_number n f) o.packets ∙ eqb-true _ 0 e) w.0))
    go false e next =
        let n = ap (λ (k : ℕ). field_number k f) o.packets in
        let some : (field_number r.packets f ≡ 0 → ⊥) = λ z. eqb-false (field_number (length before) f) 0 e (sym n ∙ z) in
        let a = refused_here r f out o.number w.0 some in
        let q = refused_at r f in
        let stays = still_refused q some fs out in
        rw (e, e, ← a.0.0, ← a.0.1, stays.0, stays.1) (closes_refused q out o.room _ (was_refused q out some) some ∙ ap refused_text n)

-- ---- any file

bytewise : (n : ℕ) (s : List ℕ) → Bytewise (fields_from n s)
unfolding fields_from Bytewise field_size
bytewise zero [] = tt
bytewise (suc n) [] = tt
bytewise (suc n) (b ∷ s) = bytewise n s
bytewise zero (b ∷ s) = (λ e. omega (arith, e, length-take (field_size (b ∷ s)) (b ∷ s)), bytewise (field_size (b ∷ s) - 1) s)

packets_many : (before fs : List (List ℕ)) → length (packets_of before fs) ≡ length before + length fs
unfolding packets_of
packets_many before [] = omega arith
packets_many before (f ∷ fs) = packets_many (packet_in f ∷ before) fs ∙ omega arith

answer_file : (s : List ℕ) → answer [] (fields_of s) ≡ judged_text s
unfolding answer judged_text file_number fields_of fields_from number_from packets_of
answer_file [] = refl
answer_file (b ∷ s) =
    let fs : List (List ℕ) = fields_from 0 (b ∷ s) in
    rw (is_some (suc (length s)) (omega arith), is_some (length (packets_of [] fs)) (omega (arith, packets_many [] fs))) refl

-- a buffer of 35,500 bytes is enough for any file
pub as_judged : (s out : List ℕ) → 35500 ≤ length out → printed_of (fields_of s) out ≡ judged_text s
unfolding fields_of
as_judged s out h = prints (fields_of s) [] fresh_report out (bytewise 0 s) (none_reported out h) ∙ answer_file s

-- ---- a file made of packets

passed_over : (xs ys : List ℕ) → fields_from (length xs) (xs ++ ys) ≡ fields_from 0 ys
unfolding fields_from
passed_over [] ys = refl
passed_over (x ∷ xs) ys = passed_over xs ys

module _ (p : List ℕ) (h : length p < 65536) where
  length_told : (s : List ℕ) → pair_at (field_with p ++ s) 1 ≡ length p
  unfolding field_with pair_at byte_at
  length_told s = omega arith

  size_told : (s : List ℕ) → field_size (field_with p ++ s) ≡ length (field_with p)
  unfolding field_size field_with
  size_told s = ap (λ (n : ℕ). 3 + n) (length_told s) ∙ omega arith

  one_field : (rest : List ℕ) → fields_of (field_with p ++ rest) ≡ field_with p ∷ fields_of rest
  unfolding fields_of fields_from field_with
  one_field rest =
      let e = size_told rest in
      let n : field_size (field_with p ++ rest) - 1 ≡ suc (suc (length p)) = omega (arith, e) in
      ap₂ (λ (f : List ℕ) (fs : List (List ℕ)). f ∷ fs)
      (ap (λ (m : ℕ). take m (field_with p ++ rest)) e ∙ take-append_seam (field_with p) rest)
      (ap (λ (m : ℕ). fields_from m (length p / 256 ∷ length p % 256 ∷ p ++ rest)) n ∙ passed_over (length p / 256 ∷ length p % 256 ∷ p) rest)

  its_packet : packet_in (field_with p) ≡ p
  unfolding packet_in field_with
  its_packet =
      ap (λ (n : ℕ). take n (drop 3 (field_with p))) (ap (λ (l : List ℕ). pair_at l 1) (sym (append-nil (field_with p))) ∙ length_told [])
      ∙ take_all (length p) p (omega arith)

  its_number : (k : ℕ) → k < 500 → field_number k (field_with p) ≡ 0
  unfolding field_number field_with byte_at
  its_number k l =
      let e = ap field_size (sym (append-nil (field_with p))) ∙ size_told [] in
      rw (lt-ltb k 500 l, e, le-leb (length (field_with p)) (length (field_with p)) (omega arith)) refl

-- packets, and fields behind them
behind : (ps : List (List ℕ)) (rest : List ℕ) → Short ps → length ps ≤ 500
    → (packets_of [] (fields_of (file_with ps rest)) ≡ packets_of ps (fields_of rest)) × (number_from 0 (fields_of (file_with ps rest)) ≡ number_from (length ps) (fields_of rest))
unfolding file_with Short packets_of number_from
behind [] rest w h = (refl, refl)
behind (p ∷ before) rest w h =
    let b = behind before (field_with p ++ rest) w.1 (omega arith) in
    let e = one_field p w.0 rest in
    let z = its_number p w.0 (length before) (omega arith) in (
      b.0 ∙ ap (packets_of before) e ∙ ap (λ (q : List ℕ). packets_of (q ∷ before) (fields_of rest)) (its_packet p w.0),
      b.1 ∙ ap (number_from (length before)) e ∙ rw z refl,
    )

file_long : (ps : List (List ℕ)) (rest : List ℕ) → length rest ≤ length (file_with ps rest)
unfolding file_with
file_long [] rest = omega arith
file_long (p ∷ before) rest = omega (arith, file_long before (field_with p ++ rest), length-append (field_with p) rest)

file_some : (ps : List (List ℕ)) → 1 ≤ length ps → 0 < length (file_of ps)
unfolding file_with field_with
file_some [] h = absurd (let z : ⊥ = omega arith in z)
file_some (p ∷ before) h = omega (arith, file_long before (field_with p ++ []), length-append (field_with p) [])

-- a file of 1 to 500 packets is not refused, and what is printed of it is the report of its packets
pub of_packets : (ps : List (List ℕ)) → Short ps → 1 ≤ length ps → length ps ≤ 500 → judged_text (file_of ps) ≡ report_of ps
unfolding judged_text file_number packets_of fields_of fields_from number_from
of_packets ps w some few =
    let b = behind ps [] w few in
    rw (is_some (length (file_of ps)) (file_some ps some), none_left ps w few, b.0) (at_end ps)
  where
    at_end : (ps : List (List ℕ)) → report_of (packets_of ps (fields_of [])) ≡ report_of ps
    at_end ps = refl

    none_left : (ps : List (List ℕ)) → Short ps → length ps ≤ 500 → number_from 0 (fields_of (file_of ps)) ≡ 0
    none_left ps w few = (behind ps [] w few).1
