-- The programs of specs/Examples are of their kinds, for every value, bytes or size.
use Prim.Native.Nat.{ℕ, zero, suc, ◌-◌, ◌≤◌, ◌<◌}
use mathlib.Core.Path.{◌≡◌, refl, sym, ap, ◌∙◌}
use mathlib.Core.Bool.{Bool, true, false, ◌&&◌}
use mathlib.Core.List.{List, [], ◌∷◌, ◌++◌, map, append_assoc}
use native.Mathlib.Omega.{arith}
use native.Mathlib.Nat.{not-suc-le-zero}
use lib.Dec.{leb, eqb}
use lib.ListN.{length, get_or, take, drop, replicate, length-append, length-drop, length-map}
use lib.Seq.{take-append_seam, get_or_at, get_or-set_same}
use borrow.Author.Tests.{eqb-true, eqb-false, eq-eqb, ne_eqb, le-leb}
use Rattle.laws.specs.Bytes.{Bytes}
use Rattle.laws.specs.Calls.{over, out_with}
use Rattle.laws.proofs.Bytes.{bytes_nil, bytes_cons, bytes_append}
use Rattle.laws.proofs.Tests.{both, chosen}
use Rattle.rates.specs.Mixes.{mix_listed}
use Rattle.rates.specs.Cadence.{count_occurs}
use Rattle.sampling.specs.Samples.{firsts}
use Rattle.sampling.proofs.Filled.{length_firsts}
use Rattle.picture.specs.declared.Told.{Told}
use Rattle.picture.specs.declared.Told.TheVariants.{Open}
use Rattle.picture.specs.Fields.{told_values}
use Rattle.picture.specs.History.{is_waiting}
use Rattle.container.specs.declared.Print.{Print}
use Rattle.laws.specs.declared.Video.{Video}
use Rattle.laws.specs.declared.Video.TheVariants.{Absent, One, Two}
use Rattle.container.specs.declared.Contents.{Contents}
use Rattle.container.specs.Contents.{blank_print, all_carry, same_count}
use Rattle.container.specs.Bytes.{id_bytes, video_bytes, part_bytes, flag_byte, front_bytes, encode}
use Rattle.container.specs.Reading.{reading}
use Rattle.container.specs.Writing.{all_zero, print_readable, print_blank, prints_readable, readable, write_number, write_out}
use Rattle.container.proofs.Readable.{passes, print_fits}
use Rattle.container_laws.specs.Typed.{TypedPrint, TypedPrints, Typed}
use Rattle.container_laws.proofs.Padded.{padded_zeros, padded_typed}
use Rattle.container_laws.proofs.There.{read_as_written}
use Rattle.demands.specs.Calls.{Setup, Call, line, sound, instant, pack, video_restart, audio_restart, Answer, Event}
use Rattle.session.specs.Packing.{ready_number}
use Rattle.demands.specs.Paper.{waiting, made, audio_after, sounded, contents_said, packed_said, said, said_empty, accepted, paper, transcript}
use Rattle.demands.specs.Demands.{read_again}
use Rattle.session.specs.Session.{rule_listed}
use Rattle.demands.specs.Rules.{by_rule}
use Rattle.demands.specs.Programs.{RightNumbers, bytes_in, RefusesLines, RefusesSound, RefusesInstants, RefusesPacks, TellsAlways, Exchanges, ShowsAlways, Speaks, SpeaksAlways, PacksAlways, IgnoresRule, Forgets, newest, Repeats, Invents, Claims}
use Rattle.demands.specs.Examples.{refusing, with_bytes, bytes_by, altering, telling_by, told_as, telling, told_exchanged, exchanging, shown_as, with_video, showing, print_as, with_audio, speaking, packing, unruled, forgetting, repeating, with_byte, inventing, claiming}
use Rattle.demands.proofs.Listed.{listed}
use Rattle.demands.proofs.Packable.{said_passes, said_typed_as}
use Rattle.demands.proofs.Against.{set_up}

pub refusing_refuses : RefusesLines refusing × RefusesSound refusing × RefusesInstants refusing × RefusesPacks refusing
unfolding refusing said_empty
refusing_refuses = (λ u cs n b e. omega arith, λ u cs k b e. omega arith, λ u cs k i e. omega arith, λ u cs id out e. omega arith)

-- ---- Video: a value told, a value shown

pub telling_tells : (i : ℕ) (v : Setup → ℕ) → i < 3 → TellsAlways i v (telling i v)
unfolding telling telling_by told_as told_values
telling_tells zero v h u cs c w b k e = ap (λ (t : Told). get_or (told_values (told_as 0 (v u) t)) 0 0) e
telling_tells (suc zero) v h u cs c w b k e = ap (λ (t : Told). get_or (told_values (told_as 1 (v u) t)) 1 0) e
telling_tells (suc (suc zero)) v h u cs c w b k e = ap (λ (t : Told). get_or (told_values (told_as 2 (v u) t)) 2 0) e
telling_tells (suc (suc (suc i))) v h u cs c w b k e = absurd (let z : ⊥ = omega arith in z)

pub exchanging_exchanges : Exchanges exchanging
unfolding exchanging telling_by told_exchanged
exchanging_exchanges u cs c w b k e = ap told_exchanged e

-- the container of a program that packs these bytes
module _ (bytes : List ℕ) (id out : List ℕ) (a : Answer) (z : a.number ≡ 0) where
  packed_as : with_bytes bytes (pack id out) a ≡ record { number = 0; told = Open; written = length bytes; out = over bytes out }
  unfolding with_bytes
  packed_as = rw (eq-eqb a.number 0 z) refl

  bytes_in_lem : bytes_in (with_bytes bytes (pack id out) a) ≡ bytes
  unfolding over
  bytes_in_lem = ap bytes_in packed_as ∙ take-append_seam bytes (drop (length bytes) out)

bytes_number : (bytes : List ℕ) (c : Call) (a : Answer) → (with_bytes bytes c a).number ≡ a.number
unfolding with_bytes
bytes_number bytes (line n b) a = refl
bytes_number bytes (sound k b) a = refl
bytes_number bytes (instant k i) a = refl
bytes_number bytes (pack id out) a = chosen (λ (x : Answer). x.number ≡ a.number) (eqb a.number 0) _ _ (λ e. sym (eqb-true a.number 0 e)) (λ _. refl)
bytes_number bytes video_restart a = refl
bytes_number bytes audio_restart a = refl

-- byte 5 of a container with video and no ID
value_at : (w : ℕ) (c : Contents) (out : List ℕ) → c.hasid ≡ false → (c.video ≡ Absent → ⊥) → get_or (over (encode (with_video w c)) out) 5 0 ≡ w
unfolding over encode front_bytes flag_byte part_bytes id_bytes video_bytes with_video shown_as
value_at w c out h some = go c.video refl
  where
    go : (v : Video) → c.video ≡ v → get_or (over (encode (with_video w c)) out) 5 0 ≡ w
    go Absent e = absurd (some e)
    go (One a) e = rw (h, e) refl
    go (Two a b) e = rw (h, e) refl

pub showing_shows : (v : Setup → ℕ) → ShowsAlways v (showing v)
unfolding showing altering bytes_by contents_said
showing_shows v u cs out some l z =
    let es = transcript (showing v) u cs in
    let c : Contents = contents_said u es [] in
    let n = sym (bytes_number (encode (with_video (v u) c)) (pack [] out) (paper u es (pack [] out))) ∙ z in
    ap (λ (a : Answer). get_or a.out 5 0) (packed_as (encode (with_video (v u) c)) [] out (paper u es (pack [] out)) n)
    ∙ value_at (v u) c out refl some

-- ---- A constant container, nothing kept, the first container repeated

pub packing_packs : (bytes : Setup → List ℕ) → PacksAlways bytes (packing bytes)
unfolding packing
packing_packs bytes u cs id out z =
    let a = paper u (transcript (packing bytes) u cs) (pack id out) in
    bytes_in_lem (bytes u) id out a (sym (bytes_number (bytes u) (pack id out) a) ∙ z)

pub packing_numbers : (bytes : Setup → List ℕ) → RightNumbers (packing bytes)
unfolding packing
packing_numbers bytes u cs c = bytes_number (bytes u) c (paper u (transcript (packing bytes) u cs) c)

-- it says the same to the same calls, whichever rule was set up
same_transcript : (u : Setup) (cs : List Call) → transcript unruled (by_rule 2 u) cs ≡ transcript unruled (by_rule 1 u) cs
unfolding transcript unruled by_rule rule_listed
same_transcript u [] = refl
same_transcript u (c ∷ cs) =
    ap (λ (es : List Event). record { call = c; answer = paper (by_rule 1 u) es c } ∷ es) (same_transcript u cs)

pub unruled_ignores : IgnoresRule unruled
unfolding unruled by_rule rule_listed
unruled_ignores u cs c = ap (λ (es : List Event). paper (by_rule 1 u) es c) (same_transcript u cs)

pub forgetting_forgets : Forgets forgetting
unfolding forgetting
forgetting_forgets u cs c = refl

pub repeating_repeats : Repeats repeating
unfolding repeating
repeating_repeats = record {
  works = λ u cs c z. rw (eq-eqb (made (transcript repeating u cs)) 0 z) refl;
  repeats = λ u cs id out m.
      let es = transcript repeating u cs in
      let a = paper u es (pack id out) in
      rw (ne_eqb (made es) 0 m) (λ z. bytes_in_lem (newest es) id out a (sym (bytes_number (newest es) (pack id out) a) ∙ z));
}

pub repeating_numbers : RightNumbers repeating
unfolding repeating
repeating_numbers u cs c =
    let es = transcript repeating u cs in
    chosen (λ (a : Answer). a.number ≡ (paper u es c).number) (eqb (made es) 0) _ _ (λ _. refl) (λ _. bytes_number (newest es) c (paper u es c))

-- ---- An invented byte, an invented size

over_long : (bytes out : List ℕ) → length out ≤ length (over bytes out)
unfolding over
over_long bytes out = simp (length-append, length-drop) (omega arith)

-- Pack leaves no shorter buffer than it was lent
out_long : (u : Setup) (es : List Event) (id out : List ℕ) → length out ≤ length (paper u es (pack id out)).out
unfolding paper said said_empty packed_said write_out out_with
out_long u es id out =
    let c : Contents = contents_said u es id in
    let number : ℕ = ready_number (is_waiting (waiting u.format es)) (length id) in
    chosen (λ (a : Answer). length out ≤ length a.out) (accepted u) (said u es (pack id out)) (said_empty (pack id out))
    (λ _. chosen (λ (a : Answer). length out ≤ length a.out) (eqb number 0) _ _
    (λ _. chosen (λ (x : List ℕ). length out ≤ length x) (eqb (write_number c (length out)) 0) (over (encode c) out) out (λ _. over_long (encode c) out) (λ _. omega arith))
    (λ _. omega arith)) (λ _. omega arith)

pub inventing_invents : (i : ℕ) (x : Setup → ℕ) → Invents i x (inventing i x)
unfolding inventing with_byte
inventing_invents i x u cs out _ _ l z =
    let es = transcript (inventing i x) u cs in
    let a : Answer = paper u es (pack [] out) in
    rw (eq-eqb a.number 0 z) (get_or-set_same a.out i (x u) 0 (omega (arith, out_long u es [] out)))

pub claiming_claims : (n : Setup → ℕ) → Claims n (claiming n)
unfolding claiming
claiming_claims n u cs id out z = rw (eq-eqb (paper u (transcript (claiming n) u cs) (pack id out)).number 0 z) refl

-- ---- A constant audio fingerprint

module _ (xs : ℕ → ℕ) where
  firsts_at : (n i : ℕ) (t : List ℕ) → i < n → get_or (firsts xs n ++ t) i 0 ≡ xs i
  unfolding firsts
  firsts_at zero i t l = absurd (not-suc-le-zero l)
  firsts_at (suc n) i t l = rw (append_assoc (firsts xs n) (xs n ∷ []) t) (go (eqb i n) refl (firsts_at n i (xs n ∷ t)))
    where
      go : (b : Bool) → eqb i n ≡ b → (i < n → get_or (firsts xs n ++ (xs n ∷ t)) i 0 ≡ xs i) → get_or (firsts xs n ++ (xs n ∷ t)) i 0 ≡ xs i
      go true e before = rw (eqb-true i n e) (get_or_at (firsts xs n) (xs n) t 0 n (length_firsts xs n))
      go false e before = let z = eqb-false i n e in before (omega arith)

  -- the first of the fingerprints says xs
  first_speaks : (ps : List Print) (i : ℕ) → i < (get_or (map (print_as xs) ps) 0 blank_print).size → get_or (get_or (map (print_as xs) ps) 0 blank_print).bytes i 0 ≡ xs i
  unfolding print_as
  first_speaks [] i l = absurd (not-suc-le-zero l)
  first_speaks (p ∷ ps) i l = firsts_at p.size i (replicate (5 - p.size) 0) l

  -- the tests of Write ask nothing of the bytes but zeros after them
  print_passes : (rate : ℕ) (p : Print) → print_readable rate p ≡ true → print_readable rate (print_as xs p) ≡ true
  unfolding print_readable print_as
  print_passes rate p e =
      let a = both (leb p.id 31) _ e in
      let b = both (mix_listed p.mix) _ a.1 in
      let c = both (count_occurs rate p.size) _ b.1 in
      let z = padded_zeros p.id p.mix p.size (firsts xs p.size) (length_firsts xs p.size) in
      rw (a.0, b.0, c.0, z) refl

  blank_size : (p : Print) → print_blank p ≡ true → p.size ≡ 0
  unfolding print_blank
  blank_size p e = eqb-true p.size 0 (both (eqb p.size 0) _ (both (eqb p.mix 0) _ (both (eqb p.id 0) _ e).1).1).0

  blank_passes : (p : Print) → print_blank p ≡ true → print_blank (print_as xs p) ≡ true
  unfolding print_blank print_as firsts all_zero
  blank_passes p e =
      let a = both (eqb p.id 0) _ e in
      rw (a.0, (both (eqb p.mix 0) _ a.1).0, blank_size p e) refl

  prints_pass : (rate n : ℕ) (ps : List Print) → prints_readable rate n ps ≡ true → prints_readable rate n (map (print_as xs) ps) ≡ true
  unfolding prints_readable
  prints_pass rate n [] e = refl
  prints_pass rate zero (p ∷ ps) e = let a = both (print_blank p) _ e in rw (blank_passes p a.0, prints_pass rate zero ps a.1) refl
  prints_pass rate (suc n) (p ∷ ps) e = let a = both (print_readable rate p) _ e in rw (print_passes rate p a.0, prints_pass rate n ps a.1) refl

  carry_same : (m n : ℕ) (ps : List Print) → all_carry m (take n (map (print_as xs) ps)) ≡ all_carry m (take n ps)
  unfolding all_carry print_as
  carry_same m zero ps = refl
  carry_same m (suc n) [] = refl
  carry_same m (suc n) (p ∷ ps) = ap (λ (t : Bool). eqb p.size m && t) (carry_same m n ps)

  counts_same : (n : ℕ) (ps : List Print) → same_count (take n (map (print_as xs) ps)) ≡ same_count (take n ps)
  unfolding same_count all_carry print_as
  counts_same zero ps = refl
  counts_same (suc n) [] = refl
  counts_same (suc n) (p ∷ ps) = carry_same p.size (suc n) (p ∷ ps)

  contents_pass : (c : Contents) → readable c ≡ true → readable (with_audio xs c) ≡ true
  unfolding readable with_audio
  contents_pass c e =
      let t = passes c e in
      rw (t.rate, t.id, t.video, le-leb c.count 32 t.many, prints_pass c.rate c.count c.prints t.prints) (counts_same c.count c.prints ∙ t.counts)

  module _ (small : (i : ℕ) → xs i < 256) where
    firsts_bytes : (n : ℕ) → Bytes (firsts xs n)
    unfolding firsts
    firsts_bytes zero = bytes_nil
    firsts_bytes (suc n) = bytes_append (firsts xs n) (xs n ∷ []) (firsts_bytes n) (bytes_cons (xs n) [] (small n) bytes_nil)

    print_typed : (p : Print) → p.size ≤ 5 → TypedPrint (print_as xs p)
    unfolding print_as
    print_typed p l = padded_typed p.id p.mix p.size (firsts xs p.size) (length_firsts xs p.size) l (firsts_bytes p.size)

    prints_typed : (rate n : ℕ) (ps : List Print) → prints_readable rate n ps ≡ true → TypedPrints (map (print_as xs) ps)
    unfolding prints_readable TypedPrints
    prints_typed rate n [] e = tt
    prints_typed rate zero (p ∷ ps) e = let a = both (print_blank p) _ e in (print_typed p (omega (arith, blank_size p a.0)), prints_typed rate zero ps a.1)
    prints_typed rate (suc n) (p ∷ ps) e = let a = both (print_readable rate p) _ e in (print_typed p (print_fits rate p a.0).five, prints_typed rate n ps a.1)

    contents_typed : (c : Contents) → readable c ≡ true → Typed c → Typed (with_audio xs c)
    unfolding with_audio
    contents_typed c e t = record {
      counter = t.counter;
      id_long = t.id_long;
      id = t.id;
      video = t.video;
      many = length-map c.prints (print_as xs) ∙ t.many;
      prints = prints_typed c.rate c.count c.prints (passes c e).prints;
    }

    speaks_xs : (u : Setup) → accepted u ≡ true → (es : List Event) (id : List ℕ) → Bytes id → audio_after u (sounded u es) es ≡ true
        → Speaks xs (reading (encode (with_audio xs (contents_said u es id)))).contents
    unfolding with_audio contents_said
    speaks_xs u a es id b audio =
        let l = listed u a in
        let c : Contents = contents_said u es id in
        let e = said_passes u l es id in
        rw (read_as_written (with_audio xs c) (contents_typed c e (said_typed_as u l es id b)) (contents_pass c e))
        (record { some = rw audio l.some; bytes = first_speaks c.prints })

pub speaking_numbers : (xs : Setup → ℕ → ℕ) → RightNumbers (speaking xs)
unfolding speaking altering
speaking_numbers xs u cs c =
    let es = transcript (speaking xs) u cs in
    bytes_number (bytes_by (with_audio (xs u)) u es c) c (paper u es c)

pub speaking_speaks : (xs : Setup → ℕ → ℕ) → ((u : Setup) (i : ℕ) → xs u i < 256) → SpeaksAlways xs (speaking xs)
unfolding speaking altering bytes_by read_again
speaking_speaks xs small u cs id out b audio z =
    let es = transcript (speaking xs) u cs in
    let bytes = encode (with_audio (xs u) (contents_said u es id)) in
    let n = sym (bytes_number bytes (pack id out) (paper u es (pack id out))) ∙ z in
    rw (bytes_in_lem bytes id out (paper u es (pack id out)) n) (speaks_xs (xs u) (small u) u (set_up u es id out n) es id b audio)
