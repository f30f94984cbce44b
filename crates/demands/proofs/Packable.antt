-- What document 01 says that a container holds can be written and read: it passes 29, and its values are as the types make them.
use Prim.Native.Nat.{ℕ, zero, suc, ◌+◌, ◌*◌, ◌%◌, ◌^◌, ◌≤◌, ◌<◌}
use mathlib.Core.Path.{◌≡◌, refl, ap}
use mathlib.Core.Bool.{Bool, true, false, cond, ◌&&◌}
use mathlib.Core.List.{List, [], ◌∷◌, ◌++◌}
use native.Mathlib.Omega.{arith}
use native.Mathlib.Nat.{mod-lt, pow-suc, mul-le-mul_left}
use lib.Dec.{ltb, eqb}
use lib.ListN.{length, take, drop, replicate, length-append, length-drop, length-replicate}
use borrow.Author.Tests.{le-leb, eq-eqb, eqb-true}
use Rattle.laws.specs.Bytes.{Bytes}
use Rattle.laws.proofs.Bytes.{bytes_nil, bytes_cons, bytes_replicate, bytes_append}
use Rattle.laws.proofs.Tests.{both, chosen}
use Rattle.rates.specs.Rates.{pairs_with}
use Rattle.rates.specs.Rates as rates
use Rattle.rates.specs.Mixes.{mix_listed}
use Rattle.rates.specs.Cadence.{cadence, count_occurs}
use Rattle.rates.proofs.Table.{occurs_is, occurs_1_to_5}
use Rattle.sampling.specs.Formats.{row_of}
use Rattle.sampling.proofs.Filled.{sixty}
use Rattle.picture.specs.declared.Told.{Told}
use Rattle.picture.specs.declared.Told.TheVariants.{Open, Nothing, Value}
use Rattle.laws.specs.declared.Video.{Video}
use Rattle.laws.specs.declared.Video.TheVariants as shown
use Rattle.picture.specs.Changed.{Sums}
use Rattle.picture.specs.Lines.{interlaced}
use Rattle.picture.specs.Pictures.{shown_one, shown_two}
use Rattle.picture.specs.History.{field_tells, starts_frame, frame_shows, Waiting, waiting_shows, takes, lines_after, waiting_after}
use Rattle.picture.proofs.Sizes.{Each, fields_sized, tells_sums}
use Rattle.picture.proofs.Sizes as sizes
use Rattle.sound.specs.Filter.{mean_after, envelope_after, bit_of}
use Rattle.fingerprint.specs.History.{up_to, bit_at, bits_from, from_bits, bytes_from}
use Rattle.container.specs.declared.Print as container
use Rattle.container.specs.Contents.{blank_print, all_carry, same_count}
use Rattle.container.specs.Sizes.{Sized}
use Rattle.container.specs.Writing.{all_zero, id_readable, video_readable, print_readable, prints_readable, readable, contents_number}
use Rattle.container.proofs.Readable.{readable_fits}
use Rattle.container.proofs.Bytes.{Shaped, sized}
use Rattle.container_laws.specs.Typed.{TypedPrint, TypedPrints, TypedVideo, Typed}
use Rattle.container_laws.proofs.Padded.{blanks_pass, padded, padded_zeros, padded_typed}
use Rattle.session.specs.Fingerprints.{all_listed, with_blanks}
use Rattle.session.specs.Packing.{id_of}
use Rattle.demands.specs.Calls.{Setup, Call, line, sound, instant, pack, video_restart, audio_restart, Event}
use Rattle.demands.specs.Paper.{lines_at, lines, waiting_at, waiting, made, bytes_due, audio_after, sounded, prints_said, audio_said, contents_said}
use Rattle.demands.proofs.Listed.{Listed, two_at, rate_is_listed, cadence_some}

-- ---- Video: no value above 240, and two only at 25, 29.97 or 30

pub lines_sized : (f : ℕ) (es : List Event) → Each 60 (lines f es)
unfolding lines lines_at lines_after
lines_sized f [] = sizes.none
lines_sized f (e ∷ es) = go e.call (lines_sized f es)
  where
    go : (c : Call) → Each 60 (lines f es) → Each 60 (lines_at f c e.answer (lines f es))
    go (line n b) a = chosen (Each 60) (takes f n e.answer.number) _ _ (λ t. sizes.more (sixty (row_of f) b) a) (λ t. a)
    go (sound k b) a = a
    go (instant k i) a = a
    go (pack id out) a = a
    go video_restart a = sizes.none
    go audio_restart a = a

abbrev ShownFits : ℕ → Video → Type 0
ShownFits rate shown.Absent = Unit {0}
ShownFits rate (shown.One a) = a ≤ 240
ShownFits rate (shown.Two a b) = (a ≤ 240) × (b ≤ 240) × (rates.two_fields rate ≡ true)

tells_before : {fs : List (List ℕ)} → Each 960 fs → Sums (field_tells (drop 1 fs))
tells_before sizes.none = tells_sums {fs = []} sizes.none
tells_before (sizes.more e a) = tells_sums a

one_fits : (rate : ℕ) (t : Told) → Sums t → ShownFits rate (shown_one t)
unfolding shown_one
one_fits rate Open h = tt
one_fits rate Nothing h = tt
one_fits rate (Value v b k) h = omega (arith, h.0, h.1)

two_fit : (rate : ℕ) (t t' : Told) → Sums t → Sums t' → rates.two_fields rate ≡ true → ShownFits rate (shown_two (shown_one t) t')
unfolding shown_one shown_two
two_fit rate Open t' h h' e = tt
two_fit rate Nothing t' h h' e = tt
two_fit rate (Value v b k) Open h h' e = tt
two_fit rate (Value v b k) Nothing h h' e = tt
two_fit rate (Value v b k) (Value v' b' k') h h' e = (omega (arith, h.0, h.1), omega (arith, h'.0, h'.1), e)

module _ (f rate : ℕ) (pairs : pairs_with f rate ≡ true) where
  frame_fits : {fs : List (List ℕ)} → Each 960 fs → ShownFits rate (frame_shows f fs)
  unfolding frame_shows
  frame_fits {fs} a = chosen (ShownFits rate) (interlaced (row_of f)) _ _
      (λ t. two_fit rate (field_tells (drop 1 fs)) (field_tells fs) (tells_before a) (tells_sums a) (two_at f rate pairs t))
      (λ t. one_fits rate (field_tells fs) (tells_sums a))

  abbrev Fits : Waiting → Type 0
  Fits w = ShownFits rate (waiting_shows w)

  pub waiting_fits : (es : List Event) → ShownFits rate (waiting_shows (waiting f es))
  unfolding waiting waiting_at waiting_after waiting_shows
  waiting_fits [] = tt
  waiting_fits (e ∷ es) = go e.call refl (waiting_fits es)
    where
      go : (c : Call) → e.call ≡ c → Fits (waiting f es) → Fits (waiting_at f c e.answer (lines f (e ∷ es)) (waiting f es))
      go (line n b) x w =
          chosen Fits (takes f n e.answer.number && starts_frame f (lines f (e ∷ es))) _ _ (λ _. frame_fits (fields_sized (lines_sized f (e ∷ es)))) (λ _. w)
      go (sound k b) x w = w
      go (instant k i) x w = w
      go (pack id out) x w = chosen Fits (eqb e.answer.number 0) _ _ (λ _. tt) (λ _. w)
      go video_restart x w = w
      go audio_restart x w = w

video_readable_lem : (rate : ℕ) (s : Video) → ShownFits rate s → video_readable rate s ≡ true
unfolding video_readable
video_readable_lem rate shown.Absent h = refl
video_readable_lem rate (shown.One a) h = le-leb a 240 h
video_readable_lem rate (shown.Two a b) h = rw (le-leb a 240 h.0, le-leb b 240 h.1, h.2) refl

video_typed : (rate : ℕ) (s : Video) → ShownFits rate s → TypedVideo s
unfolding TypedVideo
video_typed rate shown.Absent h = tt
video_typed rate (shown.One a) h = omega arith
video_typed rate (shown.Two a b) h = (omega (arith, h.0), omega (arith, h.1))

-- ---- The ID

id_readable_lem : (id : List ℕ) → id_readable (eqb (length id) 20) (id_of id) ≡ true
unfolding id_readable id_of all_zero
id_readable_lem id = go (eqb (length id) 20)
  where
    go : (t : Bool) → cond t true (all_zero (cond t id (replicate 20 0))) ≡ true
    go true = refl
    go false = refl

pub id_long : (id : List ℕ) → length (id_of id) ≡ 20
unfolding id_of
id_long id = chosen (λ (x : List ℕ). length x ≡ 20) (eqb (length id) 20) _ _ (λ e. eqb-true _ _ e) (λ _. refl)

id_bytes_lem : (id : List ℕ) → Bytes id → Bytes (id_of id)
unfolding id_of
id_bytes_lem id b = chosen Bytes (eqb (length id) 20) id (replicate 20 0) (λ _. b) (λ _. bytes_replicate 20 0 (omega arith))

-- ---- Audio

bit_small : (h : List ℕ) → bit_of h ≤ 1
unfolding bit_of
bit_small h = chosen (λ (x : ℕ). x ≤ 1) (ltb (mean_after h) (envelope_after h)) 1 0 (λ _. omega arith) (λ _. omega arith)

byte_small : (b : ℕ → ℕ) → ((i : ℕ) → b i ≤ 1) → (n : ℕ) → from_bits b n < 2 ^ n
unfolding from_bits
byte_small b l zero = omega arith
byte_small b l (suc n) = rw (pow-suc 2 n) (omega (arith, byte_small b l n, mul-le-mul_left (2 ^ n) (l n)))

module _ (d : ℕ) (h : List ℕ) (k : ℕ) where
  pub from_length : (n : ℕ) → length (bytes_from d h k n) ≡ n
  unfolding bytes_from
  from_length zero = refl
  from_length (suc n) = simp length-append (omega (arith, from_length n))

  from_bytes : (n : ℕ) → Bytes (bytes_from d h k n)
  unfolding bytes_from bits_from bit_at
  from_bytes zero = bytes_nil
  from_bytes (suc n) =
      bytes_append (bytes_from d h k n) (from_bits (bits_from d h (k + 8 * n)) 8 ∷ []) (from_bytes n)
      (bytes_cons _ [] (byte_small (bits_from d h (k + 8 * n)) (λ i. bit_small (up_to h ((k + 8 * n + i) * d))) 8) bytes_nil)

module _ (rate d g n : ℕ) (h : ℕ → ℕ → List ℕ) (occurs : count_occurs rate n ≡ true) where
  abbrev print : ℕ → ℕ → container.Print
  print k m = padded k m n (bytes_from d (h m k) g n)

  print_readable_lem : (k m : ℕ) → k < 32 → mix_listed m ≡ true → print_readable rate (print k m) ≡ true
  unfolding print_readable
  print_readable_lem k m l e = rw (le-leb k 31 (omega arith), e, occurs, padded_zeros k m n (bytes_from d (h m k) g n) (from_length d (h m k) g n)) refl

  print_typed : (k m : ℕ) → TypedPrint (print k m)
  print_typed k m = padded_typed k m n (bytes_from d (h m k) g n) (from_length d (h m k) g n) (occurs_1_to_5 rate n occurs).1 (from_bytes d (h m k) g n)

  said_readable : (k : ℕ) (ms : List ℕ) (ps : List container.Print) → k + length ms ≤ 32 → all_listed ms ≡ true → prints_readable rate 0 ps ≡ true
      → prints_readable rate (length ms) (prints_said d g n h k ms ++ ps) ≡ true
  unfolding all_listed prints_readable prints_said
  said_readable k [] ps l e z = z
  said_readable k (m ∷ ms) ps l e z =
      let a = both (mix_listed m) (all_listed ms) e in
      rw (print_readable_lem k m (omega arith) a.0, said_readable (suc k) ms ps (omega arith) a.1 z) refl

  -- "every fingerprint of a container carries the same count" (02, A2): what the cadence asks for
  said_carry : (k : ℕ) (ms : List ℕ) (ps : List container.Print) → all_carry n (take (length ms) (prints_said d g n h k ms ++ ps)) ≡ true
  unfolding all_carry prints_said
  said_carry k [] ps = refl
  said_carry k (m ∷ ms) ps = rw (eq-eqb n n refl) (said_carry (suc k) ms ps)

  said_counts : (k : ℕ) (ms : List ℕ) (ps : List container.Print) → same_count (take (length ms) (prints_said d g n h k ms ++ ps)) ≡ true
  unfolding same_count all_carry prints_said
  said_counts k [] ps = refl
  said_counts k (m ∷ ms) ps = said_carry k (m ∷ ms) ps

  said_typed : (k : ℕ) (ms : List ℕ) (ps : List container.Print) → TypedPrints ps → TypedPrints (prints_said d g n h k ms ++ ps)
  unfolding TypedPrints prints_said
  said_typed k [] ps t = t
  said_typed k (m ∷ ms) ps t = (print_typed k m, said_typed (suc k) ms ps t)

  said_length : (k : ℕ) (ms : List ℕ) → length (prints_said d g n h k ms) ≡ length ms
  unfolding prints_said
  said_length k [] = refl
  said_length k (m ∷ ms) = ap suc (said_length (suc k) ms)

-- the places after them
blank_typed : (j m : ℕ) → TypedPrints (drop j (replicate m blank_print))
unfolding TypedPrints
blank_typed zero zero = tt
blank_typed zero (suc m) = (record { long = refl; bytes = bytes_replicate 5 0 (omega arith) }, blank_typed zero m)
blank_typed (suc j) zero = tt
blank_typed (suc j) (suc m) = blank_typed j m

with_blanks_lem : (ps : List container.Print) → length ps ≤ 32 → length (with_blanks ps) ≡ 32
unfolding with_blanks
with_blanks_lem ps l = simp (length-append, length-drop, length-replicate) (omega arith)

-- ---- The contents
module _ (u : Setup) (l : Listed u) (es : List Event) where
  abbrev due : ℕ
  due = bytes_due u.rate (sounded u es)

  -- "that count occurs in the cadence of the container's rate" (02, A2): it was taken from there
  due_occurs : count_occurs u.rate due ≡ true
  unfolding bytes_due
  due_occurs = (occurs_is u.rate _).1 (record { place = sounded u es % length (cadence u.rate); within = mod-lt (sounded u es) (cadence_some u l); there = refl })

  pub due_fits : (1 ≤ due) × (due ≤ 5)
  due_fits = occurs_1_to_5 u.rate due due_occurs

  abbrev spoken : Bool → List container.Print
  spoken t = cond t (audio_said u (sounded u es) es) []

  spoken_length : (t : Bool) → length (spoken t) ≡ cond t (length u.mixes) 0
  unfolding audio_said
  spoken_length true = said_length u.rate _ _ due _ due_occurs 0 u.mixes
  spoken_length false = refl

  spoken_readable : (t : Bool) → prints_readable u.rate (cond t (length u.mixes) 0) (with_blanks (spoken t)) ≡ true
  unfolding with_blanks audio_said
  spoken_readable true = said_readable u.rate _ _ due _ due_occurs 0 u.mixes _ (omega (arith, l.many)) l.mixes (blanks_pass u.rate 32 (length (spoken true)))
  spoken_readable false = blanks_pass u.rate 32 0

  spoken_counts : (t : Bool) → same_count (take (cond t (length u.mixes) 0) (with_blanks (spoken t))) ≡ true
  unfolding with_blanks audio_said same_count all_carry
  spoken_counts true = said_counts u.rate _ _ due _ due_occurs 0 u.mixes _
  spoken_counts false = refl

  spoken_typed : (t : Bool) → TypedPrints (with_blanks (spoken t))
  unfolding with_blanks audio_said
  spoken_typed true = said_typed u.rate _ _ due _ due_occurs 0 u.mixes _ (blank_typed (length (spoken true)) 32)
  spoken_typed false = blank_typed 0 32

  count_small : (t : Bool) → cond t (length u.mixes) 0 ≤ 32
  count_small true = l.many
  count_small false = omega arith

  prints_32 : (t : Bool) → length (with_blanks (spoken t)) ≡ 32
  prints_32 t = with_blanks_lem (spoken t) (omega (arith, spoken_length t, count_small t))

  pub said_passes : (id : List ℕ) → readable (contents_said u es id) ≡ true
  unfolding readable contents_said
  said_passes id =
      let t : Bool = audio_after u (sounded u es) es in
      rw (
        rate_is_listed u l,
        id_readable_lem id,
        video_readable_lem u.rate _ (waiting_fits u.format u.rate l.pairs es),
        le-leb _ 32 (count_small t),
        spoken_readable t,
        spoken_counts t,
      ) refl

  pub said_typed_as : (id : List ℕ) → Bytes id → Typed (contents_said u es id)
  unfolding contents_said
  said_typed_as id b = record {
    counter = mod-lt (made es) (omega arith);
    id_long = id_long id;
    id = id_bytes_lem id b;
    video = video_typed u.rate _ (waiting_fits u.format u.rate l.pairs es);
    many = prints_32 (audio_after u (sounded u es) es);
    prints = spoken_typed (audio_after u (sounded u es) es);
  }

  shaped : (id : List ℕ) → Shaped (contents_said u es id)
  unfolding contents_said
  shaped id = record { id = id_long id; prints = prints_32 (audio_after u (sounded u es) es) }

  pub said_sized : (id : List ℕ) → Sized (contents_said u es id)
  said_sized id = let c = contents_said u es id in sized c (shaped id) (readable_fits c (shaped id).prints (said_passes id))

  -- not 29
  pub said_writes : (id : List ℕ) → contents_number (contents_said u es id) ≡ 0
  unfolding contents_number
  said_writes id = rw (said_passes id) refl
