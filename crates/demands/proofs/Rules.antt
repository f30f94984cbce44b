-- The rule shows in the audio bits of a container, and in nothing else.
use Prim.Native.Nat.{ℕ, zero, suc, ◌+◌, ◌-◌}
use mathlib.Core.Path.{◌≡◌, refl, sym, ap, ap₂, subst, ◌∙◌}
use mathlib.Core.Bool.{Bool, true, false, cond, ◌&&◌}
use mathlib.Core.List.{List, [], ◌∷◌, ◌++◌, map, map-append}
use native.Mathlib.Omega.{arith}
use lib.Dec.{eqb, ltb}
use lib.ListN.{length, get_or, take, drop, replicate, length-append, length-map}
use lib.Seq.{drop_at}
use Rattle.laws.specs.Calls.{over, room_number, done_with, out_with}
use Rattle.rates.specs.Rates.{interval_of}
use Rattle.picture.specs.declared.Told.TheVariants.{Open}
use Rattle.picture.specs.History.{Waiting, is_waiting}
use Rattle.floats.specs.declared.Instant.{Instant}
use Rattle.fingerprint.specs.State.{values_of}
use Rattle.fingerprint.specs.History.{kept_bits, bytes_from}
use Rattle.fingerprint.specs.Paper.{sound_answer, instant_answer, held_answer}
use Rattle.fingerprint.proofs.Steps.{length_values}
use Rattle.container.specs.declared.Print.{Print}
use Rattle.container.specs.declared.Contents.{Contents}
use Rattle.container.specs.Reading.{Reading}
use Rattle.container.specs.Contents.{blanks}
use Rattle.container.specs.Bytes.{print_bytes, run_bytes, audio_bytes, encode}
use Rattle.container.specs.Writing.{contents_number, write_number, write_done, write_out}
use Rattle.container.proofs.Bytes.{parts_length, encode_length}
use Rattle.session.specs.Fingerprints.{with_blanks}
use Rattle.session.specs.Packing.{ready_number}
use Rattle.demands.specs.Calls.{Setup, Call, line, sound, instant, pack, video_restart, audio_restart, Answer, Event}
use Rattle.demands.specs.Paper.{lines_at, lines, waiting_at, waiting, samples_at, samples, made_at, made, bytes_due, bits_packed, every_holds, audio_after, sounded_at, sounded, prints_said, audio_said, contents_said, line_said, sound_said, instant_said, packed_said, said, accepted, Program, transcript}
use Rattle.demands.specs.Demands.{Demand2}
use Rattle.demands.proofs.Against.{as_said}
use Rattle.demands.proofs.Bits.{said_back}
use Rattle.demands.proofs.Listed.{Listed, listed}
use Rattle.demands.proofs.Packable.{from_length, said_writes}
use Rattle.demands.specs.Rules.{by_rule, hushed, without_bits, SameContainer, SameButBits}

-- ---- contents without their audio bits

blanks_hushed : (ps qs : List Print) → map hushed ps ≡ map hushed qs → map hushed (with_blanks ps) ≡ map hushed (with_blanks qs)
unfolding with_blanks
blanks_hushed ps qs e =
    let l : length ps ≡ length qs = sym (length-map ps hushed) ∙ (ap length e ∙ length-map qs hushed) in
    map-append hushed ps (blanks (length ps)) ∙ (ap₂ ◌++◌ e (ap (λ (n : ℕ). map hushed (blanks n)) l) ∙ sym (map-append hushed qs (blanks (length qs))))

prints_hushed : (d g n : ℕ) (h x : ℕ → ℕ → List ℕ) (k : ℕ) (ms : List ℕ) → map hushed (prints_said d g n h k ms) ≡ map hushed (prints_said d g n x k ms)
unfolding prints_said hushed
prints_hushed d g n h x k [] = refl
prints_hushed d g n h x k (m ∷ ms) =
    let e : length (bytes_from d (h m k) g n ++ replicate (5 - n) 0) ≡ length (bytes_from d (x m k) g n ++ replicate (5 - n) 0) =
    as_long (bytes_from d (h m k) g n) (bytes_from d (x m k) g n) (replicate (5 - n) 0) (from_length d (h m k) g n ∙ sym (from_length d (x m k) g n)) in
    ap₂ (λ (l : ℕ) (ps : List Print). record { id = k; mix = m; size = n; bytes = replicate l 0 } ∷ ps) e (prints_hushed d g n h x (suc k) ms)
  where
    as_long : (xs ys zs : List ℕ) → length xs ≡ length ys → length (xs ++ zs) ≡ length (ys ++ zs)
    as_long xs ys zs e = length-append xs zs ∙ (ap (λ (l : ℕ). l + length zs) e ∙ sym (length-append ys zs))

-- a container is as long without them
take_hushed : (n : ℕ) (l : List ℕ) → length (take n l) ≡ length {A = ℕ} (take n (replicate (length l) 0))
take_hushed zero l = refl
take_hushed (suc n) [] = refl
take_hushed (suc n) (x ∷ l) = ap suc (take_hushed n l)

run_hushed : (n : ℕ) (ps : List Print) → length (run_bytes (take n ps)) ≡ length (run_bytes (take n (map hushed ps)))
unfolding run_bytes print_bytes hushed
run_hushed zero ps = refl
run_hushed (suc n) [] = refl
run_hushed (suc n) (p ∷ ps) =
    length-append (print_bytes p) _ ∙ (ap₂ ◌+◌ (ap (λ (l : ℕ). suc (suc l)) (take_hushed p.size p.bytes)) (run_hushed n ps) ∙ sym (length-append (print_bytes (hushed p)) _))

audio_hushed : (n : ℕ) (ps : List Print) → length (audio_bytes n ps) ≡ length (audio_bytes n (map hushed ps))
unfolding audio_bytes
audio_hushed zero ps = refl
audio_hushed (suc n) ps = ap suc (run_hushed (suc n) ps)

long_hushed : (c : Contents) → length (encode c) ≡ length (encode (without_bits c))
unfolding without_bits
long_hushed c =
    omega (arith, encode_length c, parts_length c, encode_length (without_bits c), parts_length (without_bits c), audio_hushed c.count c.prints)

-- ---- two answers

record Answered (x y : Answer) : Type 0 where
  number : x.number ≡ y.number
  told : x.told ≡ y.told
  written : x.written ≡ y.written
  rest : drop x.written x.out ≡ drop y.written y.out

-- bytes that are handed out, or have too little room; as many of them are answered alike
abbrev handed : List ℕ → List ℕ → Bool → Answer
handed bytes out short = record {
  number = cond short 12 0;
  told = Open;
  written = cond (eqb (cond short 12 0) 0) (length bytes) 0;
  out = cond (eqb (cond short 12 0) 0) (bytes ++ drop (length bytes) out) out;
}

handed_alike : (xs ys out : List ℕ) → length xs ≡ length ys → (short : Bool) → Answered (handed xs out short) (handed ys out short)
handed_alike xs ys out e true = record { number = refl; told = refl; written = refl; rest = refl }
handed_alike xs ys out e false = record {
  number = refl;
  told = refl;
  written = e;
  rest = drop_at xs _ _ refl ∙ (ap (λ (n : ℕ). drop n out) e ∙ sym (drop_at ys _ _ refl));
}

-- contents that pass 29, packed into one buffer
handed_same : (number : ℕ) (c e : Contents) (out : List ℕ) → contents_number c ≡ 0 → contents_number e ≡ 0 → length (encode c) ≡ length (encode e)
    → Answered (packed_said number c out) (packed_said number e out)
unfolding packed_said write_done write_out write_number done_with out_with room_number over
handed_same number c e out p q l = rw (p, q) (go (eqb number 0))
  where
    go : (ready : Bool)
        → Answered (cond ready (handed (encode c) out (ltb (length out) (length (encode c)))) (record { number = number; told = Open; written = 0; out = out }))
        (cond ready (handed (encode e) out (ltb (length out) (length (encode e)))) (record { number = number; told = Open; written = 0; out = out }))
    go true = rw (ap (ltb (length out)) l) (handed_alike (encode c) (encode e) out l (ltb (length out) (length (encode e))))
    go false = record { number = refl; told = refl; written = refl; rest = refl }

-- ---- two histories by two rules, with as many samples of each fingerprint

held_same : (d taken n : ℕ) (h x : List ℕ) → length h ≡ length x → held_answer d h taken n ≡ held_answer d x taken n
unfolding held_answer kept_bits
held_same d taken n h x e = rw e refl

every_same : (d taken n : ℕ) (h x : ℕ → ℕ → List ℕ) → ((m j : ℕ) → length (h m j) ≡ length (x m j)) → (k : ℕ) (ms : List ℕ)
    → every_holds d taken n h k ms ≡ every_holds d taken n x k ms
unfolding every_holds
every_same d taken n h x e k [] = refl
every_same d taken n h x e k (m ∷ ms) = ap₂ ◌&&◌ (held_same d taken n (h m k) (x m k) (e m k)) (every_same d taken n h x e (suc k) ms)

module _ (u : Setup) (rule : ℕ) where
  abbrev v : Setup
  v = by_rule rule u

  record Same (es xs : List Event) : Type 0 where
    taken : lines u.format es ≡ lines u.format xs
    waits : waiting u.format es ≡ waiting u.format xs
    packed : made es ≡ made xs
    long : (m k : ℕ) → length (samples u.rule es m k) ≡ length (samples rule xs m k)
    spoken : sounded u es ≡ sounded v xs

  start : Same [] []
  unfolding lines waiting made samples sounded
  start = record { taken = refl; waits = refl; packed = refl; long = λ m k. refl; spoken = refl }

  module _ {es xs : List Event} (o : Same es xs) where
    audio_same : (p : ℕ) → audio_after u p es ≡ audio_after v p xs
    unfolding audio_after by_rule
    audio_same p = every_same (interval_of u.rate) (bits_packed u.rate p) (bytes_due u.rate p) (samples u.rule es) (samples rule xs) o.long 0 u.mixes

    -- one event more, with the same number
    heard_same : (t : Bool) (ys zs : List ℕ) (m k : ℕ) → length ys ≡ length zs
        → length (cond t (ys ++ samples u.rule es m k) (samples u.rule es m k)) ≡ length (cond t (zs ++ samples rule xs m k) (samples rule xs m k))
    heard_same true ys zs m k e = length-append ys _ ∙ (ap₂ ◌+◌ e (o.long m k) ∙ sym (length-append zs _))
    heard_same false ys zs m k e = o.long m k

    next : (c : Call) (a b : Answer) → a.number ≡ b.number → Same (record { call = c; answer = a } ∷ es) (record { call = c; answer = b } ∷ xs)
    unfolding lines lines_at waiting waiting_at made made_at samples samples_at sounded sounded_at values_of
    next (line n l) a b e = record {
      taken = rw (e, o.taken) refl;
      waits = rw (e, o.taken, o.waits) refl;
      packed = o.packed;
      long = o.long;
      spoken = o.spoken;
    }
    next (sound k l) a b e = record {
      taken = o.taken;
      waits = o.waits;
      packed = o.packed;
      long = λ m j. rw e (heard_same (eqb b.number 0 && eqb k j) (values_of u.rule m l) (values_of rule m l) m j (length_values u.rule m l 0 _ ∙ sym (length_values rule m l 0 _)));
      spoken = o.spoken;
    }
    next (instant k i) a b e = record {
      taken = o.taken;
      waits = o.waits;
      packed = o.packed;
      long = λ m j. rw e (heard_same (eqb b.number 0 && eqb k j) (_ ∷ []) (_ ∷ []) m j refl);
      spoken = o.spoken;
    }
    next (pack id out) a b e = record {
      taken = o.taken;
      waits = rw (e, o.waits) refl;
      packed = rw (e, o.packed) refl;
      long = o.long;
      spoken = rw (e, o.spoken, audio_same (sounded v xs)) refl;
    }
    next video_restart a b e = record { taken = refl; waits = o.waits; packed = o.packed; long = o.long; spoken = o.spoken }
    next audio_restart a b e = record { taken = o.taken; waits = o.waits; packed = o.packed; long = λ m k. refl; spoken = refl }

    -- ---- what each call answers

    audio_said_lem : (p : ℕ) → map hushed (audio_said u p es) ≡ map hushed (audio_said v p xs)
    unfolding audio_said by_rule
    audio_said_lem p = prints_hushed (interval_of u.rate) (bits_packed u.rate p) (bytes_due u.rate p) (samples u.rule es) (samples rule xs) 0 u.mixes

    without_same : (id : List ℕ) → without_bits (contents_said u es id) ≡ without_bits (contents_said v xs id)
    unfolding without_bits contents_said by_rule
    without_same id = rw (o.packed, o.waits, o.spoken, audio_same (sounded v xs), prints_same (audio_after v (sounded v xs) xs)) refl
      where
        prints_same : (t : Bool) → map hushed (with_blanks (cond t (audio_said u (sounded v xs) es) [])) ≡ map hushed (with_blanks (cond t (audio_said v (sounded v xs) xs) []))
        prints_same true = blanks_hushed _ _ (audio_said_lem (sounded v xs))
        prints_same false = refl

    sound_same : (k : ℕ) (b : List ℕ) → sound_said u es k b ≡ sound_said v xs k b
    unfolding sound_said sound_answer by_rule
    sound_same k b = rw (o.long (get_or u.mixes k 0) k, o.spoken) refl

    instant_same : (k : ℕ) (i : Instant) → instant_said u es k i ≡ instant_said v xs k i
    unfolding instant_said instant_answer by_rule
    instant_same k i = rw (o.long (get_or u.mixes k 0) k, o.spoken) refl

    module _ (l : Listed u) (m : Listed v) where
      long_same : (id : List ℕ) → length (encode (contents_said u es id)) ≡ length (encode (contents_said v xs id))
      long_same id = long_hushed (contents_said u es id) ∙ (ap (λ (c : Contents). length (encode c)) (without_same id) ∙ sym (long_hushed (contents_said v xs id)))

      pack_same : (id out : List ℕ) → Answered (said u es (pack id out)) (said v xs (pack id out))
      unfolding said by_rule
      pack_same id out =
          subst (λ (w : Waiting). Answered (packed_said (ready_number (is_waiting w) (length id)) (contents_said u es id) out) (said v xs (pack id out))) (sym o.waits)
          (handed_same (ready_number (is_waiting (waiting u.format xs)) (length id)) (contents_said u es id) (contents_said v xs id) out
          (said_writes u l es id) (said_writes v m xs id) (long_same id))

      said_same : (c : Call) → SameButBits c (said u es c) (said v xs c)
      unfolding SameContainer said line_said by_rule
      said_same (line n b) = rw (o.taken, o.waits) (record { number = refl; told = refl; written = refl; rest = refl; container = tt })
      said_same (sound k b) = rw (sound_same k b) (record { number = refl; told = refl; written = refl; rest = refl; container = tt })
      said_same (instant k i) = rw (instant_same k i) (record { number = refl; told = refl; written = refl; rest = refl; container = tt })
      said_same (pack id out) =
          let a = pack_same id out in
          record {
            number = a.number;
            told = a.told;
            written = a.written;
            rest = a.rest;
            container = λ b z.
                ap (λ (r : Reading). without_bits r.contents) (said_back u l es id out b z)
                ∙ (without_same id ∙ sym (ap (λ (r : Reading). without_bits r.contents) (said_back v m xs id out b (sym a.number ∙ z))));
          }
      said_same video_restart = record { number = refl; told = refl; written = refl; rest = refl; container = tt }
      said_same audio_restart = record { number = refl; told = refl; written = refl; rest = refl; container = tt }

-- ---- any calls, of any program that has demand 2

module _ (p : Program) (d : Demand2 p) (u : Setup) (rule : ℕ) (a : accepted u ≡ true) (b : accepted (by_rule rule u) ≡ true) where
  histories : (cs : List Call) → Same u rule (transcript p u cs) (transcript p (by_rule rule u) cs)
  unfolding transcript
  histories [] = start u rule
  histories (c ∷ cs) =
      let o = histories cs in
      next u rule o c _ _
      (ap (λ (x : Answer). x.number) (as_said p d u a cs c)
      ∙ ((said_same u rule o (listed u a) (listed (by_rule rule u) b) c).number ∙ sym (ap (λ (x : Answer). x.number) (as_said p d (by_rule rule u) b cs c))))

  pub same_but_bits : (cs : List Call) (c : Call) → SameButBits c (p u (transcript p u cs) c) (p (by_rule rule u) (transcript p (by_rule rule u) cs) c)
  same_but_bits cs c =
      rw (as_said p d u a cs c, as_said p d (by_rule rule u) b cs c) (said_same u rule (histories cs) (listed u a) (listed (by_rule rule u) b) c)
