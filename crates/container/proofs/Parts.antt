-- Laws of reading: what a right fingerprint and a header with no fault say, how many bytes a part takes, and the outcome from the parts' outcomes.
use Prim.Native.Nat.{ℕ, zero, suc, ◌+◌, ◌-◌, ◌/◌, ◌%◌, ◌≤◌, ◌<◌}
use mathlib.Core.List.{List, ◌++◌}
use mathlib.Core.Path.{◌≡◌, refl, ap, sym, subst, ◌∙◌}
use mathlib.Core.Bool.{Bool, true, false, cond}
use native.Mathlib.Omega.{arith}
use lib.ListN.{length, get_or, take, drop, replicate, length-drop}
use lib.Dec.{leb, ltb, eqb}
use borrow.Author.Tests.{leb-true, ltb-true, eqb-true, eqb-false, eq-eqb, ne_eqb}
use Rattle.laws.specs.Sums.{sum}
use Rattle.std.specs.Prelude.{Option, None, Some}
use Rattle.std.specs.Option.{IfSome, unwrap_or, option_map}
use Rattle.laws.proofs.Lists.{tail_part}
use Rattle.laws.proofs.Tests.{tests, past, chosen}
use Rattle.rates.specs.Rates.{rate_listed, two_fields}
use Rattle.rates.specs.Mixes.{mix_listed}
use Rattle.rates.specs.Cadence.{count_occurs}
use Rattle.container.specs.declared.IdPart.{IdPart}
use Rattle.container.specs.declared.VideoPart.{VideoPart}
use Rattle.container.specs.declared.PrintPart.{PrintPart}
use Rattle.container.specs.Reading.{Reading}
use Rattle.container.specs.declared.AudioPart.{AudioPart}
use Rattle.container.specs.Contents.{blank_print, blanks, same_count}
use Rattle.container.specs.Parts.{with_part, id_part, one_field, both_fields, video_part, print_part, print_at, Run, then, run_of, audio_of, audio_part}
use Rattle.container.specs.Reading.{header_number, refusal, parts_say, id_in, video_in, audio_in, parts_reading}

-- ---- a part that may be wrong

pub some_is : {A : Type 0} (x y : A) → Some x ≡ Some y → x ≡ y
some_is x y e = ap (λ o. unwrap_or o x) e

pub none_some : {A : Type 0} (x : A) → None ≡ Some x → ⊥
none_some x e = cc

-- a choice between a part and none that came to a part
held_part : {A : Type 0} (t : Bool) (o : Option A) (x : A) → cond t o None ≡ Some x → (t ≡ true) × (o ≡ Some x)
held_part true o x e = (refl, e)
held_part false o x e = absurd (none_some x e)

-- what of a part was found, and the part
pub record Mapped {A B : Type 0} (f : A → B) (o : Option A) (y : B) : Type 0 where
  pub part : A
  pub is : o ≡ Some part
  pub gives : f part ≡ y

pub map_some : {A B : Type 0} (f : A → B) (o : Option A) (y : B) → option_map f o ≡ Some y → Mapped f o y
map_some f None y e = absurd (none_some y e)
map_some f (Some x) y e = record { part = x; is = refl; gives = some_is (f x) y e }

pub map_none : {A B : Type 0} (f : A → B) (o : Option A) → option_map f o ≡ None → o ≡ None
map_none f None e = refl
map_none f (Some x) e = absurd (none_some (f x) (sym e))

-- a fact of each part, for the one that was read
pub of_part : {A : Type 0} (P : A → Type 0) (o : Option A) (x : A) → o ≡ Some x → IfSome o P → P x
of_part P o x e h = let Q : Option _ → Type 0 = λ o. IfSome o P in subst Q e h

-- a fact of what follows of a part
pub part_cases : {A B : Type 0} (P : B → Type 0) (o : Option A) (wrong : B) (f : A → B) → P wrong → ((x : A) → o ≡ Some x → P (f x)) → P (with_part o wrong f)
part_cases P None wrong f n s = n
part_cases P (Some x) wrong f n s = s x refl

-- ---- the header

pub record HeaderRight (s : List ℕ) : Type 0 where
  pub five : 5 ≤ length s
  pub version : get_or s 0 0 ≡ 0
  pub counted : length s ≡ get_or s 2 0 + 3
  pub check : sum s % 256 ≡ 0
  pub rate : rate_listed (get_or s 3 0 / 16) ≡ true
  pub bit_3 : get_or s 3 0 % 16 < 8

pub header_right : (s : List ℕ) → header_number s ≡ 0 → HeaderRight s
unfolding header_number
header_right s e =
    let q₀ = past (leb 5 (length s)) 20 _ e (omega arith) in
    let q₁ = past (eqb (get_or s 0 0) 0) 21 _ q₀.1 (omega arith) in
    let q₂ = past (eqb (length s) (get_or s 2 0 + 3)) 22 _ q₁.1 (omega arith) in
    let q₃ = past (eqb (sum s % 256) 0) 23 _ q₂.1 (omega arith) in
    let q₄ = past (rate_listed (get_or s 3 0 / 16)) 24 _ q₃.1 (omega arith) in
    let q₅ = past (ltb (get_or s 3 0 % 16) 8) 24 _ q₄.1 (omega arith) in
    record {
      five = leb-true _ _ q₀.0;
      version = eqb-true _ _ q₁.0;
      counted = eqb-true _ _ q₂.0;
      check = eqb-true _ _ q₃.0;
      rate = q₄.0;
      bit_3 = ltb-true _ _ q₅.0;
    }

pub header_0 : (s : List ℕ) → HeaderRight s → header_number s ≡ 0
unfolding header_number
header_0 s r =
    let five = r.five in
    let version = r.version in
    let counted = r.counted in
    let check = r.check in
    let bit_3 = r.bit_3 in
    simp (tests, r.rate)

-- ---- one fingerprint

pub record PrintRight (rate : ℕ) (b : List ℕ) : Type 0 where
  pub two : 2 ≤ length b
  pub mix : mix_listed (get_or b 0 0 % 8) ≡ true
  pub low : get_or b 1 0 % 8 ≡ 0
  pub occurs : count_occurs rate (get_or b 1 0 / 8) ≡ true
  pub fits : get_or b 1 0 / 8 + 2 ≤ length b

pub print_is : (rate : ℕ) (b : List ℕ) → PrintRight rate b → print_part rate b ≡ Some (print_at b)
unfolding print_part
print_is rate b r =
    let two = r.two in
    let low = r.low in
    let fits = r.fits in
    simp (tests, r.mix, r.occurs)

-- one that was read is right, and is what stands there
pub print_right : (rate : ℕ) (b : List ℕ) (p : PrintPart) → print_part rate b ≡ Some p → PrintRight rate b
unfolding print_part
print_right rate b p e =
    let q₁ = held_part (leb 2 (length b)) _ p e in
    let q₂ = held_part (mix_listed (get_or b 0 0 % 8)) _ p q₁.1 in
    let q₃ = held_part (eqb (get_or b 1 0 % 8) 0) _ p q₂.1 in
    let q₄ = held_part (count_occurs rate (get_or b 1 0 / 8)) _ p q₃.1 in
    let q₅ = held_part (leb (get_or b 1 0 / 8 + 2) (length b)) _ p q₄.1 in
    record {
      two = leb-true _ _ q₁.0;
      mix = q₂.0;
      low = eqb-true _ _ q₃.0;
      occurs = q₄.0;
      fits = leb-true _ _ q₅.0;
    }

pub print_said : (rate : ℕ) (b : List ℕ) (p : PrintPart) → print_part rate b ≡ Some p → p ≡ print_at b
print_said rate b p e = some_is p (print_at b) (sym e ∙ print_is rate b (print_right rate b p e))

-- ---- a run, by its first fingerprint

pub record FirstOf (rate n : ℕ) (b : List ℕ) (r : Run) : Type 0 where
  pub first : PrintPart
  pub rest : Run
  pub first_is : print_part rate b ≡ Some first
  pub rest_is : run_of rate n (drop first.used b) ≡ Some rest
  pub whole : r ≡ then first rest

pub first_of : (rate n : ℕ) (b : List ℕ) (r : Run) → run_of rate (suc n) b ≡ Some r → FirstOf rate n b r
unfolding run_of
first_of rate n b r e = go (print_part rate b) refl e
  where
    go : (o : Option PrintPart) → print_part rate b ≡ o → with_part o None (λ p. option_map (then p) (run_of rate n (drop p.used b))) ≡ Some r → FirstOf rate n b r
    go None f h = absurd (none_some r h)
    go (Some p) f h =
        let m = map_some (then p) (run_of rate n (drop p.used b)) r h in
        record { first = p; rest = m.part; first_is = f; rest_is = m.is; whole = sym m.gives }

-- ---- no part takes more bytes than there are

pub print_used : (rate : ℕ) (b : List ℕ) (p : PrintPart) → print_part rate b ≡ Some p → p.used ≤ length b
unfolding print_at
print_used rate b p e = rw (print_said rate b p e) (print_right rate b p e).fits

pub run_used : (rate n : ℕ) (b : List ℕ) (r : Run) → run_of rate n b ≡ Some r → r.used ≤ length b
unfolding run_of
run_used rate zero b r e = rw (sym (some_is _ r e)) (omega arith)
run_used rate (suc n) b r e =
    let q = first_of rate n b r e in
    let u = print_used rate b q.first q.first_is in
    let v = run_used rate n (drop q.first.used b) q.rest q.rest_is in
    rw q.whole (omega (arith, u, rw length-drop at v))

pub id_used : (flag : ℕ) (b : List ℕ) → IfSome (id_part flag b) (λ p. p.used ≤ length b)
unfolding id_part
id_used flag b =
    let P : Option IdPart → Type 0 = λ o. IfSome o (λ p. p.used ≤ length b) in
    chosen P (eqb flag 0) _ _ (λ _. omega arith)
    (λ _. chosen P (leb 21 (length b)) _ _
    (λ e. chosen P (eqb (get_or b 0 0) 0) _ _ (λ _. leb-true _ _ e) (λ _. tt))
    (λ _. tt))

pub video_used : (flag rate : ℕ) (b : List ℕ) → IfSome (video_part flag rate b) (λ p. p.used ≤ length b)
unfolding video_part one_field both_fields
video_used flag rate b =
    let P : Option VideoPart → Type 0 = λ o. IfSome o (λ p. p.used ≤ length b) in
    chosen P (eqb flag 0) _ _ (λ _. omega arith)
    (λ _. chosen P (leb 2 (length b)) _ _
    (λ e₂. chosen P (eqb (get_or b 0 0) 0x09) _ _
    (λ _. chosen P (leb (get_or b 1 0) 240) _ _ (λ _. leb-true _ _ e₂) (λ _. tt))
    (λ _. chosen P (eqb (get_or b 0 0) 0x11) _ _
    (λ _. chosen P (two_fields rate) _ _
    (λ _. chosen P (leb 3 (length b)) _ _
    (λ e₃. chosen P (leb (get_or b 1 0) 240) _ _
    (λ _. chosen P (leb (get_or b 2 0) 240) _ _ (λ _. leb-true _ _ e₃) (λ _. tt)) (λ _. tt)) (λ _. tt)) (λ _. tt)) (λ _. tt)))
    (λ _. tt))

-- ---- the audio part, by the ways that it is read

abbrev pub count_in : List ℕ → ℕ
count_in b = get_or b 0 0 / 8 + 1

abbrev pub run_in : ℕ → List ℕ → Option Run
run_in rate b = run_of rate (count_in b) (drop 1 b)

-- it is there and right
pub record Heard (flag rate : ℕ) (b : List ℕ) : Type 0 where
  pub flagged : flag ≡ 0 → ⊥
  pub some : 1 ≤ length b
  pub form : get_or b 0 0 % 8 ≡ 2
  pub run : Run
  pub run_is : run_in rate b ≡ Some run
  pub counts : same_count run.list ≡ true

-- a fact about it, from the fact where it is absent, wrong, or there and right
pub audio_cases : (P : Option AudioPart → Type 0) (flag rate : ℕ) (b : List ℕ)
    → (flag ≡ 0 → P (Some (record { used = 0; count = 0; prints = replicate 32 blank_print }))) → P None
    → ((h : Heard flag rate b) → P (Some (record { used = h.run.used + 1; count = count_in b; prints = h.run.list ++ blanks (count_in b) })))
    → P (audio_part flag rate b)
unfolding audio_part audio_of
audio_cases P flag rate b absent wrong right =
    chosen P (eqb flag 0) _ _ (λ f. absent (eqb-true flag 0 f))
    (λ f. chosen P (leb 1 (length b)) _ _
    (λ l. chosen P (eqb (get_or b 0 0 % 8) 2) _ _
    (λ q. part_cases P (run_in rate b) None _ wrong
    (λ r e. chosen P (same_count r.list) _ _
    (λ c. right (record { flagged = eqb-false flag 0 f; some = leb-true 1 (length b) l; form = eqb-true (get_or b 0 0 % 8) 2 q; run = r; run_is = e; counts = c }))
    (λ _. wrong))) (λ _. wrong)) (λ _. wrong))

pub audio_used : (flag rate : ℕ) (b : List ℕ) → IfSome (audio_part flag rate b) (λ p. p.used ≤ length b)
audio_used flag rate b =
    let P : Option AudioPart → Type 0 = λ o. IfSome o (λ p. p.used ≤ length b) in
    audio_cases P flag rate b (λ _. omega arith) tt
    (λ h. let u = run_used rate (count_in b) (drop 1 b) h.run h.run_is in omega (arith, rw length-drop at u, h.some))

-- what is read of the bytes that are lent from a place on
pub lent_from : {A : Type 0} (f : List ℕ → Option A) (b : List ℕ) (n : ℕ) (o p : Option A) → o ≡ f (take (length b - n) (drop n b)) → o ≡ p → f (drop n b) ≡ p
lent_from f b n o p e h = ap f (sym (tail_part b n)) ∙ sym e ∙ h

-- ---- where the parts end: within b

module _ (flags : ℕ) (b : List ℕ) (i : IdPart) (ei : id_in flags b ≡ Some i) where
  pub id_within : i.used ≤ length b
  id_within = let P : IdPart → Type 0 = λ i. i.used ≤ length b in of_part P (id_in flags b) i ei (id_used (flags / 4 % 2) b)

  module _ (v : VideoPart) (ev : video_in flags i.used b ≡ Some v) where
    pub video_within : i.used + v.used ≤ length b
    video_within =
        let P : VideoPart → Type 0 = λ v. v.used ≤ length (drop i.used b) in
        let u = of_part P (video_in flags i.used b) v ev (video_used (flags / 2 % 2) (flags / 16) (drop i.used b)) in
        omega (arith, id_within, rw length-drop at u)

    pub audio_within : (used : ℕ) → option_map (λ a. a.used) (audio_in flags (i.used + v.used) b) ≡ Some used → i.used + v.used + used ≤ length b
    audio_within used e =
        let P : AudioPart → Type 0 = λ a. a.used ≤ length (drop (i.used + v.used) b) in
        let m = map_some (λ (a : AudioPart). a.used) (audio_in flags (i.used + v.used) b) used e in
        let u = of_part P (audio_in flags (i.used + v.used) b) m.part m.is (audio_used (flags % 2) (flags / 16) (drop (i.used + v.used) b)) in
        omega (arith, video_within, m.gives, rw length-drop at u)

-- ---- the outcome from the parts' outcomes

module _ (counter flags : ℕ) (b : List ℕ) where
  pub parts_25 : id_in flags b ≡ None → parts_reading counter flags b ≡ refusal 25
  unfolding parts_reading
  parts_25 f = rw f

  module _ (i : IdPart) (ei : id_in flags b ≡ Some i) where
    pub parts_26 : video_in flags i.used b ≡ None → parts_reading counter flags b ≡ refusal 26
    unfolding parts_reading
    parts_26 f = rw (ei, f)

    module _ (v : VideoPart) (ev : video_in flags i.used b ≡ Some v) where
      pub parts_27 : audio_in flags (i.used + v.used) b ≡ None → parts_reading counter flags b ≡ refusal 27
      unfolding parts_reading
      parts_27 f = rw (ei, ev, f)

      module _ (a : AudioPart) (ea : audio_in flags (i.used + v.used) b ≡ Some a) where
        pub parts_28 : (i.used + v.used + a.used ≡ length b → ⊥) → parts_reading counter flags b ≡ refusal 28
        unfolding parts_reading
        parts_28 d = rw (ei, ev, ea, ne_eqb _ _ d)

        pub parts_0 : i.used + v.used + a.used ≡ length b → parts_reading counter flags b ≡ parts_say counter flags i v a
        unfolding parts_reading
        parts_0 d = rw (ei, ev, ea, eq-eqb _ _ d)

      -- the number, where of the audio part only the bytes that it takes are known
      pub number_27 : option_map (λ a. a.used) (audio_in flags (i.used + v.used) b) ≡ None → (parts_reading counter flags b).number ≡ 27
      number_27 e = ap (λ (r : Reading). r.number) (parts_27 (map_none (λ (a : AudioPart). a.used) (audio_in flags (i.used + v.used) b) e))

      module _ (used : ℕ) (e : option_map (λ a. a.used) (audio_in flags (i.used + v.used) b) ≡ Some used) where
        last : Mapped (λ (a : AudioPart). a.used) (audio_in flags (i.used + v.used) b) used
        last = map_some (λ (a : AudioPart). a.used) (audio_in flags (i.used + v.used) b) used e

        pub number_28 : (i.used + v.used + used ≡ length b → ⊥) → (parts_reading counter flags b).number ≡ 28
        number_28 d = ap (λ (r : Reading). r.number) (parts_28 last.part last.is (λ z. d (omega (arith, z, last.gives))))

        pub number_0 : i.used + v.used + used ≡ length b → (parts_reading counter flags b).number ≡ 0
        number_0 d = ap (λ (r : Reading). r.number) (parts_0 last.part last.is (omega (arith, d, last.gives)))
