-- An accepted container's parts, flags and checksum, written from what was read, are its own bytes.
use Prim.Native.Nat.{ℕ, zero, suc, ◌+◌, ◌-◌, ◌*◌, ◌/◌, ◌%◌, ◌≤◌, ◌<◌}
use mathlib.Core.List.{List, [], ◌∷◌, ◌++◌}
use mathlib.Core.Path.{◌≡◌, refl, ap, sym, ◌∙◌}
use mathlib.Core.Bool.{Bool, true, cond}
use native.Mathlib.Omega.{arith}
use native.Mathlib.Nat.{not-suc-le-zero, le_of_suc-le-suc}
use native.Mathlib.Numerals.{add-one, add-two}
use lib.ListN.{length, get_or, take, drop, replicate, length-drop}
use lib.Seq.{length-take-le, take-suc, take-add, take_at, take-length}
use lib.Dec.{leb, eqb}
use borrow.Author.Tests.{leb-true, eqb-true, eqb-false, eq-eqb, ne_eqb}
use Rattle.laws.specs.Bytes.{Bytes}
use Rattle.laws.specs.Calls.{over}
use Rattle.laws.specs.Sums.{sum}
use Rattle.std.specs.Prelude.{Option, None, Some}
use Rattle.std.specs.Option.{IfSome}
use Rattle.laws.proofs.Tests.{chosen, held}
use Rattle.laws.proofs.Sums.{sum_append}
use Rattle.rates.specs.Rates.{two_fields}
use Rattle.container.specs.declared.IdPart.{IdPart}
use Rattle.container.specs.declared.VideoPart.{VideoPart}
use Rattle.container.specs.declared.PrintPart.{PrintPart}
use Rattle.container.specs.declared.AudioPart.{AudioPart}
use Rattle.container.specs.Reading.{Reading}
use Rattle.container.specs.Contents.{blank_print}
use Rattle.container.specs.Bytes.{id_bytes, video_bytes, print_bytes, run_bytes, audio_bytes, video_flag, audio_flag, part_bytes, flag_byte, front_bytes, check_byte, encode}
use Rattle.container.specs.Parts.{with_part, id_part, one_field, both_fields, video_part, print_at, Run, run_of, audio_part}
use Rattle.container.specs.Reading.{header_number, refusal, parts_say, id_in, video_in, audio_in, parts_reading, middle, reading}
use Rattle.container.proofs.Parts.{of_part, some_is, first_of, HeaderRight, header_right, PrintRight, print_right, print_said, parts_0, audio_cases, count_in}
use Rattle.container.proofs.Runs.{run_length}
use Rattle.container.proofs.Bytes.{audio_none, audio_some}

-- the first bytes of a list, and what follows them
split_1 : (b : List ℕ) → 1 ≤ length b → b ≡ get_or b 0 0 ∷ drop 1 b
split_1 [] h = absurd (not-suc-le-zero h)
split_1 (x ∷ b) h = refl

split_2 : (b : List ℕ) → 2 ≤ length b → b ≡ get_or b 0 0 ∷ get_or b 1 0 ∷ drop 2 b
split_2 [] h = absurd (not-suc-le-zero h)
split_2 (x ∷ b) h = ap (λ (l : List ℕ). x ∷ l) (split_1 b (le_of_suc-le-suc h))

split_3 : (b : List ℕ) → 3 ≤ length b → b ≡ get_or b 0 0 ∷ get_or b 1 0 ∷ get_or b 2 0 ∷ drop 3 b
split_3 [] h = absurd (not-suc-le-zero h)
split_3 (x ∷ b) h = ap (λ (l : List ℕ). x ∷ l) (split_2 b (le_of_suc-le-suc h))

-- ---- each part

abbrev IdBack : ℕ → List ℕ → IdPart → Type 0
IdBack flag b g = id_bytes (eqb flag 1) g.id ≡ take g.used b

id_back : (flag : ℕ) (b : List ℕ) → flag ≤ 1 → IfSome (id_part flag b) (IdBack flag b)
unfolding id_part id_bytes
id_back flag b h =
    let P : Option IdPart → Type 0 = λ o. IfSome o (IdBack flag b) in
    chosen P (eqb flag 0) _ _ (λ q. rw (ne_eqb flag 1 (λ z. omega (arith, eqb-true flag 0 q, z))))
    (λ d. let one = eq-eqb flag 1 (omega (arith, eqb-false flag 0 d)) in
    chosen P (leb 21 (length b)) _ _
    (λ l. chosen P (eqb (get_or b 0 0) 0) _ _
    (λ q. rw one
    (ap (λ (x : ℕ). x ∷ take 20 (drop 1 b)) (sym (eqb-true (get_or b 0 0) 0 q)) ∙ sym (ap (take 21) (split_1 b (omega (arith, leb-true 21 (length b) l))))))
    (λ _. tt))
    (λ _. tt))

abbrev VideoBack : ℕ → List ℕ → VideoPart → Type 0
VideoBack flag b g = (video_bytes g.video ≡ take g.used b) × (video_flag g.video ≡ flag)

video_back : (flag rate : ℕ) (b : List ℕ) → flag ≤ 1 → IfSome (video_part flag rate b) (VideoBack flag b)
unfolding video_part one_field both_fields video_bytes
video_back flag rate b h =
    let P : Option VideoPart → Type 0 = λ o. IfSome o (VideoBack flag b) in
    chosen P (eqb flag 0) _ _ (λ q. (refl, sym (eqb-true flag 0 q)))
    (λ d. let one : 1 ≡ flag = omega (arith, eqb-false flag 0 d) in
    chosen P (leb 2 (length b)) _ _
    (λ l. chosen P (eqb (get_or b 0 0) 0x09) _ _
    (λ q. chosen P (leb (get_or b 1 0) 240) _ _
    (λ _. (ap (λ (x : ℕ). x ∷ get_or b 1 0 ∷ []) (sym (eqb-true (get_or b 0 0) 0x09 q)) ∙ sym (ap (take 2) (split_2 b (leb-true _ _ l))), one)) (λ _. tt))
    (λ _. chosen P (eqb (get_or b 0 0) 0x11) _ _
    (λ q. chosen P (two_fields rate) _ _
    (λ _. chosen P (leb 3 (length b)) _ _
    (λ l₃. chosen P (leb (get_or b 1 0) 240) _ _
    (λ _. chosen P (leb (get_or b 2 0) 240) _ _
    (λ _. (ap (λ (x : ℕ). x ∷ get_or b 1 0 ∷ get_or b 2 0 ∷ []) (sym (eqb-true (get_or b 0 0) 0x11 q)) ∙ sym (ap (take 3) (split_3 b (leb-true _ _ l₃))), one))
    (λ _. tt)) (λ _. tt)) (λ _. tt)) (λ _. tt)) (λ _. tt)))
    (λ _. tt))

print_back : (rate : ℕ) (b : List ℕ) → PrintRight rate b → print_bytes (print_at b).print ≡ take (print_at b).used b
unfolding print_bytes print_at over
print_back rate [] r = absurd (let z : ⊥ = omega (arith, r.two) in z)
print_back rate (x ∷ []) r = absurd (let z : ⊥ = omega (arith, r.two) in z)
print_back rate (x ∷ y ∷ b) r =
    let ex : x / 8 * 8 + x % 8 ≡ x = omega arith in
    let ey : y / 8 * 8 ≡ y = omega (arith, r.low) in
    let e : length (take (y / 8) b) ≡ y / 8 = length-take-le (y / 8) b (omega (arith, r.fits)) in
    let t : take (y / 8) (take (y / 8) b ++ drop (length (take (y / 8) b)) (replicate 5 0)) ≡ take (y / 8) b = take_at _ _ _ e in
    rw (ex, ey, add-two, t)

run_back : (rate n : ℕ) (b : List ℕ) (r : Run) → run_of rate n b ≡ Some r → run_bytes r.list ≡ take r.used b
unfolding run_of run_bytes
run_back rate zero b r e = rw (sym (some_is _ r e)) refl
run_back rate (suc n) b r e =
    let q = first_of rate n b r e in
    let f = print_said rate b q.first q.first_is in
    let i = run_back rate n (drop q.first.used b) q.rest q.rest_is in
    let p : print_bytes q.first.print ≡ take q.first.used b =
    ap (λ (g : PrintPart). print_bytes g.print) f ∙ print_back rate b (print_right rate b q.first q.first_is) ∙ ap (λ (g : PrintPart). take g.used b) (sym f) in
    rw (q.whole, p, i) (sym (take-add q.first.used q.rest.used b))

abbrev AudioBack : ℕ → List ℕ → AudioPart → Type 0
AudioBack flag b g = (audio_bytes g.count g.prints ≡ take g.used b) × (audio_flag g.count ≡ flag)

audio_back : (flag rate : ℕ) (b : List ℕ) → flag ≤ 1 → IfSome (audio_part flag rate b) (AudioBack flag b)
audio_back flag rate b h =
    let P : Option AudioPart → Type 0 = λ o. IfSome o (AudioBack flag b) in
    audio_cases P flag rate b (λ f. (audio_none 0 _ refl, sym f)) tt
    (λ a.
    let n : ℕ = count_in b in
    let run = a.run in
    let e₁ : take n (run.list ++ drop n (replicate 32 blank_print)) ≡ run.list = take_at run.list _ n (run_length rate n (drop 1 b) run a.run_is) in
    let e₂ : (n - 1) * 8 + 2 ≡ get_or b 0 0 = omega (arith, a.form) in (
      audio_some n _ (λ k. omega (arith, k)) ∙ rw (e₁, e₂, run_back rate n (drop 1 b) run a.run_is, add-one run.used) (sym (ap (take (suc run.used)) (split_1 b a.some))),
      rw (add-one (get_or b 0 0 / 8)) (omega (arith, a.flagged)),
    ))

-- ---- all parts

-- what an accepted reading of the parts says
pub record PartsRight (flags : ℕ) (b : List ℕ) : Type 0 where
  pub id : IdPart
  pub video : VideoPart
  pub audio : AudioPart
  pub id_is : id_in flags b ≡ Some id
  pub video_is : video_in flags id.used b ≡ Some video
  pub audio_is : audio_in flags (id.used + video.used) b ≡ Some audio
  pub whole : id.used + video.used + audio.used ≡ length b

past_refusal : (t : Bool) (x : Reading) (n : ℕ) → (cond t x (refusal (suc n))).number ≡ 0 → (t ≡ true) × (x.number ≡ 0)
past_refusal t x n e = held (λ (r : Reading). r.number ≡ 0) t x (refusal (suc n)) e (λ z. omega (arith, z))

-- a part that the reading came past
record Past {A : Type 0} (o : Option A) (f : A → Reading) : Type 0 where
  part : A
  is : o ≡ Some part
  goes : (f part).number ≡ 0

past_part : {A : Type 0} (o : Option A) (n : ℕ) (f : A → Reading) → (with_part o (refusal (suc n)) f).number ≡ 0 → Past o f
past_part None n f e = absurd (let z : ⊥ = omega (arith, e) in z)
past_part (Some x) n f e = record { part = x; is = refl; goes = e }

parts_right : (counter flags : ℕ) (b : List ℕ) → (parts_reading counter flags b).number ≡ 0 → PartsRight flags b
unfolding parts_reading
parts_right counter flags b e =
    let q₁ = past_part (id_in flags b) 24 _ e in
    let q₂ = past_part (video_in flags q₁.part.used b) 25 _ q₁.goes in
    let q₃ = past_part (audio_in flags (q₁.part.used + q₂.part.used) b) 26 _ q₂.goes in
    let q₄ = past_refusal (eqb (q₁.part.used + q₂.part.used + q₃.part.used) (length b)) _ 27 q₃.goes in
    record { id = q₁.part; video = q₂.part; audio = q₃.part; id_is = q₁.is; video_is = q₂.is; audio_is = q₃.is; whole = eqb-true _ _ q₄.0 }

-- what an accepted container says
pub record Accepted (s : List ℕ) : Type 0 where
  pub header : HeaderRight s
  pub parts : PartsRight (get_or s 3 0) (middle s)
  pub says : reading s ≡ parts_say (get_or s 1 0) (get_or s 3 0) parts.id parts.video parts.audio

past_header : (n : ℕ) (x : Reading) → (cond (eqb n 0) x (refusal n)).number ≡ 0 → (n ≡ 0) × (x.number ≡ 0)
past_header zero x e = (refl, e)
past_header (suc n) x e = absurd (eqb-false (suc n) 0 (ne_eqb (suc n) 0 (λ z. omega (arith, z))) (omega (arith, rw (ne_eqb (suc n) 0 (λ z. omega (arith, z))) at e)))

pub accepted_is : (s : List ℕ) → (reading s).number ≡ 0 → Accepted s
unfolding reading
accepted_is s e =
    let flags = get_or s 3 0 in
    let b = middle s in
    let q = past_header (header_number s) _ e in
    let p = parts_right (get_or s 1 0) flags b q.1 in
    record {
      header = header_right s q.0;
      parts = p;
      says =
          rw (eq-eqb (header_number s) 0 q.0)
          (parts_0 (get_or s 1 0) flags b p.id p.id_is p.video p.video_is p.audio p.audio_is p.whole);
    }

module _ (counter flags : ℕ) (b : List ℕ) (r : PartsRight flags b) where
  abbrev said : Reading
  said = parts_say counter flags r.id r.video r.audio

  id_said : IdBack (flags / 4 % 2) b r.id
  id_said = of_part (IdBack (flags / 4 % 2) b) (id_in flags b) r.id r.id_is (id_back (flags / 4 % 2) b (omega arith))

  video_said : VideoBack (flags / 2 % 2) (drop r.id.used b) r.video
  video_said =
      of_part (VideoBack (flags / 2 % 2) (drop r.id.used b)) (video_in flags r.id.used b) r.video r.video_is
      (video_back (flags / 2 % 2) (flags / 16) (drop r.id.used b) (omega arith))

  audio_said : AudioBack (flags % 2) (drop (r.id.used + r.video.used) b) r.audio
  audio_said =
      of_part (AudioBack (flags % 2) (drop (r.id.used + r.video.used) b)) (audio_in flags (r.id.used + r.video.used) b) r.audio r.audio_is
      (audio_back (flags % 2) (flags / 16) (drop (r.id.used + r.video.used) b) (omega arith))

  parts_back : part_bytes said.contents ≡ b
  unfolding part_bytes
  parts_back =
      let p = r.id.used in
      let q = r.video.used in
      rw (id_said, video_said.0, audio_said.0, ← take-add p q b, ← take-add (p + q) r.audio.used b, r.whole, take-length)

  flags_back : flags % 16 < 8 → flag_byte said.contents ≡ flags
  unfolding flag_byte
  flags_back l =
      let i : cond (eqb (flags / 4 % 2) 1) 1 0 ≡ flags / 4 % 2 = as_flag (flags / 4 % 2) (omega arith) in
      let e₁ : flags / 2 / 2 ≡ flags / 4 = omega arith in
      let e₂ : flags / 4 / 2 ≡ flags / 8 = omega arith in
      let e₃ : flags / 8 ≡ flags / 16 * 2 = omega arith in
      omega (arith, i, video_said.1, audio_said.1)
    where
      as_flag : (n : ℕ) → n ≤ 1 → cond (eqb n 1) 1 0 ≡ n
      as_flag zero h = refl
      as_flag (suc zero) h = refl
      as_flag (suc (suc n)) h = absurd (let z : ⊥ = omega arith in z)

-- ---- the whole

-- the last byte is the check of the others
check_back : (front : List ℕ) (z : ℕ) → z < 256 → sum (front ++ (z ∷ [])) % 256 ≡ 0 → check_byte (sum front) ≡ z
unfolding sum check_byte
check_back front z h e = omega (arith, sum_append front (z ∷ []))

-- a list by its first four, the middle and the last
split_ends : (s : List ℕ) → 5 ≤ length s
    → s ≡ (get_or s 0 0 ∷ get_or s 1 0 ∷ get_or s 2 0 ∷ get_or s 3 0 ∷ middle s) ++ (get_or s (length s - 1) 0 ∷ [])
unfolding middle
split_ends [] h = absurd (let z : ⊥ = omega arith in z)
split_ends (x ∷ []) h = absurd (let z : ⊥ = omega arith in z)
split_ends (x ∷ y ∷ []) h = absurd (let z : ⊥ = omega arith in z)
split_ends (x ∷ y ∷ z ∷ []) h = absurd (let z : ⊥ = omega arith in z)
split_ends (x₀ ∷ x₁ ∷ x₂ ∷ x₃ ∷ []) h = absurd (let z : ⊥ = omega arith in z)
split_ends (x₀ ∷ x₁ ∷ x₂ ∷ x₃ ∷ y ∷ t) h =
    let m : ℕ = length t in
    let e₁ : suc (suc (suc (suc (suc m)))) - 5 ≡ m = omega arith in
    let e₂ : suc (suc (suc (suc (suc m)))) - 1 ≡ suc (suc (suc (suc m))) = omega arith in
    let e₃ : y ∷ t ≡ take m (y ∷ t) ++ (get_or (y ∷ t) m 0 ∷ []) = sym (take-length (y ∷ t)) ∙ take-suc (y ∷ t) m 0 (omega arith) in
    rw (e₁, e₂) (ap (λ (l : List ℕ). x₀ ∷ x₁ ∷ x₂ ∷ x₃ ∷ l) e₃)

middle_length : (s : List ℕ) → 5 ≤ length s → length (middle s) ≡ length s - 5
unfolding middle
middle_length s h = length-take-le (length s - 5) (drop 4 s) (rw length-drop (omega arith))

pub written_again : (s : List ℕ) → Bytes s → (reading s).number ≡ 0 → encode (reading s).contents ≡ s
unfolding encode front_bytes
written_again s small e =
    let a = accepted_is s e in
    let h = a.header in
    let flags = get_or s 3 0 in
    let b = middle s in
    let e₁ = parts_back (get_or s 1 0) flags b a.parts in
    let e₂ = flags_back (get_or s 1 0) flags b a.parts h.bit_3 in
    let e₃ : length b + 2 ≡ get_or s 2 0 = omega (arith, h.counted, h.five, middle_length s h.five) in
    let front : List ℕ = 0 ∷ get_or s 1 0 ∷ get_or s 2 0 ∷ flags ∷ b in
    let z : ℕ = get_or s (length s - 1) 0 in
    let sp : s ≡ front ++ (z ∷ []) = split_ends s h.five ∙ ap (λ (x : ℕ). (x ∷ get_or s 1 0 ∷ get_or s 2 0 ∷ flags ∷ b) ++ (z ∷ [])) h.version in
    let e₄ : check_byte (sum front) ≡ z = check_back front z (small (length s - 1)) (sym (ap (λ (l : List ℕ). sum l % 256) sp) ∙ h.check) in
    rw (a.says, e₁, e₂, e₃) (ap (λ (x : ℕ). front ++ (x ∷ [])) e₄ ∙ sym sp)
