-- Laws of parts that are passed over: what a fingerprint's bytes say of it, and what a loop over a run keeps that only counts them.
use Prim.Native.Nat.{ℕ, zero, suc, ◌+◌, ◌/◌, ◌≤◌, ◌<◌}
use mathlib.Core.List.{List, [], ◌∷◌, ◌++◌}
use mathlib.Core.Path.{◌≡◌, refl, ap, sym, subst, ◌∙◌}
use mathlib.Core.Bool.{Bool, true, false, cond, ◌&&◌, false≢true, and_assoc}
use native.Mathlib.Omega.{arith}
use Rattle.std.specs.Prelude.{Option, None, Some}
use Rattle.std.specs.Option.{option_map}
use lib.Dec.{leb, eqb}
use lib.ListN.{length, get_or, drop, length-drop, length-append}
use borrow.Author.Tests.{eq-eqb, ne_eqb, le-leb, leb-true, eqb-true}
use Rattle.laws.proofs.Tests.{both}
use Rattle.container.specs.declared.Print.{Print}
use Rattle.container.specs.declared.IdPart.{IdPart}
use Rattle.container.specs.declared.VideoPart.{VideoPart}
use Rattle.container.specs.declared.PrintPart.{PrintPart}
use Rattle.container.specs.declared.AudioPart.{AudioPart}
use Rattle.container.specs.Reading.{Reading}
use Rattle.container.specs.Contents.{all_carry, same_count}
use Rattle.container.specs.Parts.{print_part, print_at, Run, run_of, audio_of}
use Rattle.container.specs.Passing.{is_alike}
use Rattle.container.specs.Reading.{refusal, parts_say, id_in, video_in, audio_in, parts_reading}
use Rattle.container.proofs.Parts.{map_some, PrintRight, print_right, print_is, print_said, first_of}
use Rattle.container.proofs.Runs.{Going, behind, going_start, going_bad, going_step, going_end}

-- ---- one fingerprint

-- the bytes that one takes
pub size_right : (rate : ℕ) (b : List ℕ) (size : ℕ) → option_map (λ p. p.used) (print_part rate b) ≡ Some size → PrintRight rate b
size_right rate b size e = let m = map_some (λ (p : PrintPart). p.used) (print_part rate b) size e in print_right rate b m.part m.is

pub size_is : (rate : ℕ) (b : List ℕ) (size : ℕ) → option_map (λ p. p.used) (print_part rate b) ≡ Some size → size ≡ get_or b 1 0 / 8 + 2
unfolding print_at
size_is rate b size e =
    let m = map_some (λ (p : PrintPart). p.used) (print_part rate b) size e in
    sym m.gives ∙ ap (λ (p : PrintPart). p.used) (print_said rate b m.part m.is)

-- what another has to be that takes as many bytes as a right one
module _ (rate : ℕ) (first b : List ℕ) (r : PrintRight rate first) where
  pub alike_is : is_alike (get_or first 1 0) b ≡ true → get_or b 1 0 ≡ get_or first 1 0
  unfolding is_alike
  alike_is e = eqb-true (get_or b 1 0) (get_or first 1 0) (both (eqb (get_or b 1 0) (get_or first 1 0)) _ (both (leb (get_or first 1 0 / 8 + 2) (length b)) _ e).1).0

  pub alike_right : is_alike (get_or first 1 0) b ≡ true → PrintRight rate b
  unfolding is_alike
  alike_right e =
      let p = both (leb (get_or first 1 0 / 8 + 2) (length b)) _ e in
      let q = both (eqb (get_or b 1 0) (get_or first 1 0)) _ p.1 in
      let l = leb-true (get_or first 1 0 / 8 + 2) (length b) p.0 in
      let s = alike_is e in
      record { two = omega (arith, l); mix = q.1; low = rw s r.low; occurs = rw s r.occurs; fits = rw s l }

  pub unlike_size : is_alike (get_or first 1 0) b ≡ false → (q : PrintPart) → print_part rate b ≡ Some q → eqb q.print.size (get_or first 1 0 / 8) ≡ false
  unfolding is_alike print_at
  unlike_size e q h =
      let o = print_right rate b q h in
      rw (print_said rate b q h)
      (ne_eqb (get_or b 1 0 / 8) (get_or first 1 0 / 8) (λ z.
      let s : get_or b 1 0 ≡ get_or first 1 0 = omega (arith, z, o.low, r.low) in
      let l : get_or first 1 0 / 8 + 2 ≤ length b = omega (arith, o.fits, s) in
      false≢true (sym e ∙ rw (le-leb (get_or first 1 0 / 8 + 2) (length b) l, eq-eqb (get_or b 1 0) (get_or first 1 0) s, o.mix))))

-- ---- a run, one fingerprint after the other

carry_append : (m : ℕ) (ps qs : List Print) → all_carry m (ps ++ qs) ≡ (all_carry m ps && all_carry m qs)
unfolding all_carry
carry_append m [] qs = refl
carry_append m (p ∷ ps) qs = ap (λ t. eqb p.size m && t) (carry_append m ps qs) ∙ sym (and_assoc (eqb p.size m) (all_carry m ps) (all_carry m qs))

-- a run's fingerprints carry one count where they carry the first one's
first_counts : (rate n : ℕ) (b : List ℕ) (r : Run) → 1 ≤ n → run_of rate n b ≡ Some r → same_count r.list ≡ all_carry (get_or b 1 0 / 8) r.list
unfolding same_count print_at
first_counts rate zero b r h e = absurd (let z : ⊥ = omega arith in z)
first_counts rate (suc n) b r h e =
    let q = first_of rate n b r e in
    rw (q.whole, ap (λ (p : PrintPart). p.print.size) (print_said rate b q.first q.first_is)) refl

-- k fingerprints are passed, of p bytes, each with the first one's count
pub record Passed (rate n : ℕ) (b : List ℕ) (k p : ℕ) : Type 0 where
  pub prints : List Print
  pub many : length prints ≡ k
  pub going : Going rate n b prints p
  pub alike : all_carry (get_or b 1 0 / 8) prints ≡ true

pub passed_start : (rate n : ℕ) (b : List ℕ) → Passed rate n b 0 0
unfolding all_carry
passed_start rate n b = record { prints = []; many = refl; going = going_start rate n b; alike = refl }

-- a first one that is wrong
pub passed_none : (rate n : ℕ) (b : List ℕ) → 1 ≤ n → print_part rate b ≡ None → audio_of n (run_of rate n b) ≡ None
unfolding audio_of
passed_none rate n b h e = rw (going_bad rate n b [] 0 (going_start rate n b) h e)

module _ (rate n : ℕ) (b : List ℕ) (k p : ℕ) (g : Passed rate n b k p) (r : PrintRight rate b) where
  abbrev counted : ℕ
  counted = get_or b 1 0

  module _ (h : k < n) where
    within : length g.prints < n
    within = omega (arith, g.many)

    pub pass_wrong : is_alike counted (drop p b) ≡ false → audio_of n (run_of rate n b) ≡ None
    unfolding audio_of all_carry
    pass_wrong e = go (print_part rate (drop p b)) refl
      where
        more : (q : PrintPart) → eqb q.print.size (counted / 8) ≡ false → (o : Option Run) → run_of rate n b ≡ option_map (behind (g.prints ++ q.print ∷ []) (p + q.used)) o → audio_of n (run_of rate n b) ≡ None
        more q d None f = rw f
        more q d (Some s) f =
            rw (
              f,
              first_counts rate n b (behind (g.prints ++ q.print ∷ []) (p + q.used) s) (omega arith) f,
              carry_append (counted / 8) (g.prints ++ q.print ∷ []) s.list,
              carry_append (counted / 8) g.prints (q.print ∷ []),
              g.alike,
              d,
            )

        go : (o : Option PrintPart) → print_part rate (drop p b) ≡ o → audio_of n (run_of rate n b) ≡ None
        go None f = rw (going_bad rate n b g.prints p g.going within f)
        go (Some q) f = more q (unlike_size rate b (drop p b) r e q f) _ (going_step rate n b g.prints p g.going within q f)

    module _ (e : is_alike counted (drop p b) ≡ true) where
      here : PrintRight rate (drop p b)
      here = alike_right rate b (drop p b) r e

      same : get_or (drop p b) 1 0 ≡ counted
      same = alike_is rate b (drop p b) r e

      pub pass_next : Passed rate n b (k + 1) (p + (counted / 8 + 2))
      unfolding print_at all_carry
      pass_next =
          let q : PrintPart = print_at (drop p b) in
          record {
            prints = g.prints ++ q.print ∷ [];
            many = length-append g.prints (q.print ∷ []) ∙ omega (arith, g.many);
            going = subst (Going rate n b (g.prints ++ q.print ∷ [])) (ap (λ (m : ℕ). p + (m / 8 + 2)) same) (going_step rate n b g.prints p g.going within q (print_is rate (drop p b) here));
            alike = rw (carry_append (counted / 8) g.prints (q.print ∷ []), g.alike, eq-eqb (get_or (drop p b) 1 0 / 8) (counted / 8) (ap (λ (m : ℕ). m / 8) same)) refl;
          }

      pub pass_within : p ≤ length b → p + (counted / 8 + 2) ≤ length b
      pass_within l = omega (arith, rw length-drop at here.fits, same)

  pub pass_end : 1 ≤ n → n ≤ k → option_map (λ a. a.used) (audio_of n (run_of rate n b)) ≡ Some (p + 1)
  unfolding audio_of
  pass_end m h =
      let e = going_end rate n b g.prints p g.going (omega (arith, g.many)) in
      rw (e, first_counts rate n b _ m e, g.alike) refl

-- ---- the number of a reading does not turn on the counter

either_way : (t : Bool) (x y z : Reading) → x.number ≡ y.number → (cond t x z).number ≡ (cond t y z).number
either_way true x y z h = h
either_way false x y z h = refl

module _ (c d flags : ℕ) (b : List ℕ) where
  abbrev Same : Type 0
  Same = (parts_reading c flags b).number ≡ (parts_reading d flags b).number

  by_audio : (i : IdPart) → id_in flags b ≡ Some i → (v : VideoPart) → video_in flags i.used b ≡ Some v → (o : Option AudioPart) → audio_in flags (i.used + v.used) b ≡ o → Same
  unfolding parts_reading
  by_audio i ei v ev None e = rw (ei, ev, e) refl
  by_audio i ei v ev (Some a) e =
      rw (ei, ev, e) (either_way (eqb (i.used + v.used + a.used) (length b)) (parts_say c flags i v a) (parts_say d flags i v a) (refusal 28) refl)

  by_video : (i : IdPart) → id_in flags b ≡ Some i → (o : Option VideoPart) → video_in flags i.used b ≡ o → Same
  unfolding parts_reading
  by_video i ei None e = rw (ei, e) refl
  by_video i ei (Some v) e = by_audio i ei v e (audio_in flags (i.used + v.used) b) refl

  by_id : (o : Option IdPart) → id_in flags b ≡ o → Same
  unfolding parts_reading
  by_id None e = rw e refl
  by_id (Some i) e = by_video i e (video_in flags i.used b) refl

  pub any_counter : (parts_reading c flags b).number ≡ (parts_reading d flags b).number
  any_counter = by_id (id_in flags b) refl
