-- Contents come back from their flat form.
use Prim.Native.Nat.{ℕ, ◌+◌, ◌*◌, ◌≤◌}
use mathlib.Core.Path.{◌≡◌, refl, sym, ap, ap₂, ◌∙◌}
use mathlib.Core.List.{List, [], ◌∷◌, ◌++◌, append_assoc}
use mathlib.Core.Bool.{Bool, true, false, cond}
use native.Mathlib.Omega.{arith}
use lib.Dec.{eqb}
use lib.ListN.{length, get_or, take, drop, length-append}
use lib.Seq.{take_at, drop_at, get_or-drop, drop-drop}
use Rattle.std.specs.Prelude.{Some}
use Rattle.laws.specs.declared.Video.{Video}
use Rattle.laws.specs.declared.Video.TheVariants.{Absent, One, Two}
use Rattle.container.specs.declared.Print.{Print}
use Rattle.container.specs.declared.Contents.{Contents}
use Rattle.container_laws.specs.Typed.{TypedPrints, Typed}
use Rattle.flat.specs.Flat.{flat_video, flat_print, flat_prints, flat}
use Rattle.flat.specs.Unflat.{video_of, video_at, print_of, prints_of, contents_of, unflat}
use Rattle.flat.proofs.Places.{length_flat, unflat_is, contents_is}

-- ---- fingerprints

length_prints : (ps : List Print) → TypedPrints ps → length (flat_prints ps) ≡ 8 * length ps
unfolding flat_prints flat_print TypedPrints
length_prints [] t = refl
length_prints (p ∷ ps) t = simp length-append (omega (arith, t.0.long, length_prints ps t.1))

print_back : (p : Print) (rest : List ℕ) → length p.bytes ≡ 5 → (print_of (flat_print p ++ rest) ≡ p) × (drop 8 (flat_print p ++ rest) ≡ rest)
unfolding print_of flat_print
print_back p rest h = (ap (λ (b : List ℕ). record { id = p.id; mix = p.mix; size = p.size; bytes = b }) (take_at p.bytes rest 5 h), drop_at p.bytes rest 5 h)

prints_back : (ps : List Print) → TypedPrints ps → prints_of (length ps) (flat_prints ps) ≡ ps
unfolding flat_prints prints_of TypedPrints
prints_back [] t = refl
prints_back (p ∷ ps) t =
    let b = print_back p (flat_prints ps) t.0.long in
    ap₂ (λ (x : Print) (l : List Print). x ∷ l) b.0 (ap (prints_of (length ps)) b.1 ∙ prints_back ps t.1)

-- ---- what follows the ID

module _ (count : ℕ) (rest : List ℕ) where
  video_back : (v : Video) → video_of (get_or (flat_video v ++ (count ∷ rest)) 0 0) (get_or (flat_video v ++ (count ∷ rest)) 1 0) (get_or (flat_video v ++ (count ∷ rest)) 2 0) ≡ Some v
  unfolding flat_video video_of
  video_back Absent = refl
  video_back (One a) = refl
  video_back (Two a b) = refl

  after_video : (v : Video) → (get_or (flat_video v ++ (count ∷ rest)) 3 0 ≡ count) × (drop 4 (flat_video v ++ (count ∷ rest)) ≡ rest)
  unfolding flat_video
  after_video Absent = (refl, refl)
  after_video (One a) = (refl, refl)
  after_video (Two a b) = (refl, refl)

present_back : (present : Bool) → (eqb (cond present 1 0) 1 ≡ present) × (cond present 1 0 ≤ 1)
present_back true = (refl, omega arith)
present_back false = (refl, omega arith)

-- ---- the whole

module _ (c : Contents) (typed : Typed c) where
  abbrev tail : List ℕ
  tail = flat_video c.video ++ (c.count ∷ flat_prints c.prints)

  split : flat c ≡ (c.counter ∷ c.rate ∷ cond c.hasid 1 0 ∷ c.id) ++ tail
  unfolding flat
  split = append_assoc (c.counter ∷ c.rate ∷ cond c.hasid 1 0 ∷ c.id) (flat_video c.video) (c.count ∷ flat_prints c.prints)

  from_23 : drop 23 (flat c) ≡ tail
  from_23 = ap (drop 23) split ∙ drop_at (c.counter ∷ c.rate ∷ cond c.hasid 1 0 ∷ c.id) tail 23 (omega (arith, typed.id_long))

  at_23 : (i : ℕ) → get_or (flat c) (23 + i) 0 ≡ get_or tail i 0
  at_23 i = sym (get_or-drop 23 (flat c) i 0) ∙ ap (λ (l : List ℕ). get_or l i 0) from_23

  id_back : c.id ≡ take 20 (drop 3 (flat c))
  id_back = sym (ap (λ (l : List ℕ). take 20 (drop 3 l)) split ∙ take_at c.id tail 20 typed.id_long)

  values_back : video_at (flat c) ≡ Some c.video
  unfolding video_at
  values_back = rw (at_23 0, at_23 1, at_23 2) (video_back c.count (flat_prints c.prints) c.video)

  places_back : c.prints ≡ prints_of 32 (drop 27 (flat c))
  places_back =
      let d : drop 27 (flat c) ≡ flat_prints c.prints =
      sym (drop-drop 4 23 (flat c)) ∙ ap (drop 4) from_23 ∙ (after_video c.count (flat_prints c.prints) c.video).1 in
      sym (ap (prints_of 32) d ∙ ap (λ (n : ℕ). prints_of n (flat_prints c.prints)) (sym typed.many) ∙ prints_back c.prints typed.prints)

  pub contents_back : contents_of (flat c) c.video ≡ c
  unfolding flat
  contents_back =
      contents_is (flat c) c.video c.id c.prints id_back places_back
      ∙ ap (λ (n : ℕ). record { counter = c.counter; rate = c.rate; hasid = eqb (cond c.hasid 1 0) 1; id = c.id; video = c.video; count = n; prints = c.prints })
      (at_23 3 ∙ (after_video c.count (flat_prints c.prints) c.video).0)
      ∙ ap (λ (b : Bool). record { counter = c.counter; rate = c.rate; hasid = b; id = c.id; video = c.video; count = c.count; prints = c.prints }) (present_back c.hasid).0

  -- contents written flat and read back are the same contents
  pub flat_back : unflat (flat c) ≡ Some c
  unfolding flat
  flat_back =
      unflat_is (flat c) c.video (length_flat c typed.id_long (omega (arith, length_prints c.prints typed.prints, typed.many))) (present_back c.hasid).1 values_back
      ∙ ap (λ (x : Contents). Some x) contents_back
