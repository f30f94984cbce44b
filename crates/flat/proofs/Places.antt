-- Laws of the flat form: the 32 places for fingerprints, eight bytes each, and the whole.
use Prim.Native.Nat.{ℕ, zero, suc, ◌+◌, ◌*◌, ◌≤◌, ◌<◌}
use mathlib.Core.Path.{◌≡◌, refl, sym, ap, ap₂, ◌∙◌}
use mathlib.Core.List.{List, [], ◌∷◌, ◌++◌, append-nil, append_assoc}
use mathlib.Core.Bool.{cond}
use native.Mathlib.Omega.{arith}
use native.Mathlib.Numerals.{add-one}
use native.Mathlib.Nat.{not-suc-le-zero}
use borrow.Author.Tests.{eq-eqb, le-leb}
use lib.Dec.{eqb}
use lib.ListN.{length, get_or, take, drop, length-append, drop_of_length-le}
use lib.Seq.{sets, drop-cons, drop-drop}
use Rattle.std.specs.Prelude.{Some}
use Rattle.laws.specs.Calls.{over}
use Rattle.laws.proofs.Lists.{sets_append, sets_then, sets_over}
use Rattle.laws.specs.declared.Video.{Video}
use Rattle.laws.specs.declared.Video.TheVariants.{Absent, One, Two}
use Rattle.container.specs.declared.Print.{Print}
use Rattle.container.specs.declared.Contents.{Contents}
use Rattle.flat.specs.Flat.{flat_video, flat_print, flat_prints, flat}
use Rattle.flat.specs.Unflat.{video_at, print_of, prints_of, contents_of, unflat}

-- ---- written one after the other

module _ (ps : List Print) (k : ℕ) (d : Print) where
  next : k < length ps → flat_prints (drop k ps) ≡ flat_print (get_or ps k d) ++ flat_prints (drop (k + 1) ps)
  unfolding flat_prints
  next h = rw (add-one, drop-cons ps k d h)

  pub length_next : k < length ps → length (flat_print (get_or ps k d)) ≡ 8 → length (flat_prints (drop k ps)) ≡ 8 + length (flat_prints (drop (k + 1) ps))
  length_next h e = ap length (next h) ∙ rw (length-append, e)

  pub sets_next : (out : List ℕ) (at : ℕ) → k < length ps → length (flat_print (get_or ps k d)) ≡ 8
      → sets out at (flat_prints (drop k ps)) ≡ sets (sets out at (flat_print (get_or ps k d))) (at + 8) (flat_prints (drop (k + 1) ps))
  sets_next out at h e =
      ap (sets out at) (next h) ∙ sym (sets_append out at (flat_print (get_or ps k d)) (flat_prints (drop (k + 1) ps)))
      ∙ ap (λ (n : ℕ). sets (sets out at (flat_print (get_or ps k d))) (at + n) (flat_prints (drop (k + 1) ps))) e

pub flat_end : (ps : List Print) (k : ℕ) → length ps ≤ k → flat_prints (drop k ps) ≡ []
unfolding flat_prints
flat_end ps k h = ap flat_prints (drop_of_length-le ps {i = k} h)

-- ---- read one after the other

pub length_prints : (n : ℕ) (b : List ℕ) → length (prints_of n b) ≡ n
unfolding prints_of
length_prints zero b = refl
length_prints (suc n) b = ap suc (length_prints n (drop 8 b))

pub print_at : (n : ℕ) (b : List ℕ) (k : ℕ) (d : Print) → k < n → print_of (drop (8 * k) b) ≡ get_or (prints_of n b) k d
unfolding prints_of
print_at zero b k d h = absurd (not-suc-le-zero h)
print_at (suc n) b zero d h = refl
print_at (suc n) b (suc k) d h =
    let e : 8 * suc k ≡ 8 + 8 * k = omega arith in
    ap print_of (ap (λ (m : ℕ). drop m b) e ∙ sym (drop-drop (8 * k) 8 b)) ∙ print_at n (drop 8 b) k d (omega arith)

-- a buffer filled to its end
pub sets_whole : (bytes out : List ℕ) → length bytes ≡ length out → sets out 0 bytes ≡ bytes
unfolding over
sets_whole bytes out e = sets_over bytes out (omega arith) ∙ ap (λ (r : List ℕ). bytes ++ r) (drop_of_length-le out {i = length bytes} (omega arith)) ∙ append-nil bytes

-- ---- the whole form, part after part

pub length_video : (v : Video) → length (flat_video v) ≡ 3
unfolding flat_video
length_video Absent = refl
length_video (One a) = refl
length_video (Two a b) = refl

pub length_flat : (c : Contents) → length c.id ≡ 20 → length (flat_prints c.prints) ≡ 256 → length (flat c) ≡ 283
unfolding flat
length_flat c i n = simp length-append (omega (arith, length_video c.video))

pub flat_put : (c : Contents) (z o₁ o₂ o₃ o₄ o₅ values : List ℕ) (present : ℕ) → length z ≡ 283
    → length c.id ≡ 20 → length (flat_prints c.prints) ≡ 256 → present ≡ cond c.hasid 1 0 → values ≡ flat_video c.video
    → o₁ ≡ sets z 0 (c.counter ∷ c.rate ∷ present ∷ [])
    → o₂ ≡ sets o₁ 3 c.id
    → o₃ ≡ sets o₂ 23 values
    → o₄ ≡ sets o₃ 26 (c.count ∷ [])
    → o₅ ≡ sets o₄ 27 (flat_prints c.prints)
    → o₅ ≡ flat c
unfolding flat
flat_put c z o₁ o₂ o₃ o₄ o₅ values present whole i n pe ve e₁ e₂ e₃ e₄ e₅ =
    let head : List ℕ = c.counter ∷ c.rate ∷ present ∷ c.id in
    let v = length_video c.video in
    let p₂ : o₂ ≡ sets z 0 head = sets_then z o₁ o₂ (c.counter ∷ c.rate ∷ present ∷ []) c.id 0 3 e₁ refl e₂ in
    let p₃ : o₃ ≡ sets z 0 (head ++ values) = sets_then z o₂ o₃ head values 0 23 p₂ (omega arith) e₃ in
    let p₄ : o₄ ≡ sets z 0 ((head ++ values) ++ (c.count ∷ [])) =
    sets_then z o₃ o₄ (head ++ values) (c.count ∷ []) 0 26 p₃ (simp length-append (omega (arith, ap length ve))) e₄ in
    let p₅ : o₅ ≡ sets z 0 (((head ++ values) ++ (c.count ∷ [])) ++ flat_prints c.prints) =
    sets_then z o₄ o₅ ((head ++ values) ++ (c.count ∷ [])) (flat_prints c.prints) 0 27 p₄ (simp length-append (omega (arith, ap length ve))) e₅ in
    let same : ((head ++ values) ++ (c.count ∷ [])) ++ flat_prints c.prints ≡ flat c =
    append_assoc (head ++ values) (c.count ∷ []) (flat_prints c.prints)
    ∙ ap₂ (λ (v : List ℕ) (p : ℕ). (c.counter ∷ c.rate ∷ p ∷ c.id) ++ v ++ (c.count ∷ flat_prints c.prints)) ve pe in
    p₅ ∙ ap (sets z 0) same ∙ sets_whole (flat c) z (length_flat c i n ∙ sym whole)

-- ---- what 283 bytes say

module _ (s : List ℕ) (v : Video) where
  pub unflat_is : length s ≡ 283 → get_or s 2 0 ≤ 1 → video_at s ≡ Some v → unflat s ≡ Some (contents_of s v)
  unfolding unflat
  unflat_is l p e = rw (eq-eqb _ _ l, le-leb _ _ p, e)

  pub contents_is : (id : List ℕ) (prints : List Print) → id ≡ take 20 (drop 3 s) → prints ≡ prints_of 32 (drop 27 s)
      → contents_of s v ≡ record { counter = get_or s 0 0; rate = get_or s 1 0; hasid = eqb (get_or s 2 0) 1; id = id; video = v; count = get_or s 26 0; prints = prints }
  unfolding contents_of
  contents_is id prints e f = rw (e, f)
