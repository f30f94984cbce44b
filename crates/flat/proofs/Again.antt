-- Bytes that are the flat form of contents come back from these contents: no others are taken.
use Prim.Native.Nat.{ℕ, zero, suc, ◌*◌, ◌≤◌}
use mathlib.Core.Path.{◌≡◌, refl, sym, ap, ap₂, ◌∙◌}
use mathlib.Core.List.{List, [], ◌∷◌, ◌++◌, append_assoc}
use mathlib.Core.Bool.{cond}
use native.Mathlib.Omega.{arith}
use borrow.Author.Tests.{eqb-true, eqb-false, leb-true}
use lib.Dec.{eqb, leb}
use lib.ListN.{length, get_or, take, drop, length-drop, take-append-drop}
use lib.Seq.{drop-cons, drop-drop}
use Rattle.laws.proofs.Tests.{held, chosen}
use Rattle.std.specs.Prelude.{Option, Some, None}
use Rattle.std.specs.Option.{option_map}
use Rattle.std.proofs.lemmas.Option.{none-some, same_Some}
use Rattle.laws.specs.declared.Video.{Video}
use Rattle.laws.specs.declared.Video.TheVariants.{Absent, One, Two}
use Rattle.container.specs.declared.Contents.{Contents}
use Rattle.flat.specs.Flat.{flat_video, flat_print, flat_prints, flat}
use Rattle.flat.specs.Unflat.{video_of, video_at, print_of, prints_of, contents_of, unflat}

print_again : (b : List ℕ) → 3 ≤ length b → flat_print (print_of b) ≡ take 8 b
unfolding flat_print print_of
print_again (x ∷ y ∷ z ∷ b) h = refl
print_again [] h = absurd (omega arith)
print_again (x ∷ []) h = absurd (omega arith)
print_again (x ∷ y ∷ []) h = absurd (omega arith)

prints_again : (n : ℕ) (b : List ℕ) → length b ≡ 8 * n → flat_prints (prints_of n b) ≡ b
unfolding flat_prints prints_of
prints_again zero [] h = refl
prints_again zero (x ∷ b) h = absurd (omega arith)
prints_again (suc n) b h =
    ap₂ (λ (p r : List ℕ). p ++ r) (print_again b (omega arith)) (prints_again n (drop 8 b) (rw length-drop (omega arith))) ∙ take-append-drop 8 b

-- what two places say that say something is what stands there
video_again : (n a b : ℕ) (v : Video) → video_of n a b ≡ Some v → flat_video v ≡ n ∷ a ∷ b ∷ []
unfolding video_of flat_video
video_again n a b v =
    let Same : Option Video → Type 0 = λ (o : Option Video). o ≡ Some v → flat_video v ≡ n ∷ a ∷ b ∷ [] in
    let none : Same None = λ e. absurd (none-some v e) in
    let said : (u : Video) → flat_video u ≡ n ∷ a ∷ b ∷ [] → Same (Some u) = λ u p e. ap flat_video (sym (same_Some u v e)) ∙ p in
    chosen Same (eqb n 2) _ _
    (λ p. said (Two a b) (ap (λ (k : ℕ). k ∷ a ∷ b ∷ []) (sym (eqb-true n 2 p))))
    (λ _. chosen Same (eqb b 0) _ _
    (λ q. chosen Same (eqb n 1) _ _
    (λ p. said (One a) (ap₂ (λ (k l : ℕ). k ∷ a ∷ l ∷ []) (sym (eqb-true n 1 p)) (sym (eqb-true b 0 q))))
    (λ _. chosen Same (eqb a 0) _ _
    (λ r. chosen Same (eqb n 0) _ _
    (λ p. said Absent (cc (eqb-true n 0 p, eqb-true a 0 r, eqb-true b 0 q)))
    (λ _. none))
    (λ _. none)))
    (λ _. none))

present_again : (n : ℕ) → n ≤ 1 → cond (eqb n 1) 1 0 ≡ n
present_again n h = chosen (λ (k : ℕ). k ≡ n) (eqb n 1) 1 0 (λ p. sym (eqb-true n 1 p)) (λ p. omega (arith, eqb-false n 1 p))

module _ (s : List ℕ) (whole : length s ≡ 283) where
  -- the video values and the number of fingerprints stand between the ID and the fingerprints
  from_23 : drop 23 s ≡ (get_or s 23 0 ∷ get_or s 24 0 ∷ get_or s 25 0 ∷ []) ++ (get_or s 26 0 ∷ drop 27 s)
  from_23 =
      drop-cons s 23 0 (omega arith)
      ∙ ap (λ (l : List ℕ). get_or s 23 0 ∷ l) (drop-cons s 24 0 (omega arith)
      ∙ ap (λ (l : List ℕ). get_or s 24 0 ∷ l) (drop-cons s 25 0 (omega arith) ∙ ap (λ (l : List ℕ). get_or s 25 0 ∷ l) (drop-cons s 26 0 (omega arith))))

  from_0 : s ≡ (get_or s 0 0 ∷ get_or s 1 0 ∷ get_or s 2 0 ∷ take 20 (drop 3 s)) ++ drop 23 s
  from_0 =
      drop-cons s 0 0 (omega arith)
      ∙ ap (λ (l : List ℕ). get_or s 0 0 ∷ l) (drop-cons s 1 0 (omega arith)
      ∙ ap (λ (l : List ℕ). get_or s 1 0 ∷ l) (drop-cons s 2 0 (omega arith)
      ∙ ap (λ (l : List ℕ). get_or s 2 0 ∷ l) (sym (take-append-drop 20 (drop 3 s)) ∙ ap (λ (l : List ℕ). take 20 (drop 3 s) ++ l) (drop-drop 20 3 s))))

  contents_again : (v : Video) → get_or s 2 0 ≤ 1 → video_at s ≡ Some v → flat (contents_of s v) ≡ s
  unfolding flat contents_of video_at
  contents_again v h e =
      rw (present_again (get_or s 2 0) h, video_again (get_or s 23 0) (get_or s 24 0) (get_or s 25 0) v e, prints_again 32 (drop 27 s) (rw length-drop (omega arith)))
      (append_assoc (get_or s 0 0 ∷ get_or s 1 0 ∷ get_or s 2 0 ∷ take 20 (drop 3 s)) (get_or s 23 0 ∷ get_or s 24 0 ∷ get_or s 25 0 ∷ []) (get_or s 26 0 ∷ drop 27 s)
      ∙ sym (from_0 ∙ ap (λ (l : List ℕ). (get_or s 0 0 ∷ get_or s 1 0 ∷ get_or s 2 0 ∷ take 20 (drop 3 s)) ++ l) from_23))

-- bytes taken for contents are the flat form of these contents
pub flat_again : (s : List ℕ) (c : Contents) → unflat s ≡ Some c → flat c ≡ s
unfolding unflat
flat_again s c e =
    let Right : Option Contents → Type 0 = λ (o : Option Contents). o ≡ Some c in
    let none : Right None → ⊥ = λ w. none-some c w in
    let a = held Right (eqb (length s) 283) _ None e none in
    let b = held Right (leb (get_or s 2 0) 1) _ None a.1 none in
    let whole = eqb-true (length s) 283 a.0 in
    let present = leb-true (get_or s 2 0) 1 b.0 in
    said (video_at s) refl b.1 whole present
  where
    said : (o : Option Video) → video_at s ≡ o → option_map (contents_of s) o ≡ Some c → length s ≡ 283 → get_or s 2 0 ≤ 1 → flat c ≡ s
    said None v d whole present = absurd (none-some c d)
    said (Some v) e d whole present = ap flat (sym (same_Some (contents_of s v) c d)) ∙ contents_again s whole v present e
