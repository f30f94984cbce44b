-- Laws of the tests on contents, and what readable contents give the writers.
use Prim.Native.Nat.{ℕ, zero, suc, ◌≤◌, ◌<◌}
use mathlib.Core.List.{List, [], ◌∷◌, ◌++◌}
use mathlib.Core.Path.{◌≡◌, refl, ap, sym, ◌∙◌}
use mathlib.Core.Bool.{true, ◌&&◌, and_assoc}
use Rattle.std.specs.List.{list_all}
use native.Mathlib.Omega.{arith}
use native.Mathlib.Nat.{not-suc-le-zero, le_of_suc-le-suc}
use lib.ListN.{length, get_or, take, replicate}
use lib.Pointwise.{pointwise}
use lib.Dec.{leb, eqb}
use borrow.Author.Tests.{leb-true}
use Rattle.laws.proofs.Tests.{both}
use Rattle.rates.specs.Rates.{rate_listed}
use Rattle.rates.specs.Mixes.{mix_listed}
use Rattle.rates.specs.Cadence.{count_occurs}
use Rattle.rates.proofs.Mixes.{mix_small}
use Rattle.rates.proofs.Table.{at_most_11, occurs_1_to_5}
use Rattle.container.specs.declared.Print.{Print}
use Rattle.container.specs.declared.Contents.{Contents}
use Rattle.container.specs.Contents.{blank_print, all_carry, same_count}
use Rattle.container.specs.Writing.{all_zero, id_readable, video_readable, print_readable, print_blank, prints_readable, readable, PrintFits, Fits}

pub zeros_all : (s : List ℕ) → all_zero s ≡ list_all (λ x. eqb x 0) s
unfolding all_zero
zeros_all [] = refl
zeros_all (x ∷ s) = ap (λ t. eqb x 0 && t) (zeros_all s)

-- whether they are those of as many zeros
pub zeros_same : (s : List ℕ) (n : ℕ) → length s ≡ n → pointwise eqb s (replicate n 0) ≡ all_zero s
unfolding all_zero
zeros_same [] zero e = refl
zeros_same [] (suc n) e = absurd (let z : ⊥ = omega arith in z)
zeros_same (x ∷ s) zero e = absurd (let z : ⊥ = omega arith in z)
zeros_same (x ∷ s) (suc n) e = ap (λ t. eqb x 0 && t) (zeros_same s n (omega arith))

blanks_all : (rate : ℕ) (ps : List Print) → prints_readable rate 0 ps ≡ list_all print_blank ps
unfolding prints_readable
blanks_all rate [] = refl
blanks_all rate (p ∷ ps) = ap (λ t. print_blank p && t) (blanks_all rate ps)

pub places_all : (rate : ℕ) (used unused : List Print)
    → prints_readable rate (length used) (used ++ unused) ≡ (list_all (print_readable rate) used && list_all print_blank unused)
unfolding prints_readable
places_all rate [] unused = blanks_all rate unused
places_all rate (p ∷ used) unused = ap (λ t. print_readable rate p && t) (places_all rate used unused) ∙ sym (and_assoc (print_readable rate p) (list_all (print_readable rate) used) (list_all print_blank unused))

-- ---- fingerprints of one count

carry_all : (n : ℕ) (ps : List Print) → all_carry n ps ≡ list_all (λ p. eqb p.size n) ps
unfolding all_carry
carry_all n [] = refl
carry_all n (p ∷ ps) = ap (λ t. eqb p.size n && t) (carry_all n ps)

pub same_all : (p : Print) (ps : List Print) → get_or ps 0 blank_print ≡ p → same_count ps ≡ list_all (λ q. eqb q.size p.size) ps
unfolding same_count
same_all p ps e = rw e (carry_all p.size ps)

pub same_none : (ps : List Print) → length ps ≡ 0 → same_count ps ≡ true
unfolding same_count all_carry
same_none [] e = refl
same_none (p ∷ ps) e = absurd (let z : ⊥ = omega (arith, e) in z)

pub same_first : (n : ℕ) (ps : List Print) → same_count (take n ps) ≡ all_carry (get_or ps 0 blank_print).size (take n ps)
unfolding same_count all_carry
same_first zero ps = refl
same_first (suc n) [] = refl
same_first (suc n) (p ∷ ps) = refl

-- ---- what the writers ask

pub print_occurs : (rate : ℕ) (p : Print) → print_readable rate p ≡ true → count_occurs rate p.size ≡ true
unfolding print_readable
print_occurs rate p e = (both (count_occurs rate p.size) _ (both (mix_listed p.mix) _ (both (leb p.id 31) _ e).1).1).0

pub print_fits : (rate : ℕ) (p : Print) → print_readable rate p ≡ true → PrintFits p
unfolding print_readable
print_fits rate p e =
    let q₁ = both (leb p.id 31) _ e in
    let q₂ = both (mix_listed p.mix) _ q₁.1 in
    let few = occurs_1_to_5 rate p.size (print_occurs rate p e) in
    record { id = leb-true _ _ q₁.0; mix = mix_small p.mix q₂.0; some = few.0; five = few.1 }

pub each_readable : (rate n : ℕ) (ps : List Print) → n ≤ length ps → prints_readable rate n ps ≡ true → (k : ℕ) → k < n → print_readable rate (get_or ps k blank_print) ≡ true
unfolding prints_readable
each_readable rate zero [] l e k h = absurd (not-suc-le-zero h)
each_readable rate (suc n) [] l e k h = absurd (not-suc-le-zero l)
each_readable rate zero (p ∷ ps) l e k h = absurd (not-suc-le-zero h)
each_readable rate (suc n) (p ∷ ps) l e zero h = (both (print_readable rate p) _ e).0
each_readable rate (suc n) (p ∷ ps) l e (suc k) h =
    each_readable rate n ps (le_of_suc-le-suc l) (both (print_readable rate p) _ e).1 k (le_of_suc-le-suc h)

-- what passes 29, test by test
pub record Passes (c : Contents) : Type 0 where
  pub rate : rate_listed c.rate ≡ true
  pub id : id_readable c.hasid c.id ≡ true
  pub video : video_readable c.rate c.video ≡ true
  pub many : c.count ≤ 32
  pub prints : prints_readable c.rate c.count c.prints ≡ true
  pub counts : same_count (take c.count c.prints) ≡ true

pub passes : (c : Contents) → readable c ≡ true → Passes c
unfolding readable
passes c e =
    let q₁ = both (rate_listed c.rate) _ e in
    let q₂ = both (id_readable c.hasid c.id) _ q₁.1 in
    let q₃ = both (video_readable c.rate c.video) _ q₂.1 in
    let q₄ = both (leb c.count 32) _ q₃.1 in
    let q₅ = both (prints_readable c.rate c.count c.prints) _ q₄.1 in
    record { rate = q₁.0; id = q₂.0; video = q₃.0; many = leb-true _ _ q₄.0; prints = q₅.0; counts = q₅.1 }

pub readable_fits : (c : Contents) → length c.prints ≡ 32 → readable c ≡ true → Fits c
readable_fits c l e =
    let p = passes c e in
    let many = p.many in
    record {
      rate = at_most_11 c.rate p.rate;
      run = record { many = many; each = λ k h. print_fits c.rate _ (each_readable c.rate c.count c.prints (omega arith) p.prints k h) };
    }
