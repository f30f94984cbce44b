-- The walk by places: which fields are kept, and that the runs between them are as long as they can be.
use Prim.Native.Nat.{ℕ, zero, suc, ◌+◌, ◌-◌, ◌≤◌, ◌<◌}
use mathlib.Core.Path.{◌≡◌, refl, sym, ap, subst, ◌∙◌}
use mathlib.Core.Bool.{true, false, false≢true}
use mathlib.Core.List.{List, [], ◌∷◌, ◌++◌}
use native.Mathlib.Omega.{arith}
use native.Mathlib.Nat.{suc-add, zero-add}
use native.Mathlib.Decide.{dec_lt}
use lib.ListN.{length, take, drop, length-append}
use lib.Seq.{length-take-le, drop-nil}
use Rattle.laws.proofs.Tests.{chosen}
use Rattle.mending.specs.Fields.{field_size, acceptable}
use Rattle.mending.specs.Parts.{Part, kept, dropped, drop_then, walk, bytes_of}
use Rattle.mending.proofs.Gaps.{fits}
use Rattle.mending.proofs.Walks.{bytes_drop}
use Rattle.mending_laws.specs.Spans.{KeptAt, Spared, whole, overlapped, Apart}

-- ---- runs

apart_drop : (b : ℕ) (parts : List Part) → Apart parts → Apart (drop_then b parts)
unfolding Apart drop_then
apart_drop b [] h = h
apart_drop b (kept field ∷ parts) h = h
apart_drop b (dropped [] ∷ parts) h = absurd h
apart_drop b (dropped (x ∷ run) ∷ []) h = h
apart_drop b (dropped (x ∷ run) ∷ kept field ∷ parts) h = h
apart_drop b (dropped (x ∷ run) ∷ dropped more ∷ parts) h = h

pub walk_apart : (n : ℕ) (s : List ℕ) → Apart (walk n s)
unfolding Apart walk
walk_apart zero [] = tt
walk_apart (suc n) [] = tt
walk_apart (suc n) (b ∷ s) = walk_apart n s
walk_apart zero (b ∷ s) = chosen Apart (acceptable (b ∷ s)) _ _ (λ _. walk_apart (field_size (b ∷ s) - 1) s) (λ _. apart_drop b (walk zero s) (walk_apart zero s))

-- ---- kept fields, with more in front of them

behind_field : (f : List ℕ) (parts : List Part) (start end : ℕ) → KeptAt parts start end → KeptAt (kept f ∷ parts) (length f + start) (length f + end)
unfolding bytes_of
behind_field f parts start end k =
    record {
      before = kept f ∷ k.before;
      field = k.field;
      after = k.after;
      split = ap (λ (l : List Part). kept f ∷ l) k.split;
      starts = omega (arith, k.starts, length-append f (bytes_of k.before));
      ends = omega (arith, k.ends);
    }

drop_front : (b : ℕ) (before : List Part) (field : List ℕ) (after : List Part) → drop_then b (before ++ kept field ∷ after) ≡ drop_then b before ++ kept field ∷ after
unfolding drop_then
drop_front b [] field after = refl
drop_front b (kept f ∷ before) field after = refl
drop_front b (dropped run ∷ before) field after = refl

behind_byte : (b : ℕ) (parts : List Part) (start end : ℕ) → KeptAt parts start end → KeptAt (drop_then b parts) (suc start) (suc end)
behind_byte b parts start end k =
    record {
      before = drop_then b k.before;
      field = k.field;
      after = k.after;
      split = ap (drop_then b) k.split ∙ drop_front b k.before k.field k.after;
      starts = omega (arith, k.starts, ap length (bytes_drop b k.before));
      ends = omega (arith, k.ends);
    }

spared_field : (f : List ℕ) (parts : List Part) (at size : ℕ) → Spared parts at size → Spared (kept f ∷ parts) (length f + at) size
spared_field f parts at size (whole k) =
    let e : length f + (at + size) ≡ length f + at + size = omega arith in
    whole (subst (KeptAt (kept f ∷ parts) (length f + at)) e (behind_field f parts at (at + size) k))
spared_field f parts at size (overlapped start end k h l) = overlapped (length f + start) (length f + end) (behind_field f parts start end k) (omega (arith, h)) (omega (arith, l))

spared_byte : (b : ℕ) (parts : List Part) (at size : ℕ) → Spared parts at size → Spared (drop_then b parts) (suc at) size
spared_byte b parts at size (whole k) =
    let e : suc (at + size) ≡ suc at + size = omega arith in
    whole (subst (KeptAt (drop_then b parts) (suc at)) e (behind_byte b parts at (at + size) k))
spared_byte b parts at size (overlapped start end k h l) = overlapped (suc start) (suc end) (behind_byte b parts start end k) (omega (arith, h)) (omega (arith, l))

-- ---- every acceptable field, counted from where the walk goes on

module _ (f : List ℕ) (rest : List Part) where
  first_kept : KeptAt (kept f ∷ rest) 0 (length f)
  unfolding bytes_of
  first_kept = record { before = []; field = f; after = rest; split = refl; starts = refl; ends = omega arith }

-- the size of what stands at a place
abbrev pub size_at : List ℕ → ℕ → ℕ
size_at s k = field_size (drop k s)

abbrev pub Next : ℕ → List ℕ → Type 0
Next n s = (k : ℕ) → acceptable (drop (n + k) s) ≡ true → Spared (walk n s) k (size_at s (n + k))

-- where the first field is kept: at it, within it, behind it
module _ (b : ℕ) (s : List ℕ) (a : acceptable (b ∷ s) ≡ true) where
  abbrev m : ℕ
  m = field_size (b ∷ s)

  abbrev f : List ℕ
  f = take m (b ∷ s)

  abbrev all : List Part
  all = kept f ∷ walk (m - 1) s

  long : length f ≡ m
  long = length-take-le m (b ∷ s) (fits (b ∷ s) a).1

  at_it : (k : ℕ) → k ≡ 0 → Spared all k (size_at (b ∷ s) k)
  at_it k z =
      subst (λ (i : ℕ). Spared all i (size_at (b ∷ s) i)) (sym z)
      (whole (subst (KeptAt all 0) (long ∙ sym (zero-add m)) (first_kept f (walk (m - 1) s))))

  behind_it : (k : ℕ) → m ≤ k → acceptable (drop k (b ∷ s)) ≡ true → Next (m - 1) s → Spared all k (size_at (b ∷ s) k)
  behind_it k h e r =
      let d : suc (m - 1 + (k - m)) ≡ k = omega (arith, h, (fits (b ∷ s) a).0) in
      let t : drop (m - 1 + (k - m)) s ≡ drop k (b ∷ s) = ap (λ (i : ℕ). drop i (b ∷ s)) d in
      let p : length f + (k - m) ≡ k = omega (arith, long, h) in
      subst (λ (i : ℕ). Spared all i (size_at (b ∷ s) k)) p
      (subst (λ (l : List ℕ). Spared all (length f + (k - m)) (field_size l)) t
      (spared_field f (walk (m - 1) s) (k - m) (size_at s (m - 1 + (k - m))) (r (k - m) (ap acceptable t ∙ e))))

  at_field : (k : ℕ) → acceptable (drop k (b ∷ s)) ≡ true → Next (m - 1) s → Spared all k (size_at (b ∷ s) k)
  at_field k e r =
      elim (dec_lt k m) [
        | yes h ↦ elim (dec_lt 0 k) [
          | yes l ↦ overlapped 0 (length f) (first_kept f (walk (m - 1) s)) l (omega (arith, h, long))
          | no n ↦ at_it k (omega arith)
        ]
        | no n ↦ behind_it k (omega arith) e r
      ]

-- where a byte is dropped
at_byte : (b : ℕ) (s : List ℕ) (k : ℕ) → acceptable (b ∷ s) ≡ false → acceptable (drop k (b ∷ s)) ≡ true → Next zero s → Spared (drop_then b (walk zero s)) k (size_at (b ∷ s) k)
at_byte b s zero a e r = absurd (false≢true (sym a ∙ e))
at_byte b s (suc k) a e r =
    let z = zero-add k in
    spared_byte b (walk zero s) k (size_at s k) (subst (λ (i : ℕ). Spared (walk zero s) k (size_at s i)) z (r k (ap (λ (i : ℕ). acceptable (drop i s)) z ∙ e)))

none_empty : (i : ℕ) → acceptable (drop i []) ≡ true → ⊥
none_empty i e = omega (arith, fits (drop i []) e, ap length (drop-nil {A = ℕ} i))

pub walk_spared : (n : ℕ) (s : List ℕ) → Next n s
unfolding walk
walk_spared zero [] k e = absurd (none_empty (zero + k) e)
walk_spared (suc n) [] k e = absurd (none_empty (suc n + k) e)
walk_spared (suc n) (b ∷ s) k e =
    let d : drop (suc n + k) (b ∷ s) ≡ drop (n + k) s = ap (λ (i : ℕ). drop i (b ∷ s)) (suc-add n k) in
    subst (λ (l : List ℕ). Spared (walk n s) k (field_size l)) (sym d) (walk_spared n s k (ap acceptable (sym d) ∙ e))
walk_spared zero (b ∷ s) k e =
    let z = zero-add k in
    let e' : acceptable (drop k (b ∷ s)) ≡ true = ap (λ (i : ℕ). acceptable (drop i (b ∷ s))) (sym z) ∙ e in
    subst (λ (i : ℕ). Spared (walk zero (b ∷ s)) k (size_at (b ∷ s) i)) (sym z)
    (chosen (λ (l : List Part). Spared l k (size_at (b ∷ s) k)) (acceptable (b ∷ s)) _ _
    (λ a. at_field b s a k e' (walk_spared (field_size (b ∷ s) - 1) s))
    (λ a. at_byte b s k a e' (walk_spared zero s)))

-- ---- kept fields do not overlap: one that starts before another ends, ends no later

abbrev size_of : List Part → ℕ
size_of parts = length (bytes_of parts)

first_size : (x : Part) (parts : List Part) → size_of (x ∷ parts) ≡ size_of (x ∷ []) + size_of parts
unfolding bytes_of
first_size (kept field) parts = omega (arith, length-append field (bytes_of parts), length-append field [])
first_size (dropped run) parts = omega (arith, length-append run (bytes_of parts), length-append run [])

module _ (f g : List ℕ) where
  apart_fields : (b c : List Part) (after rest : List Part) → b ++ kept f ∷ after ≡ c ++ kept g ∷ rest → size_of c < size_of b + length f → size_of c + length g ≤ size_of b + length f
  unfolding bytes_of
  apart_fields [] [] after rest e h = let q : f ≡ g = cc in omega (arith, ap length q)
  apart_fields [] (x ∷ c) after rest e h =
      let q : x ≡ kept f = cc in
      let n : size_of (x ∷ c) ≡ length f + size_of c = ap (λ (p : Part). size_of (p ∷ c)) q ∙ length-append f (bytes_of c) in
      absurd (let z : ⊥ = omega (arith, h, n) in z)
  apart_fields (x ∷ b) [] after rest e h =
      let q : x ≡ kept g = cc in
      let n : size_of (x ∷ b) ≡ length g + size_of b = ap (λ (p : Part). size_of (p ∷ b)) q ∙ length-append g (bytes_of b) in
      omega (arith, n)
  apart_fields (x ∷ b) (y ∷ c) after rest e h =
      let q : x ≡ y = cc in
      let r : b ++ kept f ∷ after ≡ c ++ kept g ∷ rest = cc in
      let m = first_size x b in
      let n : size_of (y ∷ c) ≡ size_of (x ∷ []) + size_of c = ap (λ (p : Part). size_of (p ∷ c)) (sym q) ∙ first_size x c in
      omega (arith, m, n, apart_fields b c after rest r (omega (arith, h, m, n)))

pub disjoint : (parts : List Part) (start end start' end' : ℕ) → KeptAt parts start end → KeptAt parts start' end' → start' < end → end' ≤ end
disjoint parts start end start' end' k l h =
    let n = apart_fields k.field l.field k.before l.before k.after l.after (sym k.split ∙ l.split) (omega (arith, k.starts, k.ends, l.starts, h)) in
    omega (arith, k.starts, k.ends, l.starts, l.ends, n)
