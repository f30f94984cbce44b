-- The walk, a field or a run at a time.
use Prim.Native.Nat.{ℕ, zero, suc, ◌+◌, ◌-◌, ◌*◌, ◌≤◌, ◌<◌}
use mathlib.Core.Path.{◌≡◌, refl, sym, ap, ◌∙◌}
use mathlib.Core.List.{List, [], ◌∷◌, ◌++◌, append_assoc}
use mathlib.Core.Bool.{Bool, true, false}
use native.Mathlib.Omega.{arith}
use native.Mathlib.Numerals.{sub-one}
use lib.ListN.{length, take, drop, length-append, length-drop, take-append-drop, drop_of_length-le}
use lib.Seq.{sets, length-take-le, take-add}
use Rattle.laws.specs.Bytes.{Bytes}
use Rattle.laws.proofs.Lists.{sets_append}
use Rattle.laws.proofs.Tests.{chosen}
use Rattle.mending.specs.Fields.{field_size, acceptable}
use Rattle.mending.specs.Parts.{Part, kept, dropped, drop_then, walk, parts_of, bytes_of, joined, kept_count}
use Rattle.mending.specs.Mending.{mended}
use Rattle.mending.specs.Places.{gap, Stretch, Before}
use Rattle.mending.proofs.Gaps.{fits, smallest, gap_none, gap_more, gap_within, lands_at, drop_on, next_lands}

-- what is still to be passed over is passed over
pub walk_over : (n : ℕ) (s : List ℕ) → walk n s ≡ parts_of (drop n s)
unfolding walk parts_of
walk_over zero s = refl
walk_over (suc n) [] = refl
walk_over (suc n) (b ∷ s) = walk_over n s

drop_first : (n b : ℕ) (s : List ℕ) → 1 ≤ n → drop (n - 1) s ≡ drop n (b ∷ s)
drop_first zero b s h = absurd (let z : ⊥ = omega arith in z)
drop_first (suc n) b s h = rw sub-one

-- a place that starts an acceptable field
pub parts_kept : (s : List ℕ) → acceptable s ≡ true → parts_of s ≡ kept (take (field_size s) s) ∷ parts_of (drop (field_size s) s)
unfolding walk parts_of
parts_kept [] e = absurd (let z : ⊥ = omega (arith, fits [] e) in z)
parts_kept (b ∷ s) e =
    let f = kept (take (field_size (b ∷ s)) (b ∷ s)) in
    rw e (ap (λ (l : List Part). f ∷ l) (walk_over (field_size (b ∷ s) - 1) s ∙ ap parts_of (drop_first (field_size (b ∷ s)) b s (omega (arith, fits (b ∷ s) e)))))

-- and one that does not
pub parts_dropped : (b : ℕ) (s : List ℕ) → acceptable (b ∷ s) ≡ false → parts_of (b ∷ s) ≡ drop_then b (parts_of s)
unfolding walk parts_of
parts_dropped b s e = rw e

-- every byte is in one part, in the input's order
pub bytes_drop : (b : ℕ) (parts : List Part) → bytes_of (drop_then b parts) ≡ b ∷ bytes_of parts
unfolding bytes_of drop_then
bytes_drop b [] = refl
bytes_drop b (kept field ∷ parts) = refl
bytes_drop b (dropped run ∷ parts) = refl

pub walk_bytes : (n : ℕ) (s : List ℕ) → bytes_of (walk n s) ≡ drop n s
unfolding bytes_of walk
walk_bytes zero [] = refl
walk_bytes (suc n) [] = refl
walk_bytes (suc n) (b ∷ s) = walk_bytes n s
walk_bytes zero (b ∷ s) =
    chosen (λ (l : List Part). bytes_of l ≡ b ∷ s) (acceptable (b ∷ s)) _ _
    (λ e. (let n = field_size (b ∷ s) in
    ap (λ (l : List ℕ). take n (b ∷ s) ++ l) (walk_bytes (n - 1) s ∙ drop_first n b s (omega (arith, fits (b ∷ s) e))) ∙ take-append-drop n (b ∷ s)))
    (λ e. bytes_drop b (walk zero s) ∙ ap (λ (l : List ℕ). b ∷ l) (walk_bytes zero s))

-- ---- a run of bytes that are dropped

first_run : (b : ℕ) (s : List ℕ) → gap s ≡ 0 → drop_then b (parts_of s) ≡ dropped (b ∷ []) ∷ parts_of s
unfolding drop_then parts_of walk
first_run b [] e = refl
first_run b (x ∷ s) e = go (acceptable (x ∷ s)) refl
  where
    go : (t : Bool) → acceptable (x ∷ s) ≡ t → drop_then b (parts_of (x ∷ s)) ≡ dropped (b ∷ []) ∷ parts_of (x ∷ s)
    go true h = rw (parts_kept (x ∷ s) h)
    go false h = absurd (let z : ⊥ = omega (arith, e, gap_more x s h) in z)

-- up to the next acceptable field, or the end, it is one
pub parts_run : (s : List ℕ) → 0 < gap s → parts_of s ≡ dropped (take (gap s) s) ∷ parts_of (drop (gap s) s)
unfolding drop_then
parts_run [] h = absurd (let z : ⊥ = omega (arith, gap_within []) in z)
parts_run (b ∷ s) h = go (acceptable (b ∷ s)) (gap s) refl refl (parts_run s)
  where
    go : (t : Bool) (g : ℕ) → acceptable (b ∷ s) ≡ t → gap s ≡ g → (0 < gap s → parts_of s ≡ dropped (take (gap s) s) ∷ parts_of (drop (gap s) s))
        → parts_of (b ∷ s) ≡ dropped (take (gap (b ∷ s)) (b ∷ s)) ∷ parts_of (drop (gap (b ∷ s)) (b ∷ s))
    go true g e f r = absurd (let z : ⊥ = omega (arith, h, gap_none (b ∷ s) e) in z)
    go false zero e f r = parts_dropped b s e ∙ first_run b s f ∙ rw (gap_more b s e, f) refl
    go false (suc g) e f r = parts_dropped b s e ∙ ap (drop_then b) (r (omega (arith, f))) ∙ rw (gap_more b s e) refl

-- ---- what is kept

pub joined_drop : (b : ℕ) (parts : List Part) → joined (drop_then b parts) ≡ joined parts
unfolding joined drop_then
joined_drop b [] = refl
joined_drop b (kept field ∷ parts) = refl
joined_drop b (dropped run ∷ parts) = refl

pub mended_over : (s : List ℕ) → mended s ≡ mended (drop (gap s) s)
unfolding mended gap
mended_over [] = refl
mended_over (b ∷ s) = go (acceptable (b ∷ s)) refl (mended_over s)
  where
    go : (t : Bool) → acceptable (b ∷ s) ≡ t → mended s ≡ mended (drop (gap s) s) → mended (b ∷ s) ≡ mended (drop (gap (b ∷ s)) (b ∷ s))
    go true e r = rw (gap_none (b ∷ s) e)
    go false e r = rw (gap_more b s e) (ap joined (parts_dropped b s e) ∙ joined_drop b (parts_of s) ∙ r)

pub mended_kept : (s : List ℕ) → acceptable s ≡ true → mended s ≡ take (field_size s) s ++ mended (drop (field_size s) s)
unfolding mended joined
mended_kept s e = ap joined (parts_kept s e)

pub count_drop : (b : ℕ) (parts : List Part) → kept_count (drop_then b parts) ≡ kept_count parts
unfolding kept_count drop_then
count_drop b [] = refl
count_drop b (kept field ∷ parts) = refl
count_drop b (dropped run ∷ parts) = refl

-- no more is kept than there is
pub mended_size : (s : List ℕ) → length (mended s) ≤ length s
unfolding mended parts_of walk joined
mended_size s = omega (arith, go 0 s)
  where
    go : (n : ℕ) (s : List ℕ) → length (joined (walk n s)) ≤ length s - n
    go zero [] = omega arith
    go (suc n) [] = omega arith
    go (suc n) (b ∷ s) = omega (arith, go n s)
    go zero (b ∷ s) =
        chosen (λ (l : List Part). length (joined l) ≤ suc (length s) - 0) (acceptable (b ∷ s)) _ _
        (λ e. (let f : List ℕ = take (field_size (b ∷ s)) (b ∷ s) in
        omega (arith, go (field_size (b ∷ s) - 1) s, length-append f (joined (walk (field_size (b ∷ s) - 1) s)), length-take-le (field_size (b ∷ s)) (b ∷ s) (fits (b ∷ s) e).1, fits (b ∷ s) e)))
        (λ e. omega (arith, go zero s, ap length (joined_drop b (walk zero s))))

-- so many fields of eight bytes or more
pub count_size : (s : List ℕ) → Bytes s → 8 * kept_count (parts_of s) ≤ length s
unfolding parts_of kept_count walk
count_size s h = omega (arith, go 0 s h)
  where
    go : (n : ℕ) (s : List ℕ) → Bytes s → 8 * kept_count (walk n s) ≤ length s - n
    go zero [] h = omega arith
    go (suc n) [] h = omega arith
    go (suc n) (b ∷ s) h = omega (arith, go n s (λ k. h (suc k)))
    go zero (b ∷ s) h =
        chosen (λ (l : List Part). 8 * kept_count l ≤ suc (length s) - 0) (acceptable (b ∷ s)) _ _
        (λ e. omega (arith, go (field_size (b ∷ s) - 1) s (λ k. h (suc k)), smallest (b ∷ s) h e, fits (b ∷ s) e))
        (λ e. omega (arith, go zero s (λ k. h (suc k)), count_drop b (walk zero s)))

-- ---- stretches of fields that follow one another

pub one_field : (s : List ℕ) (at end : ℕ) → at < length s → acceptable (drop at s) ≡ true → end ≡ at + field_size (drop at s) → Stretch s at end
one_field s at end h a e =
    let k = fits (drop at s) a in
    let n : field_size (drop at s) ≡ end - at = omega (arith, e) in
    record {
      goes_on = omega (arith, e, k);
      within = omega (arith, e, k, length-drop at s, h);
      kept =
          mended_kept (drop at s) a ∙ ap (λ (m : ℕ). take m (drop at s) ++ mended (drop m (drop at s))) n
          ∙ ap (λ (l : List ℕ). take (end - at) (drop at s) ++ mended l) (drop_on s at (end - at) end (omega (arith, e)));
    }

-- at a place that starts an acceptable field, which ends at end, next being the place that starts the next one, or the recording's end
pub record Turn (s : List ℕ) (at end next : ℕ) : Type 0 where
  pub starts : acceptable (drop at s) ≡ true
  pub stretch : Stretch s at end
  pub within : next ≤ length s
  pub after : end ≤ next
  pub field : end - at ≡ field_size (drop at s)
  pub rest : drop (field_size (drop at s)) (drop at s) ≡ drop end s

pub turn : (s : List ℕ) (at end next : ℕ) → at < length s → gap (drop at s) ≡ 0 → end ≡ at + field_size (drop at s) → next ≡ end + gap (drop end s) → Turn s at end next
turn s at end next h g e f =
    let a = lands_at s at h g in
    let t = one_field s at end h a e in
    record {
      starts = a;
      stretch = t;
      within = omega (arith, f, gap_within (drop end s), length-drop end s, t.within);
      after = omega (arith, f);
      field = omega (arith, e);
      rest = drop_on s at (field_size (drop at s)) end e;
    }

-- one behind another
pub stretch_on : (s : List ℕ) (at mid end : ℕ) → Stretch s at mid → Stretch s mid end → Stretch s at end
stretch_on s at mid end p q =
    let x : List ℕ = take (mid - at) (drop at s) in
    let y : List ℕ = take (end - mid) (drop mid s) in
    let n : mid - at + (end - mid) ≡ end - at = omega (arith, p.goes_on, q.goes_on) in
    let d = drop_on s at (mid - at) mid (omega (arith, p.goes_on)) in
    let j : x ++ y ≡ take (end - at) (drop at s) =
    ap (λ (l : List ℕ). x ++ take (end - mid) l) (sym d) ∙ sym (take-add (mid - at) (end - mid) (drop at s)) ∙ ap (λ (i : ℕ). take i (drop at s)) n in
    record {
      goes_on = omega (arith, p.goes_on, q.goes_on);
      within = q.within;
      kept = p.kept ∙ ap (λ (l : List ℕ). x ++ l) q.kept ∙ sym (append_assoc x y (mended (drop end s))) ∙ ap (λ (l : List ℕ). l ++ mended (drop end s)) j;
    }

-- what is kept from a stretch on, with the next place that starts a field
pub stretch_over : (s : List ℕ) (at end next : ℕ) → Stretch s at end → next ≡ end + gap (drop end s) → mended (drop at s) ≡ take (end - at) (drop at s) ++ mended (drop next s)
stretch_over s at end next t g =
    t.kept ∙ ap (λ (l : List ℕ). take (end - at) (drop at s) ++ l) (mended_over (drop end s) ∙ ap mended (drop_on s end (gap (drop end s)) next g))

pub stretch_size : (s : List ℕ) (at end : ℕ) → Stretch s at end → length (take (end - at) (drop at s)) ≡ end - at
stretch_size s at end t = length-take-le (end - at) (drop at s) (omega (arith, t.within, length-drop at s))

pub next_before : (s : List ℕ) (at end next size : ℕ) → Stretch s at end → next ≡ end + gap (drop end s) → size ≤ end → Before s next size
next_before s at end next size t g h =
    record {
      within = omega (arith, g, t.within, gap_within (drop end s), length-drop end s);
      lands = next_lands s end next g;
      fewer = omega (arith, g, h);
    }

-- the bytes m stand in a buffer from a place on once what is kept from a place of the recording on is put behind what was put
pub record Putting (s m out₀ out : List ℕ) (place at next : ℕ) : Type 0 where
  pub before : Before s at next
  pub stands : sets out₀ place m ≡ sets out next (mended (drop at s))
  pub size : place + length m ≡ next + length (mended (drop at s))

pub putting_next : (s m out₀ out out' : List ℕ) (place at next end at' : ℕ) → Putting s m out₀ out place at next → Stretch s at end → at' ≡ end + gap (drop end s)
    → out' ≡ sets out next (take (end - at) (drop at s)) → Putting s m out₀ out' place at' (next + (end - at))
putting_next s m out₀ out out' place at next end at' p t g e =
    let f : List ℕ = take (end - at) (drop at s) in
    let n = stretch_size s at end t in
    let k : mended (drop at s) ≡ f ++ mended (drop at' s) = stretch_over s at end at' t g in
    record {
      before = next_before s at end at' (next + (end - at)) t g (omega (arith, p.before.fewer, t.goes_on));
      stands =
          p.stands ∙ ap (sets out next) k ∙ sym (sets_append out next f (mended (drop at' s)))
          ∙ ap (λ (i : ℕ). sets (sets out next f) (next + i) (mended (drop at' s))) n
          ∙ ap (λ (l : List ℕ). sets l (next + (end - at)) (mended (drop at' s))) (sym e);
      size = omega (arith, p.size, ap length k, length-append f (mended (drop at' s)), n);
    }

pub putting_last : (s m out₀ out : List ℕ) (place at next : ℕ) → Putting s m out₀ out place at next → length s ≤ at
    → (next ≡ place + length m) × (out ≡ sets out₀ place m)
unfolding mended parts_of joined walk
putting_last s m out₀ out place at next p h =
    let d : drop at s ≡ [] = drop_of_length-le s h in
    (omega (arith, p.size, ap (λ (l : List ℕ). length (mended l)) d), sym (p.stands ∙ ap (λ (l : List ℕ). sets out next (mended l)) d))
