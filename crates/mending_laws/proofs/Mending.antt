-- The theorems about mending (02, A8).
use Prim.Native.Nat.{ℕ, zero, suc, ◌+◌, ◌-◌, ◌≤◌, ◌<◌}
use mathlib.Core.Path.{◌≡◌, refl, sym, ap, subst, ◌∙◌}
use mathlib.Core.Bool.{Bool, true, false, cond, ◌||◌, false≢true}
use mathlib.Core.Logic.{◌↔◌}
use mathlib.Core.List.{List, [], ◌∷◌, ◌++◌}
use native.Mathlib.Omega.{arith}
use native.Mathlib.Nat.{zero-add}
use native.Mathlib.Decide.{dec_lt}
use borrow.Author.Tests.{leb-true, le-leb}
use lib.Dec.{leb, ltb, eqb}
use lib.ListN.{length, take, drop, length-append}
use lib.Seq.{length-take-le, take_at, drop_at}
use Rattle.laws.specs.Calls.{over, room_number, done_with}
use Rattle.laws.proofs.Calls.{done, told_ok, told_zero, handed}
use Rattle.laws.proofs.Tests.{chosen, past}
use Rattle.mending.specs.Fields.{field_size, acceptable, any_field}
use Rattle.mending.specs.Parts.{Part, walk, parts_of, bytes_of, joined, kept_count}
use Rattle.mending.specs.Mending.{mended, recording_number, mend_number, mend_done, mend_out}
use Rattle.mending.specs.Places.{gap}
use Rattle.mending.proofs.Gaps.{fits, gap_none, gap_within, gap_at, none_gap, none_behind}
use Rattle.mending.proofs.Numbers.{a_field}
use Rattle.mending.proofs.Walks.{parts_kept, parts_dropped, count_drop, walk_bytes, mended_kept, mended_size, mended_over, joined_drop}
use Rattle.mending_laws.specs.Recordings.{IsField, Fields, none, more, Recording, mended_out}
use Rattle.mending_laws.specs.Spans.{KeptAt, Spared, whole, overlapped, Apart}
use Rattle.mending_laws.proofs.Fronts.{same_size, behind_too, kept_field}
use Rattle.mending_laws.proofs.Spans.{walk_apart, walk_spared, disjoint}

-- ---- the parts of a recording

-- dropped runs and kept fields, in order, are the input: no byte is in two of them, and none is left out
pub in_order : (s : List ℕ) → bytes_of (parts_of s) ≡ s
unfolding parts_of
in_order s = walk_bytes 0 s

-- the runs reported are maximal: none is empty and two are never adjacent
pub maximal : (s : List ℕ) → Apart (parts_of s)
unfolding parts_of
maximal s = walk_apart 0 s

-- whatever else is damaged, a whole acceptable field is kept unless a kept field before it overlaps it
pub spared : (s : List ℕ) (at : ℕ) → acceptable (drop at s) ≡ true → Spared (parts_of s) at (field_size (drop at s))
unfolding parts_of
spared s at e =
    let z = zero-add at in
    subst (λ (i : ℕ). Spared (walk 0 s) at (field_size (drop i s))) z (walk_spared 0 s at (ap (λ (i : ℕ). acceptable (drop i s)) z ∙ e))

-- kept fields do not overlap
pub no_overlap : (s : List ℕ) (start end start' end' : ℕ) → KeptAt (parts_of s) start end → KeptAt (parts_of s) start' end' → start' < end → end' ≤ end
no_overlap s start end start' end' k l h = disjoint (parts_of s) start end start' end' k l h

-- so of fields put one after another all are kept behind one that is
pub follows : (s : List ℕ) (start end : ℕ) → KeptAt (parts_of s) start end → acceptable (drop end s) ≡ true → KeptAt (parts_of s) end (end + field_size (drop end s))
follows s start end k e = go (spared s end e)
  where
    go : Spared (parts_of s) end (field_size (drop end s)) → KeptAt (parts_of s) end (end + field_size (drop end s))
    go (whole l) = l
    go (overlapped start' end' l h m) = absurd (let z : ⊥ = omega (arith, m, disjoint (parts_of s) start end start' end' k l h) in z)

-- ---- whole recordings

field_first : (f rest : List ℕ) → IsField f → mended (f ++ rest) ≡ f ++ mended rest
field_first f rest h =
    let n = same_size f rest h.all in
    mended_kept (f ++ rest) (behind_too f rest h.all h.starts)
    ∙ ap (λ (i : ℕ). take i (f ++ rest) ++ mended (drop i (f ++ rest))) n
    ∙ ap (λ (l : List ℕ). l ++ mended (drop (length f) (f ++ rest))) (take_at f rest (length f) refl)
    ∙ ap (λ (l : List ℕ). f ++ mended l) (drop_at f rest (length f) refl)

fields_stay : {s : List ℕ} → Fields s → mended s ≡ s
unfolding mended parts_of walk joined
fields_stay none = refl
fields_stay (more f rest h r) = field_first f rest h ∙ ap (λ (l : List ℕ). f ++ l) (fields_stay r)

some_start : {s : List ℕ} → Fields s → 0 < length s → gap s ≡ 0
some_start none h = absurd (let z : ⊥ = omega arith in z)
some_start (more f rest h r) l = gap_none (f ++ rest) (behind_too f rest h.all h.starts)

recording_right : (s : List ℕ) → Recording s → length s ≤ 65536 → recording_number s ≡ 0
recording_right s r h = a_field s h (omega (arith, some_start r.fields r.some, r.some))

-- "A recording of one or more whole acceptable fields comes out as it went in"
pub comes_out : (s out : List ℕ) → Recording s → length s ≤ 65536 → length s ≤ length out → (mend_done s (length out) ≡ done 0 (length s)) × (mend_out s out ≡ over s out)
unfolding mend_done mend_out mend_number
comes_out s out r h k =
    let m = fields_stay r.fields in
    let t = told_ok (recording_number s) s out (recording_right s r h) k in
    rw m (sym t.0, sym t.1)

-- ---- what is handed out

walk_fields : (n : ℕ) (s : List ℕ) → Fields (joined (walk n s))
unfolding joined walk
walk_fields zero [] = none
walk_fields (suc n) [] = none
walk_fields (suc n) (b ∷ s) = walk_fields n s
walk_fields zero (b ∷ s) =
    chosen (λ (l : List Part). Fields (joined l)) (acceptable (b ∷ s)) _ _
    (λ e. more (take (field_size (b ∷ s)) (b ∷ s)) _ (kept_field (b ∷ s) e) (walk_fields (field_size (b ∷ s) - 1) s))
    (λ _. subst Fields (sym (joined_drop b (walk zero s))) (walk_fields zero s))

-- a call that ends with 0 found a field in a recording that is not too long
found : (s : List ℕ) → recording_number s ≡ 0 → (length s ≤ 65536) × (gap s < length s)
unfolding recording_number
found s e =
    let p = past (leb (length s) 65536) 51 _ e (omega arith) in
    let q = past (any_field s) 50 _ p.1 (omega arith) in
    (leb-true (length s) 65536 p.0, go q.0)
  where
    go : any_field s ≡ true → gap s < length s
    go t =
        elim (dec_lt (gap s) (length s)) [
          | yes h ↦ h
          | no n ↦ absurd (false≢true (sym (none_gap s (omega (arith, gap_within s))) ∙ t))
        ]

mended_some : (s : List ℕ) → gap s < length s → 0 < length (mended s)
mended_some s h =
    let a = gap_at s h in
    let t : List ℕ = drop (gap s) s in
    let l = length-take-le (field_size t) t (fits t a).1 in
    omega (arith, (fits t a).0, l, ap length (mended_over s ∙ mended_kept t a), length-append (take (field_size t) t) (mended (drop (field_size t) t)))

mended_recording : (s : List ℕ) → recording_number s ≡ 0 → Recording (mended s)
unfolding mended parts_of
mended_recording s e = record { fields = walk_fields 0 s; some = mended_some s (found s e).1 }

-- the output is itself such a recording
pub is_recording : (s out : List ℕ) → (mend_done s (length out)).number ≡ 0 → Recording (mended_out s out)
unfolding mend_done mend_out mend_number done_with
is_recording s out e = subst Recording (sym (handed (mend_number s (length out)) (mended s) out e)) (mended_recording s (told_zero (recording_number s) (mended s) (length out) e).0)

most : (s out : List ℕ) → (mend_done s (length out)).number ≡ 0 → length (mended_out s out) ≤ 65536
unfolding mend_done mend_out mend_number done_with
most s out e =
    let f = found s (told_zero (recording_number s) (mended s) (length out) e).0 in
    omega (arith, ap length (handed (mend_number s (length out)) (mended s) out e), mended_size s, f.0)

-- mending twice is mending once
pub twice : (s out again : List ℕ) → (mend_done s (length out)).number ≡ 0 → length (mended_out s out) ≤ length again
    → (mend_done (mended_out s out) (length again) ≡ done 0 (length (mended_out s out))) × (mend_out (mended_out s out) again ≡ over (mended_out s out) again)
twice s out again e h = comes_out (mended_out s out) again (is_recording s out e) (most s out e) h

-- ---- 50

neither : (a b : Bool) → (a || b) ≡ false → (a ≡ false) × (b ≡ false)
neither true b e = absurd (false≢true (sym e))
neither false b e = (refl, e)

no_field_at : (s : List ℕ) → any_field s ≡ false → (at : ℕ) → acceptable (drop at s) ≡ false
unfolding any_field
no_field_at [] e at = none_behind [] at (omega arith)
no_field_at (b ∷ s) e zero = (neither (acceptable (b ∷ s)) (any_field s) e).0
no_field_at (b ∷ s) e (suc at) = no_field_at s (neither (acceptable (b ∷ s)) (any_field s) e).1 at

nowhere : (s : List ℕ) → ((at : ℕ) → acceptable (drop at s) ≡ false) → any_field s ≡ false
unfolding any_field
nowhere [] h = refl
nowhere (b ∷ s) h = rw (h 0) (nowhere s (λ at. h (suc at)))

kept_counts : (s : List ℕ) → acceptable s ≡ true → 0 < kept_count (parts_of s)
unfolding kept_count
kept_counts s a = omega (arith, ap kept_count (parts_kept s a))

-- "given exactly when no place in the input starts an acceptable field"
pub no_place : (s : List ℕ) → (any_field s ≡ false) ↔ ((at : ℕ) → acceptable (drop at s) ≡ false)
no_place s = (no_field_at s, nowhere s)

keeps_none : (s : List ℕ) → any_field s ≡ false → kept_count (parts_of s) ≡ 0
unfolding any_field parts_of walk kept_count
keeps_none [] e = refl
keeps_none (b ∷ s) e =
    let n = neither (acceptable (b ∷ s)) (any_field s) e in
    ap kept_count (parts_dropped b s n.0) ∙ count_drop b (parts_of s) ∙ keeps_none s n.1

finds_none : (s : List ℕ) → kept_count (parts_of s) ≡ 0 → any_field s ≡ false
unfolding any_field
finds_none [] e = refl
finds_none (b ∷ s) e = go (acceptable (b ∷ s)) refl (finds_none s)
  where
    go : (t : Bool) → acceptable (b ∷ s) ≡ t → (kept_count (parts_of s) ≡ 0 → any_field s ≡ false) → (acceptable (b ∷ s) || any_field s) ≡ false
    go true a r = absurd (let z : ⊥ = omega (arith, e, kept_counts (b ∷ s) a) in z)
    go false a r = rw a (r (sym (count_drop b (parts_of s)) ∙ ap kept_count (sym (parts_dropped b s a)) ∙ e))

-- which is that the walk keeps nothing
pub nothing_kept : (s : List ℕ) → (any_field s ≡ false) ↔ (kept_count (parts_of s) ≡ 0)
nothing_kept s = (keeps_none s, finds_none s)

tells_50 : (s : List ℕ) (room : ℕ) → length s ≤ 65536 → any_field s ≡ false → (mend_done s room).number ≡ 50
unfolding mend_done mend_number done_with room_number recording_number
tells_50 s room h e = rw (le-leb (length s) 65536 h, e)

told_50 : (s : List ℕ) (room : ℕ) → (mend_done s room).number ≡ 50 → (length s ≤ 65536) × ((at : ℕ) → acceptable (drop at s) ≡ false)
unfolding mend_done mend_number done_with room_number recording_number
told_50 s room e = go (leb (length s) 65536) (any_field s) (ltb room (length (mended s))) refl refl e
  where
    go : (t u v : Bool) → leb (length s) 65536 ≡ t → any_field s ≡ u
        → ◌≡◌ {A = ℕ} (cond (eqb (cond t (cond u 0 50) 51) 0) (cond v 12 0) (cond t (cond u 0 50) 51)) 50
        → (length s ≤ 65536) × ((at : ℕ) → acceptable (drop at s) ≡ false)
    go true false v p q h = (leb-true (length s) 65536 p, no_field_at s q)
    go true true true p q h = absurd (let z : ⊥ = omega (arith, h) in z)
    go true true false p q h = absurd (let z : ⊥ = omega (arith, h) in z)
    go false u v p q h = absurd (let z : ⊥ = omega (arith, h) in z)

-- the call tells 50 exactly there, whatever the room
pub exactly_50 : (s : List ℕ) (room : ℕ) → ((mend_done s room).number ≡ 50) ↔ ((length s ≤ 65536) × ((at : ℕ) → acceptable (drop at s) ≡ false))
exactly_50 s room = (told_50 s room, λ h. tells_50 s room h.0 (nowhere s h.1))
