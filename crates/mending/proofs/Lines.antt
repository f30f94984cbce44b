-- The lines of a report, a run and a field at a time.
use Prim.Native.Nat.{ℕ, suc, ◌+◌, ◌-◌, ◌≤◌, ◌<◌}
use mathlib.Core.Path.{◌≡◌, refl, sym, ap, ◌∙◌}
use mathlib.Core.List.{List, [], ◌∷◌, ◌++◌, append_assoc, append-nil}
use native.Mathlib.Omega.{arith}
use native.Mathlib.Nat.{add-zero}
use native.Mathlib.Decide.{dec_lt}
use borrow.Author.Tests.{lt-ltb, le-ltb}
use lib.ListN.{length, take, drop, drop_of_length-le, length-drop}
use lib.Seq.{length-take-le}
use Rattle.text.specs.Lines.{last_place, Put}
use Rattle.text.proofs.Pieces.{put_none, put_then, put_as}
use Rattle.mending.specs.Fields.{field_size}
use Rattle.mending.specs.Parts.{kept, dropped, parts_of, walk, kept_count}
use Rattle.mending.specs.Report.{run_text, runs_text, kept_text, mended_text}
use Rattle.mending.specs.Places.{gap, run_between}
use Rattle.mending.proofs.Gaps.{gap_within, drop_on}
use Rattle.mending.proofs.Walks.{parts_kept, parts_run, Turn}

pub no_run : (start end : ℕ) → end ≤ start → run_between start end ≡ []
unfolding run_between
no_run start end h = rw (le-ltb start end h)

pub a_run : (start end : ℕ) → start < end → run_between start end ≡ run_text start (end - start)
unfolding run_between
a_run start end h = rw (lt-ltb start end h)

-- ---- the parts from a place on: the run up to the next field, then the field

module _ (s : List ℕ) (start at : ℕ) (e : at ≡ start + gap (drop start s)) where
  past : drop (gap (drop start s)) (drop start s) ≡ drop at s
  past = drop_on s start (gap (drop start s)) at e

  none : gap (drop start s) ≡ 0 → at ≡ start
  none z = omega (arith, e, z)

  pub runs_over : runs_text start (parts_of (drop start s)) ≡ run_between start at ++ runs_text at (parts_of (drop at s))
  unfolding runs_text
  runs_over =
      elim (dec_lt 0 (gap (drop start s))) [
        | yes h ↦ (let n : length (take (gap (drop start s)) (drop start s)) ≡ at - start = length-take-le (gap (drop start s)) (drop start s) (gap_within (drop start s)) ∙ omega (arith, e) in
            ap (runs_text start) (parts_run (drop start s) h ∙ ap (λ (l : List ℕ). dropped (take (gap (drop start s)) (drop start s)) ∷ parts_of l) past)
            ∙ ap (λ (m : ℕ). run_text start m ++ runs_text (start + m) (parts_of (drop at s))) n
            ∙ ap (λ (m : ℕ). run_text start (at - start) ++ runs_text m (parts_of (drop at s))) (let k : start + (at - start) ≡ at = omega (arith, e) in k)
            ∙ ap (λ (l : List ℕ). l ++ runs_text at (parts_of (drop at s))) (sym (a_run start at (omega (arith, e, h)))))
        | no n ↦ (let z : at ≡ start = none (omega arith) in
            ap (λ (m : ℕ). runs_text m (parts_of (drop m s))) (sym z) ∙ ap (λ (l : List ℕ). l ++ runs_text at (parts_of (drop at s))) (sym (no_run start at (omega (arith, z)))))
      ]

  pub count_over : kept_count (parts_of (drop start s)) ≡ kept_count (parts_of (drop at s))
  unfolding kept_count
  count_over =
      elim (dec_lt 0 (gap (drop start s))) [
        | yes h ↦ ap kept_count (parts_run (drop start s) h) ∙ ap (λ (l : List ℕ). kept_count (parts_of l)) past
        | no n ↦ ap (λ (m : ℕ). kept_count (parts_of (drop m s))) (sym (none (omega arith)))
      ]

module _ (s : List ℕ) (at end next : ℕ) (t : Turn s at end next) where
  parts : parts_of (drop at s) ≡ kept (take (field_size (drop at s)) (drop at s)) ∷ parts_of (drop end s)
  parts = parts_kept (drop at s) t.starts ∙ ap (λ (l : List ℕ). kept (take (field_size (drop at s)) (drop at s)) ∷ parts_of l) t.rest

  pub runs_field : runs_text at (parts_of (drop at s)) ≡ runs_text end (parts_of (drop end s))
  unfolding runs_text
  runs_field =
      let n : length (take (field_size (drop at s)) (drop at s)) ≡ end - at = length-take-le (field_size (drop at s)) (drop at s) (omega (arith, t.field, t.stretch.within, length-drop at s)) ∙ sym t.field in
      let k : at + (end - at) ≡ end = omega (arith, t.stretch.goes_on) in
      ap (runs_text at) parts ∙ ap (λ (m : ℕ). runs_text (at + m) (parts_of (drop end s))) n ∙ ap (λ (m : ℕ). runs_text m (parts_of (drop end s))) k

  pub count_field : kept_count (parts_of (drop at s)) ≡ suc (kept_count (parts_of (drop end s)))
  unfolding kept_count
  count_field = ap kept_count parts

-- ---- the loop: what was said, and what is left to say from the place after the last field

pub record Saying (s out₀ out : List ℕ) (kept start at p : ℕ) : Type 0 where
  pub within : start ≤ length s
  pub place : at ≡ start + gap (drop start s)
  pub text : List ℕ
  pub said : Put out₀ 0 text out p
  pub left : runs_text 0 (parts_of s) ≡ text ++ runs_text start (parts_of (drop start s))
  pub count : kept_count (parts_of s) ≡ kept + kept_count (parts_of (drop start s))

pub saying_first : (s out : List ℕ) (first : ℕ) → first ≡ gap s → Saying s out out 0 0 first 0
saying_first s out first e =
    record {
      within = omega arith;
      place = omega (arith, e);
      text = [];
      said = put_none out 0 (omega arith);
      left = refl;
      count = omega arith;
    }

pub saying_next : (s out₀ out out' : List ℕ) (n start at end next p p' : ℕ) → Saying s out₀ out n start at p → Turn s at end next → next ≡ end + gap (drop end s)
    → length out₀ ≤ last_place → Put out p (run_between start at) out' p' → Saying s out₀ out' (n + 1) end next p'
saying_next s out₀ out out' n start at end next p p' w t e f d =
    let run : List ℕ = run_between start at in
    record {
      within = t.stretch.within;
      place = e;
      text = w.text ++ run;
      said = put_then w.said d f;
      left =
          w.left ∙ ap (λ (l : List ℕ). w.text ++ l) (runs_over s start at w.place ∙ ap (λ (l : List ℕ). run ++ l) (runs_field s at end next t))
          ∙ sym (append_assoc w.text run (runs_text end (parts_of (drop end s))));
      count = omega (arith, w.count, count_over s start at w.place, count_field s at end next t);
    }

pub saying_last : (s out₀ out out' out'' : List ℕ) (n start at p p' p'' : ℕ) → Saying s out₀ out n start at p → length s ≤ at → length out₀ ≤ last_place
    → Put out p (run_between start at) out' p' → Put out' p' (kept_text n) out'' p'' → Put out₀ 0 (mended_text s) out'' p''
unfolding mended_text runs_text parts_of walk kept_count
saying_last s out₀ out out' out'' n start at p p' p'' w h f d d' =
    let z : drop at s ≡ [] = drop_of_length-le s h in
    let run : List ℕ = run_between start at in
    let k : kept_count (parts_of s) ≡ n = w.count ∙ ap (λ (m : ℕ). n + m) (count_over s start at w.place ∙ ap (λ (l : List ℕ). kept_count (parts_of l)) z) ∙ add-zero n in
    let r : runs_text 0 (parts_of s) ≡ w.text ++ run =
    w.left ∙ ap (λ (l : List ℕ). w.text ++ l) (runs_over s start at w.place ∙ ap (λ (l : List ℕ). run ++ runs_text at (parts_of l)) z ∙ append-nil run) in
    put_as (ap (λ (l : List ℕ). l ++ kept_text n) (sym r) ∙ ap (λ (m : ℕ). runs_text 0 (parts_of s) ++ kept_text m) (sym k)) (put_then (put_then w.said d f) d' f)
