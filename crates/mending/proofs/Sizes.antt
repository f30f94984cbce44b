-- How long the report is at most.
use Prim.Native.Nat.{ℕ, zero, suc, ◌+◌, ◌-◌, ◌*◌, ◌≤◌, ◌<◌}
use mathlib.Core.Path.{ap}
use mathlib.Core.List.{List, [], ◌∷◌, ◌++◌}
use native.Mathlib.Omega.{arith}
use borrow.Author.Tests.{leb-true, eqb-true}
use lib.Dec.{leb, eqb}
use lib.ListN.{length, length-append}
use Rattle.laws.specs.Bytes.{Bytes}
use Rattle.laws.proofs.Tests.{chosen, past}
use Rattle.text.specs.Lines.{item, space, newline}
use Rattle.text.proofs.Spelled.{item_five, refused_size}
use Rattle.mending.specs.Fields.{field_size, acceptable}
use Rattle.mending.specs.Parts.{Part, drop_then, walk, parts_of, bytes_of, kept_count}
use Rattle.mending.specs.Parts as parts
use Rattle.mending.specs.Mending.{recording_number}
use Rattle.mending.specs.Report.{dropped, kept, run_text, runs_text, kept_text, mended_text, reported}
use Rattle.mending.proofs.Walks.{walk_bytes, count_size}

-- ---- no more runs than fields, and one

unfoldable run_count : List Part → ℕ
run_count [] = 0
run_count (parts.kept field ∷ rest) = run_count rest
run_count (parts.dropped run ∷ rest) = suc (run_count rest)

-- whether the first part is a run, as a number
unfoldable leading : List Part → ℕ
leading [] = 0
leading (parts.kept field ∷ rest) = 0
leading (parts.dropped run ∷ rest) = 1

leading_one : (l : List Part) → leading l ≤ 1
unfolding leading
leading_one [] = omega arith
leading_one (parts.kept field ∷ rest) = omega arith
leading_one (parts.dropped run ∷ rest) = omega arith

one_more : (b : ℕ) (l : List Part) → run_count l ≤ kept_count l + leading l → run_count (drop_then b l) ≤ kept_count (drop_then b l) + leading (drop_then b l)
unfolding run_count leading kept_count drop_then
one_more b [] h = omega arith
one_more b (parts.kept field ∷ rest) h = omega (arith, h)
one_more b (parts.dropped run ∷ rest) h = omega (arith, h)

few_runs : (n : ℕ) (s : List ℕ) → run_count (walk n s) ≤ kept_count (walk n s) + leading (walk n s)
unfolding run_count leading kept_count walk
few_runs zero [] = omega arith
few_runs (suc n) [] = omega arith
few_runs (suc n) (b ∷ s) = few_runs n s
few_runs zero (b ∷ s) =
    chosen (λ (l : List Part). run_count l ≤ kept_count l + leading l) (acceptable (b ∷ s)) _ _
    (λ e. (let w = walk (field_size (b ∷ s) - 1) s in omega (arith, few_runs (field_size (b ∷ s) - 1) s, leading_one w)))
    (λ e. one_more b (walk zero s) (few_runs zero s))

-- ---- each in at most 20 bytes

run_size : (start count : ℕ) → start < 100000 → count < 100000 → length (run_text start count) ≤ 20
unfolding run_text
run_size start count h k =
    omega (arith, length-append (item dropped start ++ item space count) newline, length-append (item dropped start) (item space count), item_five dropped start h, item_five space count k)

runs_size : (at : ℕ) (l : List Part) → at + length (bytes_of l) ≤ 65536 → length (runs_text at l) ≤ 20 * run_count l
unfolding runs_text run_count bytes_of
runs_size at [] h = omega arith
runs_size at (parts.kept field ∷ rest) h = runs_size (at + length field) rest (omega (arith, h, length-append field (bytes_of rest)))
runs_size at (parts.dropped run ∷ rest) h =
    let n = length-append run (bytes_of rest) in
    omega (
      arith,
      length-append (run_text at (length run)) (runs_text (at + length run) rest),
      run_size at (length run) (omega (arith, h)) (omega (arith, h, n)),
      runs_size (at + length run) rest (omega (arith, h, n)),
    )

mended_text_size : (s : List ℕ) → Bytes s → length s ≤ 65536 → length (mended_text s) ≤ 163871
unfolding mended_text kept_text parts_of
mended_text_size s b h =
    let n = count_size s b in
    let w = walk 0 s in
    omega (
      arith,
      length-append (runs_text 0 w) (item kept (kept_count w) ++ newline),
      length-append (item kept (kept_count w)) newline,
      runs_size 0 w (omega (arith, ap length (walk_bytes 0 s), h)),
      few_runs 0 s,
      leading_one w,
      n,
      item_five kept (kept_count w) (omega (arith, n, h)),
    )

-- 8,193 runs at most, and the last line
pub reported_size : (s : List ℕ) → Bytes s → length (reported s) ≤ 163871
unfolding reported recording_number
reported_size s b =
    chosen (λ (l : List ℕ). length l ≤ 163871) (eqb (recording_number s) 0) _ _
    (λ e. mended_text_size s b (leb-true (length s) 65536 (past (leb (length s) 65536) 51 _ (eqb-true _ 0 e) (omega arith)).0))
    (λ _. omega (arith, refused_size (recording_number s)))
