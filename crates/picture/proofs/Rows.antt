-- The rows of a field.
use Prim.Native.Nat.{ℕ, ◌+◌, ◌-◌, ◌*◌, ◌<◌, ◌≤◌}
use mathlib.Core.Path.{◌≡◌, sym, ap, ◌∙◌}
use mathlib.Core.List.{List, [], ◌++◌, append_assoc, append-nil}
use native.Mathlib.Omega.{arith}
use lib.ListN.{length, take, drop, length-append, length-drop, drop_of_length-le}
use lib.Seq.{take_at, length-take-le}
use borrow.Rule.Slice.PartMut.{put_mid, mid_of, Post-is, mid_len}
use Rattle.sampling.specs.Formats.{row_of}
use Rattle.sampling.specs.Samples.{pixels, sample_out}
use Rattle.sampling.proofs.Filled.{over_sixty}
use Rattle.sampling.proofs.Answers.{accepted, sample_ok}
use Rattle.picture.specs.Pictures.{with_row}

-- bytes written into the part of 60 bytes that is row k
put_row :
    (f bytes : List ℕ) (k : ℕ) → length f ≡ 960 → k < 16
    → put_mid (k * 60) (k * 60 + 60 - k * 60) f (bytes ++ drop 60 (mid_of (k * 60) (k * 60 + 60 - k * 60) f)) ≡ with_row f k bytes
unfolding with_row
put_row f bytes k l h =
    rw (Post-is (k * 60) (k * 60 + 60) f (omega arith))
    (ap (λ (z : List ℕ). take (k * 60) f ++ ((bytes ++ z) ++ drop (k * 60 + 60) f))
    (drop_of_length-le (mid_of (k * 60) (k * 60 + 60 - k * 60) f) {i = 60} (omega (arith, mid_len (k * 60) (k * 60 + 60) f (omega arith))))
    ∙ ap (λ (z : List ℕ). take (k * 60) f ++ (z ++ drop (k * 60 + 60) f)) (append-nil bytes))

-- a line sampled into that part
pub sampled_row :
    (line field : List ℕ) (format k : ℕ) → length field ≡ 960 → k < 16 → format < 8 → length line ≡ 2 * (row_of format).width
    → put_mid (k * 60) (k * 60 + 60 - k * 60) field (sample_out format line (mid_of (k * 60) (k * 60 + 60 - k * 60) field))
    ≡ with_row field k (pixels (row_of format) line)
sampled_row line field format k l h g e =
    let mid = mid_of (k * 60) (k * 60 + 60 - k * 60) field in
    let room : 60 ≤ length mid = omega (arith, mid_len (k * 60) (k * 60 + 60) field (omega arith)) in
    ap (put_mid (k * 60) (k * 60 + 60 - k * 60) field) (sym (sample_ok format line mid (accepted format line g e) room).1 ∙ over_sixty (row_of format) line mid)
    ∙ put_row field (pixels (row_of format) line) k l h

-- a row put after the rows before it
module _ (f bytes : List ℕ) (k : ℕ) (size : length f ≡ 960) (small : k < 16) (l : length bytes ≡ 60) where
  head : length (take (k * 60) f ++ bytes) ≡ k * 60 + 60
  head = let j : k * 60 ≤ length f = omega arith in simp (length-append, length-take-le (k * 60) f j, l)

  pub row_more : take ((k + 1) * 60) (with_row f k bytes) ≡ take (k * 60) f ++ bytes
  unfolding with_row
  row_more =
      let e : (k + 1) * 60 ≡ k * 60 + 60 = omega arith in
      rw (e, ← append_assoc (take (k * 60) f) bytes (drop (k * 60 + 60) f))
      (take_at (take (k * 60) f ++ bytes) (drop (k * 60 + 60) f) (k * 60 + 60) head)

  pub row_size : length (with_row f k bytes) ≡ 960
  unfolding with_row
  row_size =
      let j : k * 60 ≤ length f = omega arith in
      simp (length-append, length-take-le (k * 60) f j, length-drop, l) (omega arith)

  pub row_last : k ≡ 15 → with_row f k bytes ≡ take (k * 60) f ++ bytes
  unfolding with_row
  row_last e =
      let j : drop (k * 60 + 60) f ≡ [] = drop_of_length-le f {i = k * 60 + 60} (omega arith) in
      rw (j, append-nil bytes)
