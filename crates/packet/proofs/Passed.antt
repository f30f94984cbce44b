-- What a packet has passed whose own words are right.
use Prim.Native.Nat.{ℕ, ◌+◌, ◌*◌, ◌%◌, ◌<◌}
use mathlib.Core.Path.{◌≡◌}
use mathlib.Core.List.{List}
use mathlib.Core.Bool.{true}
use native.Mathlib.Omega.{arith}
use borrow.Author.Tests.{eqb-true}
use lib.Dec.{leb, eqb}
use lib.ListN.{length, get_or, length-take, length-drop, length-map}
use Rattle.laws.proofs.Tests.{past}
use Rattle.packet.specs.Words.{low, check_word, words_of}
use Rattle.packet.specs.Reading.{every, ten_bits, parity_right, start_right, names_right, count_of, user_words, covered_words, body_number, frame_number, user_bytes}
use Rattle.packet.proofs.TenBits.{length_words_of}

pub record Passed (s : List ℕ) : Type 0 where
  pub even : length s % 2 ≡ 0
  pub start : start_right (words_of s) ≡ true
  pub names : names_right (words_of s) ≡ true
  pub count : parity_right (get_or (words_of s) 5 0) ≡ true
  pub many : length (words_of s) ≡ count_of (words_of s) + 7
  pub users : every parity_right (user_words (words_of s)) ≡ true
  pub check : get_or (words_of s) (count_of (words_of s) + 6) 0 ≡ check_word (covered_words (words_of s))

pub passed : (s : List ℕ) → frame_number s ≡ 0 → Passed s
unfolding frame_number body_number
passed s h =
    let ws : List ℕ = words_of s in
    let p30 = past (eqb (length s % 2) 0) 30 _ h (omega arith) in
    let q30 = past (every ten_bits ws) 30 _ p30.1 (omega arith) in
    let p31 = past (leb 7 (length ws)) 31 _ q30.1 (omega arith) in
    let p32 = past (start_right ws) 32 _ p31.1 (omega arith) in
    let p33 = past (names_right ws) 33 _ p32.1 (omega arith) in
    let p34 = past (parity_right (get_or ws 5 0)) 34 _ p33.1 (omega arith) in
    let q34 = past (eqb (length ws) (count_of ws + 7)) 34 _ p34.1 (omega arith) in
    let p35 = past (every parity_right (user_words ws)) 35 _ q34.1 (omega arith) in
    let p36 = past (eqb (get_or ws (count_of ws + 6) 0) (check_word (covered_words ws))) 36 _ p35.1 (omega arith) in
    record {
      even = eqb-true _ _ p30.0;
      start = p32.0;
      names = p33.0;
      count = p34.0;
      many = eqb-true _ _ q34.0;
      users = p35.0;
      check = eqb-true _ _ p36.0;
    }

-- an accepted packet has the bytes of count + 7 words
pub passed_size : (s : List ℕ) → frame_number s ≡ 0 → length s ≡ 2 * count_of (words_of s) + 14
passed_size s h = let p = passed s h in omega (arith, p.even, p.many, length_words_of s)

pub count_byte : (ws : List ℕ) → count_of ws < 256
unfolding count_of low
count_byte ws = omega arith

pub length_users : (ws : List ℕ) → length ws ≡ count_of ws + 7 → length (user_words ws) ≡ count_of ws
unfolding user_words
length_users ws h = simp (length-take, length-drop) (omega arith)

pub length_user_bytes : (s : List ℕ) → frame_number s ≡ 0 → length (user_bytes s) ≡ count_of (words_of s)
unfolding user_bytes
length_user_bytes s h = simp length-map (length_users (words_of s) (passed s h).many)
