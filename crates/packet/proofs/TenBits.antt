-- Laws of words, of the tests over them, and of the stores that write them.
use Prim.Native.Nat.{ℕ, zero, suc, ◌+◌, ◌*◌, ◌/◌, ◌%◌, ◌≤◌, ◌<◌}
use mathlib.Core.Path.{◌≡◌, refl, sym, ap, ap₂, ◌∙◌}
use mathlib.Core.List.{List, [], ◌∷◌, ◌++◌, map}
use mathlib.Core.Bool.{Bool, true, false, ◌&&◌}
use native.Mathlib.Omega.{arith}
use native.Mathlib.Numerals.{add-one}
use lib.ListN.{length, get_or, take, drop, set, length-append, length-map, drop_of_length-le}
use lib.Seq.{sets, drop-cons, take_at}
use Rattle.std.specs.List.{list_all, range_with_len}
use Rattle.laws.specs.Calls.{over}
use Rattle.laws.proofs.Lists.{sets_then, sets_over}
use Rattle.packet.specs.Words.{word_of, low, sum9, check_word, bytes_of, words_of}
use Rattle.packet.specs.Writing.{head_words, front_words, packet_words, packet_bytes}
use Rattle.packet.specs.Reading.{every}

double : (k : ℕ) → 2 * suc k ≡ suc (suc (2 * k))
double k = omega arith

-- ---- words and their bytes

pub bytes_of_append : (xs ys : List ℕ) → bytes_of (xs ++ ys) ≡ bytes_of xs ++ bytes_of ys
unfolding bytes_of
bytes_of_append [] ys = refl
bytes_of_append (x ∷ xs) ys = ap (λ (r : List ℕ). x % 256 ∷ x / 256 ∷ r) (bytes_of_append xs ys)

pub length_bytes_of : (ws : List ℕ) → length (bytes_of ws) ≡ 2 * length ws
unfolding bytes_of
length_bytes_of [] = refl
length_bytes_of (w ∷ ws) = omega (arith, length_bytes_of ws)

pub words_bytes : (ws : List ℕ) → words_of (bytes_of ws) ≡ ws
unfolding words_of bytes_of
words_bytes [] = refl
words_bytes (w ∷ ws) = ap₂ (λ (x : ℕ) (l : List ℕ). x ∷ l) (omega arith) (words_bytes ws)

pub length_words_of : (s : List ℕ) → length (words_of s) ≡ length s / 2
unfolding words_of
length_words_of [] = refl
length_words_of (a ∷ []) = refl
length_words_of (a ∷ b ∷ s) = omega (arith, length_words_of s)

pub get_d_words_of : (s : List ℕ) (k : ℕ) → 2 * k + 1 < length s → get_or (words_of s) k 0 ≡ get_or s (2 * k) 0 + 256 * get_or s (2 * k + 1) 0
unfolding words_of
get_d_words_of [] k h = absurd (omega arith)
get_d_words_of (a ∷ []) k h = absurd (omega arith)
get_d_words_of (a ∷ b ∷ s) zero h = refl
get_d_words_of (a ∷ b ∷ s) (suc k) h =
    let f : 2 * suc k + 1 ≡ suc (suc (2 * k + 1)) = omega arith in
    rw (f, double k) (get_d_words_of s k (omega arith))

words_drop : (a : ℕ) (s : List ℕ) → words_of (drop (2 * a) s) ≡ drop a (words_of s)
unfolding words_of
words_drop zero s = refl
words_drop (suc a) [] = rw double
words_drop (suc a) (x ∷ []) = rw double
words_drop (suc a) (x ∷ y ∷ s) = rw double (words_drop a s)

words_take : (n : ℕ) (s : List ℕ) → words_of (take (2 * n) s) ≡ take n (words_of s)
unfolding words_of
words_take zero s = refl
words_take (suc n) [] = rw double
words_take (suc n) (x ∷ []) = rw double
words_take (suc n) (x ∷ y ∷ s) = rw double (ap (λ (l : List ℕ). (x + 256 * y) ∷ l) (words_take n s))

-- a part of the bytes is a part of the words
pub words_part : (s : List ℕ) (a n i j : ℕ) → i ≡ 2 * a → j ≡ 2 * n → words_of (take j (drop i s)) ≡ take n (drop a (words_of s))
words_part s a n i j p q = rw (p, q) (words_take n (drop (2 * a) s) ∙ ap (take n) (words_drop a s))

-- ---- a scan of words, one word at a time

-- the words from place a on, each by its place
every_from : (test : ℕ → Bool) (ws : List ℕ) (a n : ℕ) → a + n ≡ length ws → list_all (λ (i : ℕ). test (get_or ws i 0)) (range_with_len a n) ≡ every test (drop a ws)
unfolding every
every_from test ws a zero e = rw (drop_of_length-le ws {i = a} (omega arith))
every_from test ws a (suc n) e =
    let h : a < length ws = omega arith in
    let next : a + 1 ≡ suc a = omega arith in
    rw (drop-cons ws a 0 h) (ap (λ (b : Bool). test (get_or ws a 0) && b) (every_from test ws (a + 1) n (omega arith) ∙ ap (λ (k : ℕ). every test (drop k ws)) next))

pub every_place : (test : ℕ → Bool) (ws : List ℕ) (n : ℕ) → n ≡ length ws → list_all (λ (i : ℕ). test (get_or ws i 0)) (range_with_len 0 n) ≡ every test ws
every_place test ws n e = every_from test ws 0 n (omega arith)

module _ (test : ℕ → Bool) (ws : List ℕ) (i : ℕ) where
  pub every_next : i < length ws → test (get_or ws i 0) ≡ true → every test (drop i ws) ≡ every test (drop (i + 1) ws)
  unfolding every
  every_next h e = rw (add-one, drop-cons ws i 0 h, e)

  pub every_fails : i < length ws → test (get_or ws i 0) ≡ false → every test (drop i ws) ≡ false
  unfolding every
  every_fails h e = rw (drop-cons ws i 0 h, e)

  pub every_end : length ws ≤ i → every test (drop i ws) ≡ true
  unfolding every
  every_end h = rw (drop_of_length-le ws h)

module _ (ws : List ℕ) (i : ℕ) where
  pub sum9_next : i < length ws → sum9 (drop i ws) ≡ get_or ws i 0 % 512 + sum9 (drop (i + 1) ws)
  unfolding sum9
  sum9_next h = rw (add-one, drop-cons ws i 0 h)

  pub sum9_end : length ws ≤ i → sum9 (drop i ws) ≡ 0
  unfolding sum9
  sum9_end h = rw (drop_of_length-le ws h)

-- ---- what is still to be stored, one word or byte at a time

pub low_next : (ws out : List ℕ) (i : ℕ) → i < length ws
    → sets out i (map low (drop i ws)) ≡ sets (set out i (low (get_or ws i 0))) (i + 1) (map low (drop (i + 1) ws))
low_next ws out i h = rw (add-one, drop-cons ws i 0)

pub user_next : (c out : List ℕ) (i : ℕ) → i < length c
    → sets out (12 + 2 * i) (bytes_of (map word_of (drop i c)))
    ≡ sets (sets out (12 + 2 * i) (bytes_of (word_of (get_or c i 0) ∷ []))) (12 + 2 * (i + 1)) (bytes_of (map word_of (drop (i + 1) c)))
unfolding bytes_of
user_next c out i h =
    let e : 12 + 2 * suc i ≡ suc (suc (12 + 2 * i)) = omega arith in
    rw (add-one, e, drop-cons c i 0)

-- ---- the packet in the order in which it is stored

pub length_packet : (c : List ℕ) → length (packet_bytes c) ≡ 2 * length c + 14
unfolding packet_bytes packet_words front_words head_words
length_packet c = rw length_bytes_of (simp (length-append, length-map) (omega arith))

length_head : (n : ℕ) → 12 ≡ 0 + length (bytes_of (head_words n))
unfolding head_words bytes_of
length_head n = refl

length_front : (c : List ℕ) → length (bytes_of (front_words c)) ≡ 12 + 2 * length c
unfolding front_words head_words
length_front c = rw length_bytes_of (simp length-map (omega arith))

covered_there : (c out : List ℕ) (size : ℕ) → size ≡ 2 * (length c + 3) → take size (drop 6 (over (bytes_of (front_words c)) out)) ≡ bytes_of (drop 3 (front_words c))
unfolding over front_words head_words bytes_of
covered_there c out size e = take_at (bytes_of (drop 3 (front_words c))) _ size (rw length_bytes_of (simp length-map (omega arith)))

with_check : (c : List ℕ) (check : ℕ) → check ≡ check_word (drop 3 (front_words c)) → bytes_of (front_words c) ++ bytes_of (check ∷ []) ≡ packet_bytes c
unfolding packet_bytes packet_words
with_check c check e = rw e (sym (bytes_of_append (front_words c) (check_word (drop 3 (front_words c)) ∷ [])))

module _ (c out : List ℕ) (room : 2 * length c + 14 ≤ length out) where
  pub front_put : (o₁ o₂ : List ℕ) → o₁ ≡ sets out 0 (bytes_of (head_words (length c))) → o₂ ≡ sets o₁ 12 (bytes_of (map word_of c))
      → o₂ ≡ sets out 0 (bytes_of (front_words c))
  unfolding front_words
  front_put o₁ o₂ p q =
      sets_then out o₁ o₂ (bytes_of (head_words (length c))) (bytes_of (map word_of c)) 0 12 p (length_head (length c)) q
      ∙ ap (sets out 0) (sym (bytes_of_append (head_words (length c)) (map word_of c)))

  -- what the checksum covers stands in the buffer
  pub covered_put : (o₂ : List ℕ) (size : ℕ) → o₂ ≡ sets out 0 (bytes_of (front_words c)) → size ≡ 2 * (length c + 3)
      → words_of (take size (drop 6 o₂)) ≡ drop 3 (front_words c)
  covered_put o₂ size p q =
      let o : o₂ ≡ over (bytes_of (front_words c)) out = p ∙ sets_over (bytes_of (front_words c)) out (omega (arith, length_front c)) in
      ap (λ (l : List ℕ). words_of (take size (drop 6 l))) o ∙ ap words_of (covered_there c out size q) ∙ words_bytes (drop 3 (front_words c))

  pub packet_put : (o₂ o₃ : List ℕ) (check : ℕ) → o₂ ≡ sets out 0 (bytes_of (front_words c)) → check ≡ check_word (drop 3 (front_words c))
      → o₃ ≡ sets o₂ (12 + 2 * length c) (bytes_of (check ∷ [])) → o₃ ≡ over (packet_bytes c) out
  packet_put o₂ o₃ check p e q =
      sets_then out o₂ o₃ (bytes_of (front_words c)) (bytes_of (check ∷ [])) 0 (12 + 2 * length c) p (omega (arith, length_front c)) q
      ∙ ap (sets out 0) (with_check c check e)
      ∙ sets_over (packet_bytes c) out (rw length_packet room)
