-- A packet whose own words are right is the packet of the bytes that it carries.
use Prim.Native.Nat.{ℕ, suc, ◌+◌, ◌*◌, ◌/◌, ◌%◌}
use mathlib.Core.Path.{◌≡◌, refl, sym, ap, ap₂, ◌∙◌}
use mathlib.Core.Bool.{true, ◌&&◌}
use mathlib.Core.List.{List, [], ◌∷◌, ◌++◌, map}
use native.Mathlib.Omega.{arith}
use borrow.Author.Tests.{eqb-true}
use lib.Dec.{eqb}
use lib.ListN.{length, get_or, take, drop, length-drop}
use lib.Seq.{take_all, take-suc, get_or-drop}
use Rattle.laws.specs.Bytes.{Bytes}
use Rattle.laws.proofs.Lists.{first_six}
use Rattle.laws.proofs.Tests.{both}
use Rattle.packet.specs.Words.{word_of, low, check_word, bytes_of, words_of}
use Rattle.packet.specs.Writing.{head_words, front_words, packet_words, packet_bytes}
use Rattle.packet.specs.Reading.{every, parity_right, start_right, names_right, count_of, user_words, covered_words, frame_number, user_bytes}
use Rattle.packet.proofs.Passed.{Passed, passed, length_user_bytes}

bytes_words : (s : List ℕ) → Bytes s → length s % 2 ≡ 0 → bytes_of (words_of s) ≡ s
unfolding bytes_of words_of
bytes_words [] b h = refl
bytes_words (x ∷ []) b h = absurd (omega arith)
bytes_words (x ∷ y ∷ s) b h =
    let p = b 0 in
    let q = b 1 in
    let lo : (x + 256 * y) % 256 ≡ x = omega arith in
    let hi : (x + 256 * y) / 256 ≡ y = omega arith in
    rw (lo, hi, bytes_words s (λ k. b (suc (suc k))) (omega arith))

words_low : (us : List ℕ) → every parity_right us ≡ true → map word_of (map low us) ≡ us
unfolding every
words_low [] h = refl
words_low (w ∷ us) h =
    let t = both (parity_right w) (every parity_right us) h in
    ap₂ (λ (x : ℕ) (l : List ℕ). x ∷ l) (sym (eqb-true w (word_of (low w)) t.0)) (words_low us t.1)

-- a list of n + 1 words is its first n and the last
all_but_last : (l : List ℕ) (n : ℕ) → length l ≡ n + 1 → l ≡ take n l ++ (get_or l n 0 ∷ [])
all_but_last l n h = sym (take_all (suc n) l (omega arith)) ∙ take-suc l n 0 (omega arith)

module _ (s : List ℕ) (right : frame_number s ≡ 0) where
  abbrev ws : List ℕ
  ws = words_of s

  p : Passed s
  p = passed s right

  starts : (get_or ws 0 0 ≡ 0x000) × (get_or ws 1 0 ≡ 0x3FF) × (get_or ws 2 0 ≡ 0x3FF)
  unfolding start_right
  starts =
      let a = both (eqb (get_or ws 0 0) 0x000) (eqb (get_or ws 1 0) 0x3FF && eqb (get_or ws 2 0) 0x3FF) p.start in
      let b = both (eqb (get_or ws 1 0) 0x3FF) (eqb (get_or ws 2 0) 0x3FF) a.1 in
      (eqb-true (get_or ws 0 0) 0x000 a.0, eqb-true (get_or ws 1 0) 0x3FF b.0, eqb-true (get_or ws 2 0) 0x3FF b.1)

  names : (get_or ws 3 0 ≡ 0x241) × (get_or ws 4 0 ≡ 0x10B)
  unfolding names_right
  names =
      let a = both (eqb (get_or ws 3 0) 0x241) (eqb (get_or ws 4 0) 0x10B) p.names in
      (eqb-true (get_or ws 3 0) 0x241 a.0, eqb-true (get_or ws 4 0) 0x10B a.1)

  sixth : get_or ws 5 0 ≡ word_of (count_of ws)
  unfolding count_of
  sixth = eqb-true (get_or ws 5 0) (word_of (low (get_or ws 5 0))) p.count

  -- the words up to the last user word, and the checksum
  rest : drop 6 ws ≡ user_words ws ++ (get_or ws (count_of ws + 6) 0 ∷ [])
  unfolding user_words
  rest =
      let l : length (drop 6 ws) ≡ count_of ws + 1 = rw length-drop (omega (arith, p.many)) in
      let e : 6 + count_of ws ≡ count_of ws + 6 = omega arith in
      rw (← e, ← get_or-drop 6 ws (count_of ws) 0) (all_but_last (drop 6 ws) (count_of ws) l)

  six : ws ≡ head_words (count_of ws) ++ drop 6 ws
  unfolding head_words
  six = cc (first_six ws (omega (arith, p.many)), starts.0, starts.1, starts.2, names.0, names.1, sixth)

  front : front_words (user_bytes s) ≡ head_words (count_of ws) ++ user_words ws
  unfolding front_words user_bytes
  front = ap₂ (λ (n : ℕ) (l : List ℕ). head_words n ++ l) (length_user_bytes s right) (words_low (user_words ws) p.users)

  covered : drop 3 (front_words (user_bytes s)) ≡ covered_words ws
  unfolding covered_words user_words head_words
  covered =
      let e : count_of ws + 3 ≡ suc (suc (suc (count_of ws))) = omega arith in
      ap (drop 3) front ∙ sym (ap₂ take e (ap (drop 3) six))

  words_again : packet_words (user_bytes s) ≡ ws
  unfolding packet_words head_words
  words_again =
      ap₂ (λ (f : List ℕ) (k : ℕ). f ++ (k ∷ [])) front (ap check_word covered ∙ sym p.check)
      ∙ sym (six ∙ ap (λ (l : List ℕ). head_words (count_of ws) ++ l) rest)

  pub packet_again : Bytes s → packet_bytes (user_bytes s) ≡ s
  unfolding packet_bytes
  packet_again b = ap bytes_of words_again ∙ bytes_words s b p.even
