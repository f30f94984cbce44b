-- The packet of a container's bytes passes every test of its own words, and carries those bytes.
use Prim.Native.Nat.{ℕ, suc, ◌+◌, ◌%◌, ◌<◌}
use mathlib.Core.Path.{◌≡◌, refl, sym, ap, ap₂, ◌∙◌}
use mathlib.Core.Bool.{Bool, true}
use mathlib.Core.List.{List, [], ◌∷◌, ◌++◌, map}
use native.Mathlib.Omega.{arith}
use borrow.Author.Tests.{eq-eqb, le-leb}
use lib.Dec.{leb}
use lib.ListN.{length, get_or, drop, length-append, length-map}
use lib.Seq.{take_at, get_or_at}
use Rattle.laws.specs.Bytes.{Bytes}
use Rattle.laws.proofs.Tests.{both}
use Rattle.packet.specs.Words.{with_bit9, word_of, low, check_word, words_of}
use Rattle.packet.specs.Writing.{head_words, front_words, packet_words, packet_bytes}
use Rattle.packet.specs.Reading.{every, ten_bits, parity_right, start_right, names_right, count_of, user_words, covered_words, body_number, frame_number, user_bytes}
use Rattle.packet.proofs.Parity.{word_carries, word_low}
use Rattle.packet.proofs.TenBits.{words_bytes, length_packet}

word_ten : (b : ℕ) → b < 256 → ten_bits (word_of b) ≡ true
word_ten b h = le-leb (word_of b) 0x3FF (omega (arith, (word_carries b h).ten))

word_parity : (b : ℕ) → b < 256 → parity_right (word_of b) ≡ true
word_parity b h = eq-eqb _ _ (ap word_of (sym (word_low b h)))

check_ten : (ws : List ℕ) → ten_bits (check_word ws) ≡ true
unfolding check_word with_bit9
check_ten ws = le-leb (check_word ws) 0x3FF (omega arith)

every_append : (test : ℕ → Bool) (xs ys : List ℕ) → every test xs ≡ true → every test (xs ++ ys) ≡ every test ys
unfolding every
every_append test [] ys h = refl
every_append test (x ∷ xs) ys h = let t = both (test x) (every test xs) h in rw t.0 (every_append test xs ys t.1)

every_word : (test : ℕ → Bool) → ((b : ℕ) → b < 256 → test (word_of b) ≡ true) → (c : List ℕ) → Bytes c → every test (map word_of c) ≡ true
unfolding every
every_word test h [] bytes = refl
every_word test h (b ∷ c) bytes = rw (h b (bytes 0)) (every_word test h c (λ k. bytes (suc k)))

low_words : (c : List ℕ) → Bytes c → map low (map word_of c) ≡ c
low_words [] bytes = refl
low_words (b ∷ c) bytes = ap₂ (λ (x : ℕ) (l : List ℕ). x ∷ l) (word_low b (bytes 0)) (low_words c (λ k. bytes (suc k)))

module _ (c : List ℕ) (bytes : Bytes c) (small : length c < 256) where
  words : words_of (packet_bytes c) ≡ packet_words c
  unfolding packet_bytes
  words = words_bytes (packet_words c)

  length_words : length (packet_words c) ≡ length c + 7
  unfolding packet_words front_words head_words
  length_words = simp (length-append, length-map) (omega arith)

  sixth : get_or (packet_words c) 5 0 ≡ word_of (length c)
  unfolding packet_words front_words head_words
  sixth = refl

  count : count_of (packet_words c) ≡ length c
  unfolding count_of
  count = ap low sixth ∙ word_low (length c) small

  users : user_words (packet_words c) ≡ map word_of c
  unfolding user_words packet_words front_words head_words
  users = rw count (take_at (map word_of c) _ (length c) (length-map c word_of))

  covered : covered_words (packet_words c) ≡ drop 3 (front_words c)
  unfolding covered_words packet_words front_words head_words
  covered = rw count (take_at (drop 3 (front_words c)) _ (length c + 3) (simp length-map (omega arith)))

  length_front : length (front_words c) ≡ length c + 6
  unfolding front_words head_words
  length_front = simp length-map (omega arith)

  last : get_or (packet_words c) (length c + 6) 0 ≡ check_word (drop 3 (front_words c))
  unfolding packet_words
  last = get_or_at (front_words c) (check_word (drop 3 (front_words c))) [] 0 (length c + 6) length_front

  ten : every ten_bits (packet_words c) ≡ true
  unfolding packet_words front_words head_words every
  ten = rw (word_ten (length c) small, every_append ten_bits (map word_of c) _ (every_word ten_bits word_ten c bytes), check_ten (drop 3 (front_words c)))

  start : start_right (packet_words c) ≡ true
  unfolding start_right packet_words front_words head_words
  start = refl

  names : names_right (packet_words c) ≡ true
  unfolding names_right packet_words front_words head_words
  names = refl

  body : body_number (packet_words c) ≡ 0
  unfolding body_number
  body =
      let p : parity_right (get_or (packet_words c) 5 0) ≡ true = ap parity_right sixth ∙ word_parity (length c) small in
      let n : length (packet_words c) ≡ count_of (packet_words c) + 7 = length_words ∙ ap (λ (k : ℕ). k + 7) (sym count) in
      let u : every parity_right (user_words (packet_words c)) ≡ true = ap (every parity_right) users ∙ every_word parity_right word_parity c bytes in
      let k : get_or (packet_words c) (count_of (packet_words c) + 6) 0 ≡ check_word (covered_words (packet_words c)) =
      ap (λ (m : ℕ). get_or (packet_words c) (m + 6) 0) count ∙ last ∙ ap check_word (sym covered) in
      rw (p, eq-eqb _ _ n, u, eq-eqb _ _ k)

  pub packet_right : frame_number (packet_bytes c) ≡ 0
  unfolding frame_number
  packet_right =
      let e : length (packet_bytes c) % 2 ≡ 0 = rw length_packet (omega arith) in
      let seven : leb 7 (length (packet_words c)) ≡ true = le-leb 7 (length (packet_words c)) (rw length_words (omega arith)) in
      rw (eq-eqb _ _ e, words, ten, seven, start, names, body)

  pub packet_carries : user_bytes (packet_bytes c) ≡ c
  unfolding user_bytes
  packet_carries = rw (words, users) (low_words c bytes)
