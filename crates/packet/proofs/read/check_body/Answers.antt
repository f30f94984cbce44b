-- `packet::read::check_body` meets its contract: each answer by the tests that led to it.
use Prim.Native.Nat.{ℕ, ◌+◌, ◌*◌, ◌-◌}
use mathlib.Core.Path.{◌≡◌, refl, ap, ◌∙◌}
use mathlib.Core.List.{List}
use native.Mathlib.Omega.{arith}
use borrow.Author.Rules.{rules}
use lib.ListN.{take, drop}
use Rattle.laws.proofs.Tests.{tests}
use Rattle.packet.specs.Words.{words_of}
use Rattle.packet.specs.Reading.{count_of, user_words, covered_words, body_number}
use Rattle.packet.proofs.TenBits.{length_words_of, words_part}
use Rattle.packet.proofs.Passed.{count_byte}
use Rattle.packet.proofs.read.check_body.Goals as goal
use Rattle.packet.proofs.read.check_body.Goals.{then-not-parity_right-via-then-not-parity_right, then-not-parity_right-via-else-not-parity_right+then-words-n}

-- the bytes that are lent on hold the user words, and all that the checksum covers
users_lent : (s : List ℕ) (n : ℕ) → n ≡ count_of (words_of s) → words_of (take (12 + 2 * n - 12) (drop 12 s)) ≡ user_words (words_of s)
unfolding user_words
users_lent s n e = words_part s 6 n 12 (12 + 2 * n - 12) refl (omega arith) ∙ ap (λ (k : ℕ). take k (drop 6 (words_of s))) e

covered_lent : (s : List ℕ) (n : ℕ) → n ≡ count_of (words_of s) → words_of (take (12 + 2 * n - 6) (drop 6 s)) ≡ covered_words (words_of s)
unfolding covered_words
covered_lent s n e = words_part s 3 (n + 3) 6 (12 + 2 * n - 6) refl (omega arith) ∙ ap (λ (k : ℕ). take (k + 3) (drop 3 (words_of s))) e

pub returns-then-not-parity_right : goal.returns-then-not-parity_right
unfolding body_number
returns-then-not-parity_right c =
    elim c.then-not-parity_right.branch [
      | then-not-parity_right-via-then-not-parity_right w ↦ search (rules, tests)
      | then-not-parity_right-via-else-not-parity_right+then-words-n w ↦ search (rules, tests, length_words_of)
    ]

pub overflow_add-n : goal.overflow_add-n
overflow_add-n c = omega (arith, c.count_of-n.ensures, count_byte (words_of c.args.words.now))

pub returns-then-not-parities_right : goal.returns-then-not-parities_right
unfolding body_number
returns-then-not-parities_right c =
    let u = users_lent c.args.words.now c.count_of-n.result c.count_of-n.ensures in
    search (rules, tests, length_words_of)

pub returns-then-word_at-check_of : goal.returns-then-word_at-check_of
unfolding body_number
returns-then-word_at-check_of c =
    let u = users_lent c.args.words.now c.count_of-n.result c.count_of-n.ensures in
    let v = covered_lent c.args.words.now c.count_of-n.result c.count_of-n.ensures in
    search (rules, tests, length_words_of)

pub returns : goal.returns
unfolding body_number
returns c =
    let u = users_lent c.args.words.now c.count_of-n.result c.count_of-n.ensures in
    let v = covered_lent c.args.words.now c.count_of-n.result c.count_of-n.ensures in
    search (rules, tests, length_words_of)
