use Prim.Native.Nat.{ℕ, ◌+◌, ◌%◌}
use mathlib.Core.Path.{◌≡◌}
use native.Mathlib.Omega.{arith}
use borrow.Author.Rules.{rules}
use Rattle.packet.specs.Words.{with_bit9, check_word, words_of}
use Rattle.packet.proofs.TenBits.{length_words_of, sum9_next, sum9_end}
use Rattle.packet.proofs.words.check_of.Goals as goal

turn : (sum w rest whole : ℕ) → (sum + (w % 512 + rest)) % 512 ≡ whole % 512 → ((sum + w % 512) % 512 + rest) % 512 ≡ whole % 512
turn sum w rest whole e = omega arith

pub loop-i-preserved : goal.loop-i-preserved
loop-i-preserved c =
    let ws = words_of c.args.words.now in
    let l = c.loop-i in
    (search rules, turn _ _ _ _ ((rw (sum9_next ws l.i (rw length_words_of (search rules)), ← c.word_at.ensures) at l.invariant.1)))

pub returns : goal.returns
unfolding check_word with_bit9
returns c =
    let s = c.args.words.now in
    omega (arith, sum9_end (words_of s) c.loop-i.i (rw length_words_of (search rules)))
