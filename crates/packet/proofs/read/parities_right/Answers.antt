-- `packet::read::parities_right` meets its contract.
use mathlib.Core.Path.{◌≡◌, sym, ◌∙◌}
use mathlib.Core.Bool.{true, false}
use borrow.Author.Rules.{rules}
use lib.ListN.{get_or}
use Rattle.packet.specs.Words.{words_of}
use Rattle.packet.specs.Reading.{parity_right}
use Rattle.packet.proofs.TenBits.{length_words_of, every_next, every_fails, every_end}
use Rattle.packet.proofs.read.parities_right.Goals as goal

pub returns-then-not-parity_right : goal.returns-then-not-parity_right
returns-then-not-parity_right c =
    let ws = words_of c.args.words.now in
    let l = c.loop-i in
    let f : parity_right (get_or ws l.i 0) ≡ false = rw (← c.word_at.ensures) (sym c.parity_right.ensures ∙ c.if-not-parity_right.true) in
    sym (l.invariant ∙ every_fails parity_right ws l.i (rw length_words_of (search rules)) f)

pub loop-i-preserved : goal.loop-i-preserved
loop-i-preserved c =
    let ws = words_of c.args.words.now in
    let l = c.loop-i in
    let f : parity_right (get_or ws l.i 0) ≡ true = rw (← c.word_at.ensures) (sym c.parity_right.ensures ∙ c.if-not-parity_right.false) in
    l.invariant ∙ every_next parity_right ws l.i (rw length_words_of (search rules)) f

pub returns : goal.returns
returns c =
    let l = c.loop-i in
    sym (l.invariant ∙ every_end parity_right (words_of c.args.words.now) l.i (rw length_words_of (search rules)))
