use Prim.Native.Nat.{ℕ}
use mathlib.Core.Path.{sym, ap, ◌∙◌}
use mathlib.Core.List.{List, map}
use borrow.Author.Rules.{rules}
use lib.ListN.{drop_of_length-le}
use lib.Seq.{sets}
use Rattle.packet.specs.Words.{low, words_of}
use Rattle.packet.proofs.TenBits.{length_words_of, low_next}
use Rattle.packet.proofs.read.low_bytes.Goals as goal

pub loop-i-preserved : goal.loop-i-preserved
unfolding low
loop-i-preserved c =
    let l = c.loop-i in
    l.invariant ∙ low_next (words_of c.args.words.now) l.out l.i (rw length_words_of (search rules)) ∙ (rw c.word_at.ensures)

pub returns : goal.returns
returns c =
    let ws = words_of c.args.words.now in
    let l = c.loop-i in
    sym (l.invariant ∙ ap (λ (t : List ℕ). sets l.out l.i (map low t)) (drop_of_length-le ws {i = l.i} (rw length_words_of (search rules))))
