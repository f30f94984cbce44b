use Prim.Native.Nat.{ℕ, ◌+◌, ◌*◌}
use mathlib.Core.Path.{sym, ap, ◌∙◌}
use mathlib.Core.List.{List, map}
use borrow.Author.Rules.{rules}
use lib.ListN.{drop_of_length-le}
use lib.Seq.{sets}
use Rattle.packet.specs.Words.{word_of, bytes_of}
use Rattle.packet.proofs.TenBits.{user_next}
use Rattle.packet.proofs.write.put_users.Goals as goal

pub loop-i-preserved : goal.loop-i-preserved
loop-i-preserved c =
    let l = c.loop-i in
    l.invariant ∙ user_next c.args.container.now l.out l.i (search rules) ∙ (rw (c.put_word.ensures, c.word_of.ensures))

pub returns : goal.returns
unfolding bytes_of
returns c =
    let l = c.loop-i in
    sym (l.invariant ∙ ap (λ (t : List ℕ). sets l.out (12 + 2 * l.i) (bytes_of (map word_of t))) (drop_of_length-le c.args.container.now {i = l.i} (search rules)))
