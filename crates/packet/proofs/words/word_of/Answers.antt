-- `packet::words::word_of` meets its contract: the count of ones modulo 2 is the parity.
use Prim.Native.Nat.{◌%◌, ◌^◌, ◌<◌}
use mathlib.Core.Path.{◌≡◌}
use native.Mathlib.Omega.{arith}
use lib.Count.{ones}
use Rattle.packet.specs.Words.{parity, with_bit9, word_of}
use Rattle.packet.proofs.Parity.{ones_parity}
use borrow.Author.Rules.{rules}
use Rattle.packet.proofs.words.word_of.Goals as goal

pub returns : goal.returns
unfolding word_of with_bit9
returns c =
    let h : c.args.b < 2 ^ 8 = search rules in
    let e : ones c.args.b % 2 ≡ parity 8 c.args.b = ones_parity 8 c.args.b h in
    omega arith
