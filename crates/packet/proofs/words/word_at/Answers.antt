-- `packet::words::word_at` meets its contract.
use native.Mathlib.Omega.{arith}
use Rattle.packet.proofs.TenBits.{get_d_words_of}
use borrow.Author.Rules.{rules}
use Rattle.packet.proofs.words.word_at.Goals as goal

pub returns : goal.returns
returns c = omega (arith, c.from_le_bytes.ensures, get_d_words_of c.args.words.now c.args.k (search rules))
