-- `packet::write::put_head` meets its contract.
use Rattle.packet.specs.Words.{bytes_of}
use Rattle.packet.specs.Writing.{head_words}
use Rattle.packet.proofs.write.put_head.Goals as goal

pub returns : goal.returns
unfolding bytes_of head_words
returns c = cc
