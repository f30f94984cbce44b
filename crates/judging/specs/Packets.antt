-- What is looked at in a packet: the number that refuses it, and what the container of an accepted one says.
use Rattle.std.specs.Prelude.{ℕ, List, [], get_or, replicate}
use Rattle.laws.specs.Calls.{handed_out}
use Rattle.container.specs.declared.Print.{Print}
use Rattle.container.specs.declared.Contents.{Contents}
use Rattle.container.specs.Reading.{reading}
use Rattle.packet.specs.Reading.{read_done, read_out}

-- "a packet refused, with the number": that of Read packet, with room for any container
unfoldable pub packet_number : List ℕ → ℕ
packet_number p = (read_done p 255).number

unfoldable pub contents_in : List ℕ → Contents
contents_in p = (reading (handed_out (read_done p 255) (read_out p (replicate 255 0)))).contents

-- past the places of a container
abbrev pub no_print : Print
no_print = record { id = 0; mix = 0; size = 0; bytes = [] }

-- "audio byte counts": the bytes that the first fingerprint carries, as every other does (02, A2)
unfoldable pub carried : Contents → ℕ
carried c = (get_or c.prints 0 no_print).size
