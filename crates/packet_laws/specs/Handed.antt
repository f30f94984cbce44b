-- What the two packet calls hand out into a lent buffer.
use Rattle.std.specs.Prelude.{ℕ, List, length}
use Rattle.laws.specs.Calls.{handed_out}
use Rattle.packet.specs.Writing.{write_done, write_out}
use Rattle.packet.specs.Reading.{read_done, read_out}

-- the packet of a container's bytes
abbrev pub wrapped : List ℕ → List ℕ → List ℕ
wrapped c out = handed_out (write_done c (length out)) (write_out c out)

-- the container's bytes of a packet
abbrev pub unwrapped : List ℕ → List ℕ → List ℕ
unwrapped s out = handed_out (read_done s (length out)) (read_out s out)
