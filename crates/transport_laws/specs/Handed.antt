-- What the two calls of transport packets hand out into a lent buffer.
use Rattle.std.specs.Prelude.{ℕ, List, length}
use Rattle.laws.specs.Calls.{handed_out}
use Rattle.transport.specs.Writing.{write_done, write_out}
use Rattle.transport.specs.Reading.{read_done, read_out}

-- the transport packet of a container's bytes
abbrev pub streamed : List ℕ → List ℕ → List ℕ
streamed c out = handed_out (write_done c (length out)) (write_out c out)

-- the container's bytes of a transport packet
abbrev pub unstreamed : List ℕ → List ℕ → List ℕ
unstreamed s out = handed_out (read_done s (length out)) (read_out s out)
