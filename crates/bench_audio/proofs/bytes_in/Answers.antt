-- `bench_audio::bytes_in` meets its contract.
use Rattle.bench_audio.specs.Turns.{bytes_in}
use Rattle.bench_audio.proofs.bytes_in.Goals as goal

pub returns : goal.returns
unfolding bytes_in
returns c =
    let a = c.byte_in-a in
    let b = c.byte_in-b in
    let d = c.byte_in-c in
    let e = c.byte_in-d in
    (cc (a.ensures.0, b.ensures.0, d.ensures.0, e.ensures.0, c.byte_in.ensures.0), c.byte_in.ensures.1)
