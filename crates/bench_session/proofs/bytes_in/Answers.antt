use Prim.Native.Nat.{ℕ, ◌+◌, ◌<◌}
use mathlib.Core.Path.{◌≡◌, sym, ap, ◌∙◌}
use mathlib.Core.List.{List}
use native.Mathlib.Numerals.{add-one}
use native.Mathlib.Omega.{arith}
use lib.ListN.{length, get_or, drop}
use lib.Seq.{drop-cons, drop-length}
use Rattle.bench_session.specs.Frames.{byte_in, bytes_in}
use Rattle.bench_session.proofs.bytes_in.Goals as goal

step : (sum : ℕ) (l : List ℕ) (i : ℕ) → i < length l → bytes_in sum (drop i l) ≡ bytes_in (byte_in sum (get_or l i 0)) (drop (i + 1) l)
unfolding bytes_in
step sum l i h = rw add-one (ap (bytes_in sum) (drop-cons l i 0 h))

pub loop-b-preserved : goal.loop-b-preserved
loop-b-preserved c =
    let b = c.args.bytes.now in
    let l = c.loop-b in
    let next = ap (λ (n : ℕ). bytes_in n (drop (l.b-index + 1) b)) (sym c.byte_in-total.ensures.0) in
    (l.invariant.0 ∙ step l.total b l.b-index c.loop-b-test.true ∙ next, c.byte_in-total.ensures.1)

pub returns : goal.returns
unfolding bytes_in
returns c =
    let b = c.args.bytes.now in
    let l = c.loop-b in
    let all : l.b-index ≡ length b = omega arith in
    (sym (l.invariant.0 ∙ ap (bytes_in l.total) (ap (λ (n : ℕ). drop n b) all ∙ drop-length b)), l.invariant.1)
