-- `container::write_container` meets its contract.
use Prim.Native.Nat.{ℕ}
use mathlib.Core.Path.{◌≡◌, sym, ap, ◌∙◌}
use mathlib.Core.List.{List}
use mathlib.Core.Bool.{true}
use native.Mathlib.Omega.{arith}
use lib.ListN.{length, take}
use lib.Seq.{sets}
use Rattle.laws.proofs.Lists.{sets_over}
use Rattle.container.specs.Bytes.{encode}
use Rattle.container.specs.Writing.{readable}
use Rattle.container.proofs.Readable.{readable_fits}
use Rattle.container.proofs.Outcome.{take_front, write_29, write_12, write_0}
use borrow.Author.Rules.{rules}
use Rattle.container.proofs.write_container.Goals as goal
use Rattle.container.proofs.write_container.Goals.{After-encode-size, Else-not-readable, Start}

right : (c : goal.Else-not-readable) → readable c.args.contents ≡ true
right c = sym c.readable.ensures ∙ c.if-not-readable.false

many : (c : goal.Start) → length c.args.contents.prints ≡ 32
many c = search rules

-- the bytes to be written, at the front of a buffer
there : (c : goal.After-encode-size) → take c.encode-size.result c.encode-size.new.out ≡ encode c.args.contents
there c =
    ap (take c.encode-size.result) c.encode-size.ensures.2 ∙ take_front _ (encode c.args.contents) c.encode-size.result (sym c.encode-size.ensures.0) c.encode-size.ensures.1

pub returns-then-not-readable : goal.returns-then-not-readable
returns-then-not-readable c =
    let s = c in
    write_29 s.args.contents s.args.out.now (sym c.readable.ensures ∙ c.if-not-readable.true)

pub encode-size-requires-clause-fits : goal.encode-size-requires-clause-fits
encode-size-requires-clause-fits c =
    readable_fits _ (many (goal.at.encode-size-requires-clause-fits c).Start) (right (goal.at.encode-size-requires-clause-fits c).Else-not-readable)

pub returns-then-out-size : goal.returns-then-out-size
returns-then-out-size c =
    let s = c in
    write_12 s.args.contents s.args.out.now (right (goal.at.returns-then-out-size c).Else-not-readable) _ c.encode-size.ensures.0 c.if-out-size.true

pub returns : goal.returns
returns c =
    let e = c in
    let s = e in
    let out : List ℕ = s.args.out.now in
    let room = c.if-out-size.false in
    let w = write_0 s.args.contents out (right (goal.at.returns c).Else-not-readable) _ e.encode-size.ensures.0 room in (
      w.0,
      c.copy_at.ensures ∙ ap (sets out 0) (there (goal.at.returns c).After-encode-size) ∙ sets_over (encode s.args.contents) out (omega (arith, e.encode-size.ensures.0, room)) ∙ w.1,
    )
