use Prim.Native.Nat.{ℕ, ◌+◌, ◌<◌}
use mathlib.Core.List.{List}
use mathlib.Core.Path.{◌≡◌, refl, ap, ◌∙◌, sym}
use native.Mathlib.Omega.{arith}
use native.Mathlib.Numerals.{add-one}
use lib.ListN.{length, drop, get_or, drop_of_length-le}
use lib.Seq.{drop-cons}
use Rattle.transport.specs.Register.{byte_step, run, register_of}
use Rattle.transport.proofs.register.register.Goals as goal

one_more : (reg : ℕ) (l : List ℕ) (i : ℕ) → i < length l → run reg (drop i l) ≡ run (byte_step reg (get_or l i 0)) (drop (i + 1) l)
unfolding run
one_more reg l i h = rw (drop-cons l i 0, add-one)

pub loop-byte-init : goal.loop-byte-init
unfolding register_of
loop-byte-init c = refl

pub loop-byte-preserved : goal.loop-byte-preserved
loop-byte-preserved c =
    let bytes = c.args.bytes.now in
    let l = c.loop-byte in
    l.invariant ∙ one_more l.reg bytes l.byte-index (omega arith) ∙ ap (λ (x : ℕ). run x (drop (l.byte-index + 1) bytes)) (sym c.step-reg.ensures)

pub returns : goal.returns
unfolding run
returns c =
    let l = c.loop-byte in
    sym (l.invariant ∙ ap (run l.reg) (drop_of_length-le c.args.bytes.now {i = l.byte-index} (omega arith)))
