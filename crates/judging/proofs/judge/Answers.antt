-- `judging::judge` meets its contract.
use Prim.Native.Nat.{ℕ, ◌≤◌}
use mathlib.Core.Path.{◌≡◌, sym, ap, ap₂, ◌∙◌}
use mathlib.Core.List.{List}
use native.Mathlib.Omega.{arith}
use borrow.Author.Rules.{rules}
use lib.ListN.{length, take, replicate}
use lib.Seq.{length-take-le}
use Rattle.laws.specs.declared.Done.{Done}
use Rattle.laws.specs.Calls.{handed_out}
use Rattle.laws.proofs.Refusals.{number_positive}
use Rattle.container.specs.Reading.{reading}
use Rattle.packet.specs.Reading.{read_done, read_out}
use Rattle.packet_laws.proofs.Packet.{read_fits, carries_accepted}
use Rattle.judging.specs.Packets.{packet_number, contents_in}
use Rattle.judging.specs.Judge.{refused_with}
use Rattle.judging.proofs.Judges.{refused, accepted}
use Rattle.judging.proofs.judge.Goals as goal
use Rattle.judging.proofs.judge.Goals.{In-Ok}

within : (c : goal.In-Ok) → c.in-Ok.size ≤ length c.read_packet.new.out
within c =
    let l : length c.read_packet.new.out ≡ 255 = search rules in
    omega (arith, l, ap (λ (d : Done). d.written) c.in-Ok.ensures.0, read_fits c.args.words.now 255)

-- what is read is what the packet carries
carries : (c : goal.In-Ok) → take c.in-Ok.size c.read_packet.new.out ≡ handed_out (read_done c.args.words.now 255) (read_out c.args.words.now (replicate 255 0))
carries c = ap₂ (λ (n : ℕ) (out : List ℕ). take n out) (ap (λ (d : Done). d.written) c.in-Ok.ensures.0) c.in-Ok.ensures.1

taken : (c : goal.In-Ok) → (read_done c.args.words.now 255).number ≡ 0
taken c = ap (λ (d : Done). d.number) (sym c.in-Ok.ensures.0)

pub returns-in-Err : goal.returns-in-Err
unfolding refused_with packet_number
returns-in-Err c =
    let a = c.args in
    let n = c.number.ensures in
    refused a.k a.words.now c.number.result (ap (λ (d : Done). d.number) (sym c.in-Err.ensures.0) ∙ sym n) (λ z. number_positive c.in-Err.why (sym n ∙ z))

pub slice_bounds-bytes-end : goal.slice_bounds-bytes-end
slice_bounds-bytes-end c = within (goal.at.slice_bounds-bytes-end c).In-Ok

pub slice_bounds-read_container-end : goal.slice_bounds-read_container-end
slice_bounds-read_container-end c = sym (length-take-le _ _ (within (goal.at.slice_bounds-read_container-end c).In-Ok))

pub unreachable-requires : goal.unreachable-requires
unreachable-requires c =
    let w = (goal.at.unreachable-requires c).In-Ok in
    let e = c.in-Err-read_container.ensures ∙ ap reading (carries w) in
    number_positive c.in-Err-read_container.field-0
    (rw (← e) at (carries_accepted c.args.words.now (replicate 255 0) (taken w)).1)

pub returns : goal.returns
unfolding packet_number contents_in
returns c =
    let a = c.args in
    let w = (goal.at.returns c).In-Ok in
    let e = c.in-Ok-read_container.ensures ∙ ap reading (carries w) in
    c.judge_contents.ensures
    ∙ (rw (contents_in, ← e) at (accepted a.k a.words.now (taken w)))
