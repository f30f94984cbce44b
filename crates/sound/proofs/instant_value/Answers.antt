-- `sound::instant_value` meets its contract.
use Prim.Native.Nat.{ℕ, ◌-◌}
use mathlib.Core.Path.{◌≡◌, sym, ap, ◌∙◌}
use native.Mathlib.Omega.{arith}
use mathlib.Core.List.{List, ◌++◌}
use lib.ListN.{length, take, drop, replicate, length-drop, length-append}
use Rattle.std.proofs.lemmas.List.{length-take-le}
use Rattle.laws.proofs.Lists.{tail_part}
use Rattle.sound.specs.Mix.{instant_value}
use Rattle.sound.proofs.Instants.{past_value, cut_value, few_bytes}
use Rattle.sound.proofs.instant_value.Goals as goal
use Rattle.sound.proofs.instant_value.Goals.{Else-instant_bytes-block}

pub returns-then-block-at : goal.returns-then-block-at
returns-then-block-at c =
    let a = c.args in
    past_value a.rule a.mix a.block.now a.at (omega arith)

pub slice_bounds-instant-end : goal.slice_bounds-instant-end
slice_bounds-instant-end c = omega (arith, few_bytes c.args.mix)

-- the zeros that the block's last bytes are copied over are as many
room : (c : goal.Else-instant_bytes-block) → length (take {A = ℕ} (length c.args.block.now - c.args.at) (replicate 10 0)) ≡ length c.args.block.now - c.args.at
room c = length-take-le (length c.args.block.now - c.args.at) (replicate 10 0) (slice_bounds-instant-end c)

pub slice_bounds-copy_from_slice-length : goal.slice_bounds-copy_from_slice-length
slice_bounds-copy_from_slice-length c = sym (room (goal.at.slice_bounds-copy_from_slice-length c).Else-instant_bytes-block)

pub copy_from_slice-requires : goal.copy_from_slice-requires
copy_from_slice-requires c =
    let a = c.args in
    let b = a.block.now in
    room (goal.at.copy_from_slice-requires c).Else-instant_bytes-block ∙ (sym (length-drop a.at b) ∙ ap length (sym (tail_part b a.at)))

pub whole_value-requires-2 : goal.whole_value-requires-2
whole_value-requires-2 c =
    let n = length c.args.block.now - c.args.at in
    let zeros = drop {A = ℕ} n (replicate 10 0) in
    omega (
      arith,
      few_bytes c.args.mix,
      length-append c.copy_from_slice.new.self zeros,
      length-drop {A = ℕ} n (replicate 10 0),
      c.copy_from_slice.ensures.len,
      room (goal.at.whole_value-requires-2 c).Else-instant_bytes-block,
    )

pub returns : goal.returns
returns c =
    let a = c.args in
    let b = a.block.now in
    let n = length b - a.at in
    let all = c.copy_from_slice.ensures.after ∙ tail_part b a.at in
    c.whole_value-2.ensures
    ∙ (ap (λ (l : List ℕ). instant_value a.rule a.mix (l ++ drop n (replicate 10 0)) 0) all ∙ cut_value a.rule a.mix b a.at n)
