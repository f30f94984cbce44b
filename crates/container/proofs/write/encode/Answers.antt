-- `container::write::encode` meets its contract: the parts, then the header that counts them, then the checksum.
use Rattle.std.proofs.Common.{ℕ, ◌≡◌, ◌%◌, ◌≤◌, List, [], ◌∷◌, length, rules, arith, sym, ap, ◌∙◌}
use Rattle.laws.specs.Sums.{sum}
use Rattle.laws.proofs.Lists.{sets_then}
use Rattle.container.specs.Bytes.{part_bytes, front_bytes, check_byte, encode}
use Rattle.container.proofs.Bytes.{front_length, encode_length, parts_at_most}
use Rattle.container.proofs.Outcome.{Fronted, fronted}
use Rattle.container.proofs.write.encode.Goals as goal
use Rattle.container.proofs.write.encode.Goals.{After-copy_at, Start}

small : (c : goal.Start) → length (part_bytes c.args.c) ≤ 249
small c = parts_at_most c.args.c (record { id = search rules; prints = search rules }) c.requires.fits

front : (c : goal.After-copy_at) → length (part_bytes c.args.c) ≤ 249 → Fronted c.args.c c.args.out.now c.copy_at.new.out c.write_parts-end.result
front c h =
    fronted c.args.c c.args.out.now c.write_parts-end.new.out c.copy_at.new.out c.write_parts-end.result c.flag_byte.result h c.requires.room
    c.write_parts-end.ensures.0 c.write_parts-end.ensures.1 c.flag_byte.ensures c.copy_at.ensures

pub overflow_cast-head : goal.overflow_cast-head
overflow_cast-head c = omega (arith, c.write_parts-end.ensures.0, small (goal.at.overflow_cast-head c).Start)

pub slice_bounds-byte_sum-end : goal.slice_bounds-byte_sum-end
slice_bounds-byte_sum-end c =
    let w = goal.at.slice_bounds-byte_sum-end c in
    let f = front w.After-copy_at (small w.Start) in
    omega (arith, f.within, f.long)

pub slice_bounds-byte_sum-end-2 : goal.slice_bounds-byte_sum-end-2
slice_bounds-byte_sum-end-2 c =
    let w = goal.at.slice_bounds-byte_sum-end-2 c in
    let f = front w.After-copy_at (small w.Start) in
    f.ends ∙ sym (ap length f.back)

pub bounds-out-end : goal.bounds-out-end
bounds-out-end c =
    let w = goal.at.bounds-out-end c in
    let f = front w.After-copy_at (small w.Start) in
    omega (arith, f.within, f.long)

pub overflow_add-result : goal.overflow_add-result
overflow_add-result c = let w = goal.at.overflow_add-result c in omega (arith, (front w.After-copy_at (small w.Start)).within)

pub returns : goal.returns
unfolding encode check_byte
returns c =
    let w = goal.at.returns c in
    let f = front w.After-copy_at (small w.Start) in
    let bytes : List ℕ = front_bytes c.args.c in
    let s : c.byte_sum.result ≡ sum bytes % 256 = c.byte_sum.ensures ∙ ap (λ (l : List ℕ). sum l % 256) f.back in
    let z : c.wrapping_neg.result ≡ check_byte (sum bytes) = omega (arith, s, c.wrapping_neg.ensures) in (
      omega (arith, f.ends, front_length c.args.c, encode_length c.args.c),
      omega (arith, f.within),
      sets_then c.args.out.now c.copy_at.new.out _ bytes (check_byte (sum bytes) ∷ []) 0 c.write_parts-end.result f.is (omega (arith, f.ends)) (rw z),
    )
