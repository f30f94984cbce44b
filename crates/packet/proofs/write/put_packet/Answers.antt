-- `packet::write::put_packet` meets its contract.
use Prim.Native.Nat.{◌*◌, ◌-◌, ◌+◌}
use mathlib.Core.Path.{ap, ◌∙◌}
use native.Mathlib.Omega.{arith}
use lib.ListN.{length}
use Rattle.packet.specs.Words.{check_word}
use Rattle.packet.proofs.TenBits.{front_put, covered_put, packet_put}
use Rattle.packet.proofs.write.put_packet.Goals as goal

pub returns : goal.returns
returns c =
    let a = c.args in
    let room = c.requires.1 in
    let front = front_put a.container.now a.out.now room _ _ c.put_head.ensures c.put_users.ensures in
    let check = c.check_of-check.ensures ∙ ap check_word (covered_put a.container.now a.out.now room _ (12 + 2 * length a.container.now - 6) front (omega arith)) in
    packet_put a.container.now a.out.now room _ _ _ front check c.put_word.ensures
