-- `Receiver::next` meets its contract.
use Prim.Native.Nat.{ℕ, ◌≤◌, ◌<◌}
use mathlib.Core.Path.{◌≡◌, sym, ap, ◌∙◌}
use mathlib.Core.List.{List}
use native.Mathlib.Omega.{arith}
use borrow.Author.Tests.{lt-ltb, le-ltb}
use lib.ListN.{length}
use lib.Seq.{sets}
use Rattle.std.specs.Prelude.{Some, None}
use Rattle.laws.specs.Calls.{room_number}
use Rattle.laws.proofs.Lists.{sets_over}
use Rattle.receiving.specs.declared.Slot.{Slot}
use Rattle.receiving.specs.declared.Receiver.{Receiver}
use Rattle.receiving.specs.Slots.{container_in, is_held}
use Rattle.receiving.specs.Numbers.{there_number, next_number}
use Rattle.receiving.specs.Receiver.{slot_at, asking}
use Rattle.receiving.proofs.Calls.{told, Next, refused_next, handed_over, has_room}
use Rattle.receiving.proofs.Receiver.next.Goals as goal
use Rattle.receiving.proofs.Receiver.next.Goals.{Then-out-bytes, After-move_on}

module _ (r : Receiver) (room : ℕ) where
  not_there : slot_at r 0 ≡ None → asking r room ≡ 73
  unfolding asking next_number there_number room_number is_held
  not_there e = rw e

  module _ (s : Slot) (bytes : List ℕ) (e : slot_at r 0 ≡ Some s) (b : bytes ≡ container_in (Some s)) where
    inside : container_in (slot_at r 0) ≡ bytes
    inside = ap container_in e ∙ sym b

    too_small : room < length bytes → asking r room ≡ 12
    unfolding asking next_number there_number room_number is_held
    too_small h = rw (e, ← b, lt-ltb _ _ h)

    enough : length bytes ≤ room → asking r room ≡ 0
    unfolding asking next_number there_number room_number is_held
    enough h = rw (e, ← b, le-ltb _ _ h)

pub returns-in_default-clause-answer : goal.returns-in_default-clause-answer
unfolding slot_at
returns-in_default-clause-answer c =
    let r = c.args.self.now in
    let out = c.args.out.now in
    (refused_next r out 73 (sym (not_there r (length out) c.in_default.is)) (λ z. omega (arith, z))).0

pub returns-in_default-clause-left : goal.returns-in_default-clause-left
unfolding slot_at
returns-in_default-clause-left c =
    let r = c.args.self.now in
    let out = c.args.out.now in
    (refused_next r out 73 (sym (not_there r (length out) c.in_default.is)) (λ z. omega (arith, z))).1

-- 12, which leaves all as it was
module _ (c : Then-out-bytes) where
  unroomed : Next c.args.self.now c.args.out.now (told 12 0 c.args.self.now) c.args.out.now
  unfolding slot_at
  unroomed =
      let r = c.args.self.now in
      let out = c.args.out.now in
      refused_next r out 12 (sym (too_small r (length out) c.in-Some.slot _ c.in-Some.is c.container-bytes.ensures c.if-out-bytes.true)) (λ z. omega (arith, z))

pub returns-then-out-bytes-clause-answer : goal.returns-then-out-bytes-clause-answer
returns-then-out-bytes-clause-answer c = (unroomed (goal.at.returns-then-out-bytes-clause-answer c).Then-out-bytes).0

pub returns-then-out-bytes-clause-left : goal.returns-then-out-bytes-clause-left
returns-then-out-bytes-clause-left c = (unroomed (goal.at.returns-then-out-bytes-clause-left c).Then-out-bytes).1

-- what is handed out
module _ (c : After-move_on) where
  roomy : asking c.args.self.now (length c.args.out.now) ≡ 0
  unfolding slot_at
  roomy = enough c.args.self.now (length c.args.out.now) c.in-Some.slot _ c.in-Some.is c.container-bytes.ensures c.if-out-bytes.false

  held : container_in (slot_at c.args.self.now 0) ≡ c.container-bytes.result.now
  unfolding slot_at
  held = inside c.args.self.now (length c.args.out.now) c.in-Some.slot _ c.in-Some.is c.container-bytes.ensures

pub returns-clause-answer : goal.returns-clause-answer
returns-clause-answer c =
    let w = (goal.at.returns-clause-answer c).After-move_on in
    rw (c.move_on.ensures, ← held w) (handed_over c.args.self.now c.args.out.now (roomy w)).0

pub returns-clause-left : goal.returns-clause-left
returns-clause-left c =
    let w = (goal.at.returns-clause-left c).After-move_on in
    let r = c.args.self.now in
    let out = c.args.out.now in
    c.copy_at.ensures ∙ ap (sets out 0) (sym (held w)) ∙ sets_over (container_in (slot_at r 0)) out (has_room r (length out) (roomy w)) ∙ (handed_over r out (roomy w)).1
