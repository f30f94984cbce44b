-- `Receiver::arrive` meets its contract. Of a container it knows only what the container's own laws say.
use Prim.Native.Nat.{ℕ, ◌<◌}
use mathlib.Core.Path.{◌≡◌, refl, sym, ap, ◌∙◌}
use mathlib.Core.List.{List}
use native.Mathlib.Omega.{arith}
use borrow.Author.Rules.{rules}
use Rattle.std.proofs.Common.{Err}
use Rattle.laws.specs.Refusals.{number_of}
use Rattle.laws.proofs.Refusals.{number_positive}
use Rattle.container.specs.Reading.{reading}
use Rattle.container_laws.proofs.Container.{accepted_size}
use Rattle.receiving.specs.declared.Receiver.{Receiver}
use Rattle.receiving.specs.Slots.{is_held}
use Rattle.receiving.specs.Numbers.{ahead, place_number}
use Rattle.receiving.specs.Receiver.{slot_at, distance_of, arriving, holding}
use Rattle.receiving.proofs.Calls.{place_free, unread, placed, refused_arrival, taken_in}
use Rattle.receiving.proofs.Receiver.arrive.Goals as goal

module _ (r : Receiver) (b : List ℕ) where
  away : (d : ℕ) → d ≡ ahead (reading b).contents.counter r.expected → d ≡ distance_of r b
  unfolding distance_of
  away d e = e

  judged : (d n : ℕ) → (reading b).number ≡ 0 → d ≡ ahead (reading b).contents.counter r.expected → n ≡ place_number d (is_held (slot_at r d)) → arriving r b ≡ n
  judged d n z e p = placed r b z ∙ ap (λ (m : ℕ). place_number m (is_held (slot_at r m))) (sym (away d e)) ∙ sym p

near : (r : Receiver) (d : ℕ) → 0 ≡ place_number d (is_held (slot_at r d)) → d < 8
near r d p = (place_free d (is_held (slot_at r d)) (sym p)).0

pub returns-in_err-contents : goal.returns-in_err-contents
returns-in_err-contents c =
    let a = c.args in
    let why = c.in_err-contents.field-0.0 in
    let r : c.from_residual.result ≡ Err why = search rules in
    rw r (refused_arrival a.self.now a.bytes.now (number_of why)
    (unread a.self.now a.bytes.now (number_of why) (rw (← c.in_err-contents.ensures) refl) (number_positive why))
    (number_positive why))

pub returns-in_err-check_place : goal.returns-in_err-check_place
returns-in_err-check_place c =
    let a = c.args in
    let why = c.in_err-check_place.field-0.0 in
    let r : c.from_residual-in_err-check_place.result ≡ Err why = search rules in
    rw r (refused_arrival a.self.now a.bytes.now (number_of why)
    (judged a.self.now a.bytes.now _ (number_of why) (rw (← c.in_ok-contents.ensures) refl) (rw (← c.in_ok-contents.ensures) c.distance-d.ensures) c.in_err-check_place.ensures)
    (number_positive why))

pub slot_of-requires : goal.slot_of-requires
slot_of-requires c =
    let a = c.args in
    omega (arith, (accepted_size a.bytes.now (λ k. omega (arith, c.type_inv.bytes k)) (rw (← c.in_ok-contents.ensures) refl)).1)

pub offset_bounds-self-d : goal.offset_bounds-self-d
offset_bounds-self-d c = omega (arith, near c.args.self.now c.distance-d.result c.in_ok-check_place.ensures)

pub bounds-self-d : goal.bounds-self-d
bounds-self-d c = omega (arith, near c.args.self.now c.distance-d.result c.in_ok-check_place.ensures)

pub returns : goal.returns
unfolding holding
returns c =
    let r = c.args.self.now in
    let b = c.args.bytes.now in
    let e = c.in_ok-contents.ensures in
    rw (c.slot_of.ensures, away r b c.distance-d.result (rw (← e) c.distance-d.ensures)) (taken_in r b (judged r b _ 0 (rw (← e) refl) (rw (← e) c.distance-d.ensures) c.in_ok-check_place.ensures))
