-- A record with a room, and the work buffer whose first bytes are lent.
use Prim.Native.Nat.{ℕ, ◌+◌, ◌≤◌}
use mathlib.Core.Path.{◌≡◌, refl, sym, ap, ◌∙◌}
use mathlib.Core.List.{List, ◌++◌}
use mathlib.Core.Bool.{Bool, true, false, cond}
use native.Mathlib.Omega.{arith}
use lib.ListN.{length, take, drop}
use lib.Dec.{leb}
use borrow.Author.Tests.{leb-true}
use Rattle.std.specs.declared.result.Result.{Result}
use Rattle.std.specs.declared.result.Result.TheVariants.{Ok, Err}
use Rattle.laws.specs.Calls.{over}
use Rattle.records.specs.Records.{pair_at}
use Rattle.answers.specs.declared.Cause.TheVariants.{TooShort, RoomAbove}
use Rattle.answers.specs.declared.Cause.{Cause}
use Rattle.answers.specs.Lines.{untouched, fresh}
use Rattle.answers.specs.Rooms.{room_at}
use Rattle.answers.proofs.Watch.{untouched_size, untouched_take}

room_is : (p : List ℕ) (at room : ℕ) → room_at p at ≡ Ok room → (at + 2 ≤ length p) × (room ≤ 4096)
unfolding room_at
room_is p at room e = go (leb (at + 2) (length p)) (leb (pair_at p at) 4096) refl refl e
  where
    go : (s t : Bool) → leb (at + 2) (length p) ≡ s → leb (pair_at p at) 4096 ≡ t → cond s (cond t (Ok (pair_at p at)) (Err RoomAbove)) (Err TooShort) ≡ Ok room → (at + 2 ≤ length p) × (room ≤ 4096)
    go true true f g h = let k : pair_at p at ≡ room = cc in (leb-true (at + 2) (length p) f, omega (arith, leb-true (pair_at p at) 4096 g))
    go true false f g h = absurd (let z : ◌≡◌ {A = ℕ} 0 1 = cc in omega arith)
    go false t f g h = absurd (let z : ◌≡◌ {A = ℕ} 0 1 = cc in omega arith)

pub room_most : (p : List ℕ) (at room : ℕ) → room_at p at ≡ Ok room → room ≤ 4096
room_most p at room e = (room_is p at room e).1

-- a record with a room, and the first bytes of the work buffer that are lent
pub record Roomed (p : List ℕ) (at room : ℕ) (work : List ℕ) : Type 0 where
  pub long : at + 2 ≤ length p
  pub fits : room ≤ length work
  pub lent : take room work ≡ untouched room
  pub size : room ≡ length (take room work)

pub roomed : (p : List ℕ) (at room : ℕ) (r : Result ℕ Cause) (work : List ℕ) → r ≡ room_at p at → r ≡ Ok room → work ≡ fresh → Roomed p at room work
roomed p at room r work e f w =
    let h = room_is p at room (sym e ∙ f) in
    let lent : take room work ≡ untouched room = ap (take room) w ∙ untouched_take room 4096 h.1 in
    record {
      long = h.0;
      fits = omega (arith, h.1, ap length w, untouched_size 4096);
      lent = lent;
      size = sym (ap length lent ∙ untouched_size room);
    }

-- what is left of the room, in the work buffer
pub work_after : (left work : List ℕ) (room : ℕ) → length left ≡ room → work ≡ fresh → left ++ drop room work ≡ over left fresh
unfolding over
work_after left work room e w = ap (λ (n : ℕ). left ++ drop n work) (sym e) ∙ ap (λ (l : List ℕ). left ++ drop (length left) l) w
