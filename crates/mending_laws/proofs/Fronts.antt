-- Whether a field is acceptable turns on its own bytes alone.
use Prim.Native.Nat.{ℕ, ◌≤◌}
use mathlib.Core.Path.{◌≡◌, sym, ap, ◌∙◌}
use mathlib.Core.Bool.{true}
use mathlib.Core.List.{List, ◌++◌}
use native.Mathlib.Omega.{arith}
use borrow.Author.Tests.{eq-eqb}
use lib.ListN.{length, take, drop, length-append, length-drop, take-append-drop, get_or-append}
use lib.Seq.{length-take-le, take-append-le, drop-append-le, get_or-take}
use Rattle.records.specs.Records.{byte_at, pair_at}
use Rattle.container.specs.Reading.{reading}
use Rattle.mending.specs.Fields.{field_size, container_in, acceptable}
use Rattle.mending.proofs.Gaps.{accepts, by_container, fits}
use Rattle.mending_laws.specs.Recordings.{IsField}

-- the bytes of a field with others behind it
module _ (f rest : List ℕ) (all : field_size f ≡ length f) where
  three : 3 ≤ length f
  unfolding field_size
  three = omega (arith, all)

  same_tag : byte_at (f ++ rest) 0 ≡ byte_at f 0
  unfolding byte_at
  same_tag = get_or-append f rest 0 0 (omega (arith, three))

  same_pair : pair_at (f ++ rest) 1 ≡ pair_at f 1
  unfolding pair_at byte_at
  same_pair = omega (arith, get_or-append f rest 0 1 (omega (arith, three)), get_or-append f rest 0 2 (omega (arith, three)))

  pub same_size : field_size (f ++ rest) ≡ length f
  unfolding field_size
  same_size = omega (arith, same_pair, all)

  same_container : container_in (f ++ rest) ≡ container_in f
  unfolding container_in field_size
  same_container =
      ap (λ (n : ℕ). take n (drop 3 (f ++ rest))) same_pair ∙ ap (take (pair_at f 1)) (drop-append-le 3 f rest three)
      ∙ take-append-le (pair_at f 1) (drop 3 f) rest (omega (arith, all, length-drop 3 f))

  pub behind_too : acceptable f ≡ true → acceptable (f ++ rest) ≡ true
  behind_too e =
      let a = accepts f e in
      by_container (f ++ rest) (same_tag ∙ a.tag) (omega (arith, same_size, length-append f rest))
      ∙ eq-eqb _ 0 (ap (λ (c : List ℕ). (reading c).number) same_container ∙ a.accepted)

  pub front_too : acceptable (f ++ rest) ≡ true → acceptable f ≡ true
  front_too e =
      let a = accepts (f ++ rest) e in
      by_container f (sym same_tag ∙ a.tag) (omega (arith, all))
      ∙ eq-eqb _ 0 (ap (λ (c : List ℕ). (reading c).number) (sym same_container) ∙ a.accepted)

size_front : (s : List ℕ) (n : ℕ) → 3 ≤ n → field_size (take n s) ≡ field_size s
unfolding field_size pair_at byte_at
size_front s n h = omega (arith, get_or-take n s 1 0 (omega (arith, h)), get_or-take n s 2 0 (omega (arith, h)))

-- what is kept at a place is a field
pub kept_field : (s : List ℕ) → acceptable s ≡ true → IsField (take (field_size s) s)
kept_field s e =
    let n = field_size s in
    let l : length (take n s) ≡ n = length-take-le n s (fits s e).1 in
    let all : field_size (take n s) ≡ length (take n s) = size_front s n (fits s e).0 ∙ sym l in
    record { starts = front_too (take n s) (drop n s) all (ap acceptable (take-append-drop n s) ∙ e); all = all }
