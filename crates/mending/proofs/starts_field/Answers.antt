-- `mending::starts_field` meets its contract: each answer by the tests that led to it.
use Prim.Native.Nat.{ℕ, ◌+◌, ◌-◌, ◌<◌}
use mathlib.Core.Path.{◌≡◌, refl, sym, ap, ◌∙◌}
use mathlib.Core.List.{List}
use native.Mathlib.Omega.{arith}
use borrow.Author.Tests.{lt-leb, ne_eqb}
use lib.Dec.{eqb}
use lib.ListN.{length, take, drop}
use Rattle.std.specs.Prelude.{is_ok}
use Rattle.std.proofs.Common.{Result, Ok, Err}
use Rattle.laws.specs.declared.Refusal.{Refusal}
use Rattle.laws.specs.Refusals.{number_of, number_in}
use Rattle.laws.proofs.Refusals.{number_positive}
use Rattle.records.specs.Records.{byte_at, pair_at}
use Rattle.container.specs.Reading.{reading}
use Rattle.mending.specs.Fields.{field_size, container_in}
use Rattle.mending.proofs.Gaps.{other_tag, not_whole, by_container}
use Rattle.mending.proofs.starts_field.Goals as goal
use Rattle.mending.proofs.starts_field.Goals.{then-rest-lt3-via-then-rest-lt3, then-rest-lt3-via-else-rest-lt3+then-rest-ne1}

-- the part that is lent on is the field's container
there : (s : List ℕ) → take (pair_at s 1 + 3 - 3) (drop 3 s) ≡ container_in s
unfolding container_in
there s = let e : pair_at s 1 + 3 - 3 ≡ pair_at s 1 = omega arith in ap (λ (n : ℕ). take n (drop 3 s)) e

-- accepted is what has no refusal's number
ok_number : (r : Result Unit Refusal) → is_ok r ≡ eqb (number_in r) 0
ok_number (Ok _) = refl
ok_number (Err why) = sym (ne_eqb (number_of why) 0 (number_positive why))

pub returns-then-rest-lt3 : goal.returns-then-rest-lt3
unfolding field_size byte_at
returns-then-rest-lt3 c =
    elim c.then-rest-lt3.branch [
      | then-rest-lt3-via-then-rest-lt3 w ↦ sym (not_whole _ (omega (arith, w.if-rest-lt3.true)))
      | then-rest-lt3-via-else-rest-lt3+then-rest-ne1 w ↦ sym (other_tag _ w.if-rest-ne1.true)
    ]

pub returns-else-end-rest : goal.returns-else-end-rest
unfolding field_size
returns-else-end-rest c =
    let short : length c.args.rest.now < pair_at c.args.rest.now 1 + 3 = omega (arith, c.pair_at-end.ensures.0, c.if-end-rest.false) in
    lt-leb _ _ c.if-end-rest.false ∙ sym (not_whole _ short)

pub returns-then-end-rest : goal.returns-then-end-rest
unfolding field_size byte_at
returns-then-end-rest c =
    let s = c.args.rest.now in
    let p = c.pair_at-end.ensures.0 in
    c.is_ok.ensures.value
    ∙ ok_number c.check_container.result
    ∙ ap (λ (m : ℕ). eqb m 0) (c.check_container.ensures ∙ ap (λ (b : List ℕ). (reading b).number) (ap (λ (m : ℕ). take (m + 3 - 3) (drop 3 s)) p ∙ there s))
    ∙ sym (by_container s c.if-rest-ne1.false (omega (arith, p, c.if-end-rest.true)))
