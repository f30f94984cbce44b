-- `bench_session::turn_at` meets its contract.
use Prim.Native.Nat.{ℕ, ◌/◌}
use mathlib.Core.Path.{◌≡◌, ap, ◌∙◌}
use borrow.Author.Tests.{eq-eqb, ne_eqb}
use Rattle.sampling.specs.declared.Row.{Row}
use Rattle.bench_session.specs.Frames.{turn_at}
use Rattle.bench_session.proofs.turn_at.Goals as goal

one_field : (r : Row) (i : ℕ) → r.vstart2 ≡ 0 → i / 2 ≡ turn_at r i
unfolding turn_at
one_field r i h = rw (eq-eqb _ _ h)

two_fields : (r : Row) (i : ℕ) → (r.vstart2 ≡ 0 → ⊥) → i ≡ turn_at r i
unfolding turn_at
two_fields r i h = rw (ne_eqb _ _ h)

pub returns-then-row-eq0 : goal.returns-then-row-eq0
returns-then-row-eq0 c =
    let i = c.args.i in
    let row = c.row_of-row in
    one_field row.result i c.if-row-eq0.true ∙ ap (λ (r : Row). turn_at r i) row.ensures

pub returns-else-row-eq0 : goal.returns-else-row-eq0
returns-else-row-eq0 c =
    let i = c.args.i in
    let row = c.row_of-row in
    two_fields row.result i c.if-row-eq0.false ∙ ap (λ (r : Row). turn_at r i) row.ensures
