-- `bench_session::fields` meets its contract.
use Prim.Native.Nat.{ℕ}
use mathlib.Core.Path.{◌≡◌, sym, subst, ap, ◌∙◌}
use mathlib.Core.List.{List}
use borrow.Author.Tests.{eq-eqb, ne_eqb}
use Rattle.sampling.specs.declared.Row.{Row}
use Rattle.session.specs.declared.Session.{Session}
use Rattle.bench_session.specs.Frames.{field_lines, fields_of}
use Rattle.bench_session.proofs.Rows.{Few, few}
use Rattle.bench_session.proofs.fields.Goals as goal

one_field : (r : Row) (l : List ℕ) (s : Session) → r.vstart2 ≡ 0 → field_lines s r.vstart1 r.vstep l 16 ≡ fields_of r l s
unfolding fields_of
one_field r l s h = rw (eq-eqb _ _ h)

two_fields : (r : Row) (l : List ℕ) (s : Session) → (r.vstart2 ≡ 0 → ⊥) → field_lines (field_lines s r.vstart1 r.vstep l 16) r.vstart2 r.vstep l 16 ≡ fields_of r l s
unfolding fields_of
two_fields r l s h = rw (ne_eqb _ _ h)

pub field-requires : goal.field-requires
field-requires c =
    let n = subst Few (sym c.row_of-row.ensures) (few c.args.format) in
    (n.first1, n.step)

pub field-requires-then-row-ne0 : goal.field-requires-then-row-ne0
field-requires-then-row-ne0 c =
    let n = subst Few (sym c.row_of-row.ensures) (few c.args.format) in
    (n.first2, n.step)

pub returns-else-row-ne0 : goal.returns-else-row-ne0
returns-else-row-ne0 c =
    let a = c.args in
    let row = c.row_of-row in
    c.field.ensures
    ∙ one_field row.result a.line.now a.s.now c.if-row-ne0.false
    ∙ ap (λ (r : Row). fields_of r a.line.now a.s.now) row.ensures

pub returns-then-row-ne0 : goal.returns-then-row-ne0
returns-then-row-ne0 c =
    let a = c.args in
    let row = c.row_of-row in
    let r : Row = row.result in
    c.field-then-row-ne0.ensures
    ∙ ap (λ (t : Session). field_lines t r.vstart2 r.vstep a.line.now 16) c.field.ensures
    ∙ two_fields r a.line.now a.s.now c.if-row-ne0.true
    ∙ ap (λ (q : Row). fields_of q a.line.now a.s.now) row.ensures
