-- `Turn::frame_at` meets its contract.
use Prim.Native.Nat.{ℕ, ◌%◌}
use mathlib.Core.Path.{◌≡◌, ap, ◌∙◌}
use mathlib.Core.List.{List}
use borrow.Author.Tests.{eq-eqb, ne_eqb}
use Rattle.bench_session.specs.Frames.{frame_of, line_at}
use Rattle.bench_session.proofs.Turn.frame_at.Goals as goal

first_line : (even odd : List ℕ) (turn : ℕ) → turn % 2 ≡ 0 → even ≡ line_at even odd turn
unfolding line_at
first_line even odd turn h = rw (eq-eqb _ _ h)

second_line : (even odd : List ℕ) (turn : ℕ) → (turn % 2 ≡ 0 → ⊥) → odd ≡ line_at even odd turn
unfolding line_at
second_line even odd turn h = rw (ne_eqb _ _ h)

pub returns-then-turn_at-eq0 : goal.returns-then-turn_at-eq0
returns-then-turn_at-eq0 c =
    let a = c.args in
    let turn = c.turn_at in
    let line = first_line a.even.now a.odd.now turn.result c.if-turn_at-eq0.true ∙ ap (line_at a.even.now a.odd.now) turn.ensures in
    (c.frame.ensures.0 ∙ ap (λ (l : List ℕ). frame_of a.load l a.block.now a.self.now) line, c.frame.ensures.1)

pub returns-else-turn_at-eq0 : goal.returns-else-turn_at-eq0
returns-else-turn_at-eq0 c =
    let a = c.args in
    let turn = c.turn_at in
    let line = second_line a.even.now a.odd.now turn.result c.if-turn_at-eq0.false ∙ ap (line_at a.even.now a.odd.now) turn.ensures in
    (c.frame-else-turn_at-eq0.ensures.0 ∙ ap (λ (l : List ℕ). frame_of a.load l a.block.now a.self.now) line, c.frame-else-turn_at-eq0.ensures.1)
