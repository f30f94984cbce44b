-- `feed::alone::rewrite` meets its contract.
use Prim.Native.Nat.{ℕ}
use mathlib.Core.Path.{◌≡◌, refl, ◌∙◌}
use mathlib.Core.List.{List}
use borrow.Author.Tests.{eq-eqb, ne_eqb}
use borrow.Author.Rules.{rules}
use lib.ListN.{length}
use Rattle.std.proofs.Common.{Ok, Err}
use Rattle.laws.proofs.Refusals.{number_positive}
use Rattle.laws.specs.declared.Done.{Done}
use Rattle.container.specs.Reading.{Reading, reading, reading_of}
use Rattle.container.specs.Writing.{write_done, write_out}
use Rattle.feed.specs.Alone.{rewrite_done, rewrite_out}
use Rattle.feed.proofs.alone.rewrite.Goals as goal

module _ (bytes lent : List ℕ) (r : Reading) (e : r ≡ reading bytes) where
  accepted : r.number ≡ 0 → (write_done r.contents (length lent) ≡ rewrite_done bytes (length lent)) × (write_out r.contents lent ≡ rewrite_out bytes lent)
  unfolding rewrite_done rewrite_out
  accepted h = rw (← e, eq-eqb r.number 0 h) (refl, refl)

  refused : (r.number ≡ 0 → ⊥) → (◌≡◌ {A = Done} (record { number = r.number; written = 0 }) (rewrite_done bytes (length lent))) × (lent ≡ rewrite_out bytes lent)
  unfolding rewrite_done rewrite_out
  refused h = rw (← e, ne_eqb r.number 0 h) (refl, refl)

pub returns-in_err-contents : goal.returns-in_err-contents
returns-in_err-contents c =
    let a = c.args in
    let why = c.in_err-contents.field-0.0 in
    let r : c.from_residual.result ≡ Err why = search rules in
    rw r (refused a.bytes.now a.lent.now (reading_of (Err why)) c.in_err-contents.ensures (number_positive why))

pub returns : goal.returns
returns c =
    let a = c.args in
    let h = accepted a.bytes.now a.lent.now (reading_of (Ok c.in_ok-contents.contents)) c.in_ok-contents.ensures refl in
    (c.write_container.ensures.0 ∙ h.0, c.write_container.ensures.1 ∙ h.1)
