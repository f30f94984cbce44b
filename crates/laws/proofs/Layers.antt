-- A layer around what another layer judges, as packets stand around containers: both round trips of any such layer. Its reader tells the layer's own refusal,
-- then that of the bytes that are carried, then 12; its writer that of the bytes that it is given, then 12.
use Prim.Native.Nat.{ℕ, ◌≤◌}
use mathlib.Core.Path.{◌≡◌, refl, sym, ap, ◌∙◌}
use mathlib.Core.List.{List}
use mathlib.Core.Bool.{Bool, true, false, cond}
use native.Mathlib.Omega.{arith}
use borrow.Author.Tests.{eqb-true, eq-eqb, ne_eqb}
use lib.Dec.{eqb}
use lib.ListN.{length}
use Rattle.laws.specs.declared.Done.{Done}
use Rattle.laws.specs.Bytes.{Bytes}
use Rattle.laws.specs.Calls.{over, room_number, done_with, out_with, handed_out}
use Rattle.laws.proofs.Calls.{done, told_ok, told_zero, handed}

-- ---- a layer's own number, where it has one; else that of what is carried

abbrev pub own_then : ℕ → ℕ → ℕ
own_then own next = cond (eqb own 0) next own

pub own_first : (own next number : ℕ) → number ≡ own → (number ≡ 0 → ⊥) → own_then own next ≡ number
own_first own next number e h = rw (← e, ne_eqb _ _ h)

pub own_passed : (own next : ℕ) → own ≡ 0 → own_then own next ≡ next
own_passed own next h = rw (eq-eqb _ _ h)

pub own_right : (own next : ℕ) → own_then own next ≡ 0 → own ≡ 0
own_right own next e = go (eqb own 0) refl e
  where
    go : (t : Bool) → eqb own 0 ≡ t → cond t next own ≡ 0 → own ≡ 0
    go true p h = eqb-true own 0 p
    go false p h = h

-- ---- both round trips

module _ (judged : List ℕ → ℕ) (around : List ℕ → List ℕ) (own : List ℕ → ℕ) (carried : List ℕ → List ℕ) where
  abbrev pub write_done : List ℕ → ℕ → Done
  write_done c room = done_with (room_number (judged c) (around c) room) (around c)

  abbrev pub write_out : List ℕ → List ℕ → List ℕ
  write_out c out = out_with (room_number (judged c) (around c) (length out)) (around c) out

  abbrev pub inner : List ℕ → ℕ
  inner s = own_then (own s) (judged (carried s))

  abbrev pub read_done : List ℕ → ℕ → Done
  read_done s room = done_with (room_number (inner s) (carried s) room) (carried s)

  abbrev pub read_out : List ℕ → List ℕ → List ℕ
  read_out s out = out_with (room_number (inner s) (carried s) (length out)) (carried s) out

  abbrev pub wrapped : List ℕ → List ℕ → List ℕ
  wrapped c out = handed_out (write_done c (length out)) (write_out c out)

  abbrev pub unwrapped : List ℕ → List ℕ → List ℕ
  unwrapped s out = handed_out (read_done s (length out)) (read_out s out)

  -- what is written reads back, where the layer around bytes that are judged right is right and carries them
  pub read_back : ((c : List ℕ) → Bytes c → judged c ≡ 0 → (own (around c) ≡ 0) × (carried (around c) ≡ c))
      → (c out back : List ℕ) → Bytes c → (write_done c (length out)).number ≡ 0 → length c ≤ length back
      → (read_done (wrapped c out) (length back) ≡ done 0 (length c)) × (read_out (wrapped c out) back ≡ over c back)
  unfolding done_with
  read_back there c out back bytes e room =
      let right = (told_zero (judged c) (around c) (length out) e).0 in
      let t = there c bytes right in
      let zero = own_passed (own (around c)) (judged (carried (around c))) t.0 ∙ ap judged t.1 ∙ right in
      let told = told_ok (inner (around c)) (carried (around c)) back zero (omega (arith, ap length t.1)) in
      rw (handed (room_number (judged c) (around c) (length out)) (around c) out e)
      (sym told.0 ∙ ap (λ (b : List ℕ). done 0 (length b)) t.1, sym told.1 ∙ ap (λ (b : List ℕ). over b back) t.1)

  -- what is accepted rewrites to itself, where a right layer is the one around what it carries
  pub rewritten : ((s : List ℕ) → Bytes s → own s ≡ 0 → around (carried s) ≡ s)
      → (s out again : List ℕ) → Bytes s → (read_done s (length out)).number ≡ 0 → length s ≤ length again
      → (write_done (unwrapped s out) (length again) ≡ done 0 (length s)) × (write_out (unwrapped s out) again ≡ over s again)
  unfolding done_with
  rewritten back s out again bytes e room =
      let zero = (told_zero (inner s) (carried s) (length out) e).0 in
      let right = own_right (own s) (judged (carried s)) zero in
      let same = back s bytes right in
      let told = told_ok (judged (carried s)) (around (carried s)) again (sym (own_passed (own s) (judged (carried s)) right) ∙ zero) (omega (arith, ap length same)) in
      rw (handed (room_number (inner s) (carried s) (length out)) (carried s) out e)
      (sym told.0 ∙ ap (λ (b : List ℕ). done 0 (length b)) same, sym told.1 ∙ ap (λ (b : List ℕ). over b again) same)
