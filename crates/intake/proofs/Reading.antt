-- The buffer after a record's tag and length, and after its payload.
use Prim.Native.Nat.{ℕ, ◌+◌, ◌≤◌, ◌<◌}
use mathlib.Core.Path.{◌≡◌, sym, ap, subst, ◌∙◌}
use mathlib.Core.List.{List, ◌++◌}
use native.Mathlib.Omega.{arith}
use lib.ListN.{length, get_or, take, drop}
use lib.Seq.{length-take-le, take-append-le, take-take, drop-append-add, drop_at, drop-drop, get_or-take}
use Rattle.records.specs.Records.{byte_at, pair_at}
use Rattle.intake.specs.Intake.{record_size, Took}

-- three bytes were lent: what lies behind them is as it was
head_beyond : (old head : List ℕ) (k : ℕ) → length head ≡ 3 → drop (3 + k) (head ++ drop 3 old) ≡ drop (3 + k) old
head_beyond old head k e = subst (λ (n : ℕ). drop (n + k) (head ++ drop 3 old) ≡ drop (3 + k) old) e (drop-append-add head (drop 3 old) k ∙ drop-drop k 3 old)

pub head_took : (old head : List ℕ) (n : ℕ) → length head ≡ 3 → n ≤ 3 → 3 ≤ length old → Took old (head ++ drop 3 old) n
head_took old head n e h l = record { held = omega arith; within = omega arith; beyond = head_beyond old head (pair_at (head ++ drop 3 old) 1) e }

-- and then as many as the length says
module _ (old head payload : List ℕ) (size n : ℕ) (e : length head ≡ 3) (p : length payload ≡ size) (h : n ≤ length payload) where
  abbrev pub first : List ℕ
  first = head ++ drop 3 old

  abbrev pub whole : List ℕ
  whole = take 3 first ++ (payload ++ drop size (drop 3 first))

  pub payload_took : size ≡ pair_at first 1 → 3 + size ≤ length first → length first ≡ length old → Took old whole (3 + n)
  unfolding pair_at byte_at
  payload_took s f g =
      let t : length (take 3 first) ≡ 3 = length-take-le 3 first (omega arith) in
      let same : take 3 whole ≡ take 3 first = take-append-le 3 (take 3 first) (payload ++ drop size (drop 3 first)) (omega arith) ∙ take-take 3 3 first (omega arith) in
      let at : (i : ℕ) → i < 3 → get_or whole i 0 ≡ get_or first i 0 = λ i l. sym (get_or-take 3 whole i 0 l) ∙ ap (λ (x : List ℕ). get_or x i 0) same ∙ get_or-take 3 first i 0 l in
      let r : record_size whole ≡ 3 + size = omega (arith, at 1 (omega arith), at 2 (omega arith)) in
      let d : drop (3 + size) whole ≡ drop (3 + size) first =
      subst (λ (m : ℕ). drop (m + size) whole ≡ drop (3 + size) first) t (drop-append-add (take 3 first) (payload ++ drop size (drop 3 first)) size ∙ drop_at payload (drop size (drop 3 first)) size p ∙ drop-drop size 3 first) in
      record {
        held = omega arith;
        within = omega (arith, r);
        beyond = subst (λ (m : ℕ). drop m whole ≡ drop m old) (sym r) (d ∙ head_beyond old head size e);
      }
