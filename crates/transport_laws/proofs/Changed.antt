-- One byte of a transport packet changed to any other value is refused: 41 in the start code, 42 in the length, 43 after that.
use Prim.Native.Nat.{ℕ, zero, suc, ◌+◌, ◌*◌, ◌<◌, ◌≤◌}
use mathlib.Core.Path.{◌≡◌, refl, sym, ap, ◌∙◌}
use mathlib.Core.Bool.{Bool, true, false, cond}
use mathlib.Core.List.{List}
use native.Mathlib.Omega.{arith}
use native.Mathlib.Decide.{dec_lt}
use borrow.Author.Tests.{eq-eqb, ne_eqb, le-leb, lt-ltb, le-ltb}
use lib.Dec.{leb, ltb, eqb}
use lib.ListN.{length, get_or, set, length-set}
use lib.Seq.{get_or-set_same, get_or-set_other}
use Rattle.laws.specs.Bytes.{Bytes}
use Rattle.laws.proofs.Tests.{chosen}
use Rattle.records.specs.Records.{byte_at, pair_at}
use Rattle.transport.specs.Register.{register_of}
use Rattle.transport.specs.Reading.{start_right, length_right, frame_number}
use Rattle.transport.proofs.Passed.{Passed, passed}
use Rattle.transport_laws.specs.Changed.{number_at}
use Rattle.transport_laws.proofs.Seal.{one_overwritten}
use Rattle.transport_laws.proofs.Back.{Starts, starts}

-- two lists with the start code agree in it
start_same : (s t : List ℕ) → Starts s → Starts t → (k : ℕ) → k < 4 → get_or s k 0 ≡ get_or t k 0
start_same s t a b zero h = a.first ∙ sym b.first
start_same s t a b (suc zero) h = a.second ∙ sym b.second
start_same s t a b (suc (suc zero)) h = a.third ∙ sym b.third
start_same s t a b (suc (suc (suc zero))) h = a.fourth ∙ sym b.fourth
start_same s t a b (suc (suc (suc (suc k)))) h = absurd (let z : ⊥ = omega arith in z)

module _ (s : List ℕ) (right : frame_number s ≡ 0) (bytes : Bytes s) (k x : ℕ) (there : k < length s) (byte : x < 256) (other : x ≡ get_or s k 0 → ⊥) where
  abbrev t : List ℕ
  t = set s k x

  p : Passed s
  p = passed s right

  ten : leb 10 (length t) ≡ true
  ten = le-leb 10 (length t) (rw length-set p.ten)

  kept : (j : ℕ) → (j ≡ k → ⊥) → get_or t j 0 ≡ get_or s j 0
  kept j d = get_or-set_other s k j x 0 d

  put : get_or t k 0 ≡ x
  put = get_or-set_same s k x 0 there

  in_start : k < 4 → start_right t ≡ false
  in_start h = go (start_right t) refl
    where
      go : (u : Bool) → start_right t ≡ u → start_right t ≡ false
      go true e = absurd (other (sym put ∙ start_same t s (starts t e) (starts s p.start) k h))
      go false e = e

  start_kept : 4 ≤ k → start_right t ≡ true
  unfolding start_right
  start_kept h = rw (kept 0 (λ z. omega arith), kept 1 (λ z. omega arith), kept 2 (λ z. omega arith), kept 3 (λ z. omega arith)) p.start

  -- the length, of two bytes, before and after
  abbrev Counted : List ℕ → Type 0
  Counted l = length l ≡ 256 * get_or l 4 0 + get_or l 5 0 + 6

  counted : Counted s
  unfolding pair_at byte_at
  counted = p.size

  at_4 : k ≡ 4 → Counted t → x ≡ get_or s k 0
  at_4 e q =
      let a : get_or t 4 0 ≡ x = ap (λ (j : ℕ). get_or t j 0) (sym e) ∙ put in
      let b : get_or s 4 0 ≡ get_or s k 0 = ap (λ (j : ℕ). get_or s j 0) (sym e) in
      omega (arith, a, b, kept 5 (λ z. omega (arith, z, e)), length-set s k x, counted, q)

  at_5 : k ≡ 5 → Counted t → x ≡ get_or s k 0
  at_5 e q =
      let a : get_or t 5 0 ≡ x = ap (λ (j : ℕ). get_or t j 0) (sym e) ∙ put in
      let b : get_or s 5 0 ≡ get_or s k 0 = ap (λ (j : ℕ). get_or s j 0) (sym e) in
      omega (arith, a, b, kept 4 (λ z. omega (arith, z, e)), length-set s k x, counted, q)

  in_length : 4 ≤ k → k < 6 → length_right t ≡ false
  unfolding length_right pair_at byte_at
  in_length h l =
      ne_eqb (length t) (256 * get_or t 4 0 + get_or t 5 0 + 6)
      (λ q. other (elim (dec_lt k 5) [ yes m ↦ at_4 (omega arith) q | no m ↦ at_5 (omega arith) q ]))

  length_kept : 6 ≤ k → length_right t ≡ true
  unfolding length_right pair_at byte_at
  length_kept h =
      let a = kept 4 (λ z. omega arith) in
      let b = kept 5 (λ z. omega arith) in
      eq-eqb (length t) (256 * get_or t 4 0 + get_or t 5 0 + 6) (omega (arith, a, b, length-set s k x, counted))

  in_covered : eqb (register_of t) 0 ≡ false
  in_covered = ne_eqb _ _ (λ e. other (one_overwritten s k x bytes there byte (e ∙ sym p.ends)))

  pub frame_changed : frame_number t ≡ number_at k
  unfolding frame_number number_at
  frame_changed =
      elim (dec_lt k 4) [
        | yes h ↦ rw (ten, in_start h, lt-ltb k 4 h)
        | no g ↦ elim (dec_lt k 6) [
          | yes h ↦ rw (ten, start_kept (omega arith), in_length (omega arith) h, le-ltb k 4 (omega arith), lt-ltb k 6 h)
          | no h ↦ rw (ten, start_kept (omega arith), length_kept (omega arith), in_covered, le-ltb k 4 (omega arith), le-ltb k 6 (omega arith))
        ]
      ]

-- and that is a refusal
pub number_some : (k : ℕ) → number_at k ≡ 0 → ⊥
unfolding number_at
number_some k e =
    chosen (λ (n : ℕ). n ≡ 0 → ⊥) (ltb k 4) 41 (cond (ltb k 6) 42 43) (λ _ z. omega arith)
    (λ _. chosen (λ (n : ℕ). n ≡ 0 → ⊥) (ltb k 6) 42 43 (λ _ z. omega arith) (λ _ z. omega arith)) e
