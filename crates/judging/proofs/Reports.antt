-- What each call on a report leaves, by the tests that led to it.
use Prim.Native.Nat.{ℕ, ◌+◌, ◌≤◌, ◌<◌}
use mathlib.Core.Path.{◌≡◌, refl, ap}
use mathlib.Core.Bool.{true, false}
use mathlib.Core.List.{List}
use native.Mathlib.Omega.{arith}
use borrow.Author.Tests.{lt-ltb, le-ltb, eq-eqb, ne_eqb, ltb-true, leb-true}
use lib.ListN.{length, length-append}
use lib.Seq.{sets}
use lib.Dec.{leb, ltb, eqb}
use Rattle.laws.proofs.Tests.{past}
use Rattle.records.specs.Records.{byte_at}
use Rattle.text.specs.Lines.{item, newline, refused, refused_text, Put}
use Rattle.text.proofs.Pieces.{place_plain, put_as, put_front}
use Rattle.text.proofs.Spelled.{refused_size}
use Rattle.judging.specs.declared.report.Report.{Report}
use Rattle.judging.specs.Lines.{clean}
use Rattle.judging.specs.Report.{field_size, field_number, is_past, judged, lines_of, gone_on, refused_at, field_of, field_out, closed_number, closed_text, closed_size, Within}
use Rattle.judging.proofs.Sizes.{faults_size}

-- ---- a field

-- what the call leaves of a report and of the buffer
abbrev pub Left : Report → List ℕ → List ℕ → Report → List ℕ → Type 0
Left r f out a left = ((a ≡ field_of r f) × (left ≡ field_out r f out)) × (Within r → Within a)

module _ (r : Report) (f out : List ℕ) where
  left_alone : is_past r f ≡ true → Left r f out r out
  unfolding field_of field_out
  left_alone e = (rw e (refl, refl), λ w. w)

  pub refused_before : (r.number ≡ 0 → ⊥) → Left r f out r out
  unfolding is_past
  refused_before h = left_alone (rw (ne_eqb r.number 0 h))

  module _ (z : r.number ≡ 0) where
    pub no_byte : length f ≡ 0 → Left r f out r out
    unfolding is_past
    no_byte e = left_alone (rw (eq-eqb r.number 0 z, eq-eqb (length f) 0 e))

    module _ (h : length f ≡ 0 → ⊥) where
      comes : is_past r f ≡ false
      unfolding is_past
      comes = rw (eq-eqb r.number 0 z, ne_eqb (length f) 0 h)

      pub refused_here : (field_number r.packets f ≡ 0 → ⊥) → Left r f out (refused_at r f) out
      unfolding field_of field_out
      refused_here n = (rw (comes, ne_eqb (field_number r.packets f) 0 n) (refl, refl), λ w. record { packets = w.packets; size = w.size })

      pub judged_here : field_number r.packets f ≡ 0 → r.packets < 500 → Left r f out (gone_on r f) (sets out r.size (lines_of r f))
      unfolding field_of field_out lines_of
      judged_here n l = (
        rw (comes, eq-eqb (field_number r.packets f) 0 n) (refl, refl),
        λ w.
            let s = faults_size (r.packets + 1) (judged r f).faults (omega arith) in
            let e = place_plain r.size (length (lines_of r f)) (omega (arith, w.size, w.packets, s)) in
            record { packets = omega arith; size = omega (arith, e, s, w.size) },
      )

-- a field that does not refuse the file is one of 500, and whole
pub whole_field : (k : ℕ) (f : List ℕ) → field_number k f ≡ 0 → (k < 500) × (field_size f ≤ length f)
unfolding field_number
whole_field k f e =
    let a = past (ltb k 500) 82 _ e (omega arith) in
    let b = past (eqb (byte_at f 0) 0x02) 81 _ a.1 (omega arith) in
    let c = past (leb (field_size f) (length f)) 80 0 b.1 (omega arith) in
    (ltb-true k 500 a.0, leb-true (field_size f) (length f) c.0)

-- ---- the end

abbrev pub Closed : Report → List ℕ → ℕ → List ℕ → Type 0
Closed r out n left = ((n ≡ closed_size r) × (left ≡ sets out 0 (closed_text r))) × (Within r → n ≤ 35500)

module _ (r : Report) (out : List ℕ) where
  -- some text is put over the front
  over_front : {left : List ℕ} {n : ℕ} (text : List ℕ) → text ≡ closed_text r → 0 < length text → length text ≤ 100 → Put out 0 text left n → Closed r out n left
  unfolding closed_size
  over_front text e s l p =
      let q = put_front (put_as e p) (omega (arith, l, ap length e)) in
      let k : 0 < length (closed_text r) = omega (arith, s, ap length e) in
      let z : (length (closed_text r) ≡ 0 → ⊥) = λ h. omega (arith, h, k) in
      ((rw (ne_eqb (length (closed_text r)) 0 z) q.0, q.1), λ _. omega (arith, q.0, l, ap length e))

  refused_text_lem : (number : ℕ) → (0 < length (refused_text number)) × (length (refused_text number) ≤ 100)
  unfolding refused_text
  refused_text_lem number = (omega (arith, length-append (item refused number) newline), omega (arith, refused_size number))

  pub closed_refused : (number : ℕ) → closed_number r ≡ number → (number ≡ 0 → ⊥) → {left : List ℕ} {n : ℕ} → Put out 0 (refused_text number) left n → Closed r out n left
  unfolding closed_text
  closed_refused number e h p =
      let s = refused_text_lem number in
      over_front (refused_text number) (rw (e, ne_eqb number 0 h)) s.0 s.1 p

  pub was_refused : (r.number ≡ 0 → ⊥) → closed_number r ≡ r.number
  unfolding closed_number
  was_refused h = rw (ne_eqb r.number 0 h)

  module _ (z : r.number ≡ 0) where
    pub was_empty : r.packets ≡ 0 → closed_number r ≡ 80
    unfolding closed_number
    was_empty e = rw (eq-eqb r.number 0 z, le-ltb 0 r.packets (omega (arith, e)))

    module _ (some : r.packets ≡ 0 → ⊥) where
      taken : closed_number r ≡ 0
      unfolding closed_number
      taken = rw (eq-eqb r.number 0 z, lt-ltb 0 r.packets (omega arith))

      pub closed_clean : r.size ≡ 0 → {left : List ℕ} {n : ℕ} → Put out 0 clean left n → Closed r out n left
      unfolding closed_text
      closed_clean e p = over_front clean (rw (taken, eq-eqb r.size 0 e)) (omega arith) (omega arith) p

      pub closed_lines : (r.size ≡ 0 → ⊥) → Closed r out r.size out
      unfolding closed_text closed_size
      closed_lines h = (rw (taken, ne_eqb r.size 0 h) (refl, refl), λ w. omega (arith, w.size, w.packets))
