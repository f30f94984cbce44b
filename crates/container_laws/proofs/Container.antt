-- The theorems about containers: both round trips (demand 2), what 29 means, and how long a container is.
use Prim.Native.Nat.{ℕ, ◌+◌, ◌≤◌}
use mathlib.Core.List.{List}
use mathlib.Core.Path.{◌≡◌, refl, ap, sym, subst, ◌∙◌}
use mathlib.Core.Bool.{Bool, true, false, cond}
use mathlib.Core.Logic.{◌↔◌}
use native.Mathlib.Omega.{arith}
use lib.ListN.{length, get_or, take}
use lib.Dec.{ltb, eqb}
use borrow.Author.Tests.{le-ltb}
use Rattle.laws.specs.Bytes.{Bytes}
use Rattle.laws.specs.Calls.{over, room_number, done_with}
use Rattle.laws.proofs.Calls.{done, told_zero, handed}
use Rattle.laws.proofs.Tests.{past}
use Rattle.container.specs.declared.Contents.{Contents}
use Rattle.container.specs.Reading.{Reading}
use Rattle.container.specs.Bytes.{encode}
use Rattle.container.specs.Sizes.{Sized}
use Rattle.container.specs.Reading.{reading}
use Rattle.container.specs.Writing.{readable, contents_number, write_number, write_done, write_out}
use Rattle.container.proofs.Readable.{readable_fits}
use Rattle.container.proofs.Bytes as bytes
use Rattle.container.proofs.Outcome.{write_0}
use Rattle.container_laws.specs.Typed.{Typed}
use Rattle.container_laws.specs.Given.{ReadAs}
use Rattle.container_laws.proofs.Back.{accepted_is, written_again}
use Rattle.container_laws.proofs.There.{read_as_written}
use Rattle.container_laws.proofs.Gives.{reading_readable}
use Rattle.container_laws.proofs.Sizes.{accepted_sized, encode_bytes}

-- contents that pass 29 are readable
pub passed : (c : Contents) → contents_number c ≡ 0 → readable c ≡ true
unfolding contents_number
passed c e = (past (readable c) 29 _ e (omega arith)).0

refused : (c : Contents) → (readable c ≡ true → ⊥) → readable c ≡ false
refused c f = go (readable c) refl
  where
    go : (t : Bool) → readable c ≡ t → readable c ≡ false
    go true e = absurd (f e)
    go false e = e

is_29 : (c : Contents) (room : ℕ) → readable c ≡ false → (write_done c room).number ≡ 29
unfolding write_done write_number done_with room_number contents_number
is_29 c room e = rw e

-- 29 comes only from contents that are not readable
not_29 : (c : Contents) (room : ℕ) → readable c ≡ true → (write_done c room).number ≡ 29 → ⊥
unfolding write_done write_number done_with room_number contents_number
not_29 c room f e = go (ltb room (length (encode c))) (rw f at e)
  where
    go : (t : Bool) → ◌≡◌ {A = ℕ} (cond t 12 0) 29 → ⊥
    go true h = omega (arith, h)
    go false h = omega (arith, h)

-- what an accepted reading of these contents is
abbrev pub says : Contents → Reading
says c = record { number = 0; contents = c }

-- ---- how long a container is (02, A7)

-- contents that pass 29 are as long as their parts, and no part is longer than its largest
pub sized : (c : Contents) → Typed c → readable c ≡ true → Sized c
sized c t e = bytes.sized c (record { id = t.id_long; prints = t.many }) (readable_fits c t.many e)

-- "The largest parts, 4 + 21 + 3 + 225 + 1 bytes, make 254"
pub at_most_254 : (c : Contents) → Typed c → readable c ≡ true → length (encode c) ≤ 4 + 21 + 3 + 225 + 1
at_most_254 c t e = bytes.at_most_254 c (sized c t e)

-- 12 comes only to a buffer shorter than the container,
pub not_12 : (c : Contents) (room : ℕ) → length (encode c) ≤ room → (write_done c room).number ≡ 12 → ⊥
unfolding write_done write_number done_with room_number contents_number
not_12 c room h = rw (le-ltb room (length (encode c)) h) (go (readable c))
  where
    go : (t : Bool) → ◌≡◌ {A = ℕ} (cond (eqb (cond t 0 29) 0) 0 (cond t 0 29)) 12 → ⊥
    go true e = omega (arith, e)
    go false e = omega (arith, e)

-- so never to one of 254 bytes
pub room_enough : (c : Contents) (room : ℕ) → Typed c → 254 ≤ room → (write_done c room).number ≡ 12 → ⊥
room_enough c room t h = go (readable c) refl
  where
    go : (r : Bool) → readable c ≡ r → (write_done c room).number ≡ 12 → ⊥
    go true e z = not_12 c room (omega (arith, at_most_254 c t e)) z
    go false e z = omega (arith, z, is_29 c room e)

-- an accepted container has 5 to 254 bytes
pub accepted_size : (s : List ℕ) → Bytes s → (reading s).number ≡ 0 → (5 ≤ length s) × (length s ≤ 254)
accepted_size s b e = accepted_sized s b e

-- and its counter is its second byte
pub accepted_counter : (s : List ℕ) → (reading s).number ≡ 0 → (reading s).contents.counter ≡ get_or s 1 0
accepted_counter s e = ap (λ (r : Reading). r.contents.counter) (accepted_is s e).says

-- ---- round trips

-- "An accepted container, written again from what was read, gives its own bytes"
pub rewritten : (s out : List ℕ) → Bytes s → (reading s).number ≡ 0 → length s ≤ length out
    → (done 0 (length s) ≡ write_done (reading s).contents (length out)) × (over s out ≡ write_out (reading s).contents out)
rewritten s out b e room =
    let same = written_again s b e in
    let w = write_0 (reading s).contents out (reading_readable s b e) (length s) (ap length (sym same)) room in
    (w.0, ap (λ (l : List ℕ). over l out) (sym same) ∙ w.1)

-- "each one written reads back as the same contents"
pub read_back : (c : Contents) (out : List ℕ) → Typed c → (write_done c (length out)).number ≡ 0
    → reading (take (write_done c (length out)).written (write_out c out)) ≡ says c
unfolding write_done write_out write_number done_with
read_back c out t e =
    let q = told_zero (contents_number c) (encode c) (length out) e in
    ap reading (handed (write_number c (length out)) (encode c) out e) ∙ read_as_written c t (passed c q.0)

-- and is bytes
pub written_bytes : (c : Contents) (out : List ℕ) → Typed c → (write_done c (length out)).number ≡ 0
    → Bytes (take (write_done c (length out)).written (write_out c out))
unfolding write_done write_out write_number done_with
written_bytes c out t e =
    let q = told_zero (contents_number c) (encode c) (length out) e in
    rw (handed (write_number c (length out)) (encode c) out e) (encode_bytes c t (passed c q.0))

-- ---- 29 is exactly "contents that no reading gives"

pub some_reading : (c : Contents) → Typed c → (readable c ≡ true) ↔ ReadAs c
some_reading c t = (
  λ e. record { container = encode c; bytes = encode_bytes c t e; reads = read_as_written c t e },
  λ r. subst (λ (x : Reading). readable x.contents ≡ true) r.reads
      (reading_readable r.container r.bytes (ap (λ (x : Reading). x.number) r.reads)),
)

pub exactly_29 : (c : Contents) (room : ℕ) → Typed c → ((write_done c room).number ≡ 29) ↔ (ReadAs c → ⊥)
exactly_29 c room t = (λ e r. not_29 c room ((some_reading c t).1 r) e, λ f. is_29 c room (refused c (λ e. f ((some_reading c t).0 e))))
