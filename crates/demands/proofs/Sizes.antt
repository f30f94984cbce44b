-- How long a session's container is: "no session" reaches 256 bytes (02, A7). What `container_laws` has of any contents that pass 29, of any run of calls.
use Prim.Native.Nat.{ℕ, ◌+◌, ◌≤◌}
use mathlib.Core.Path.{◌≡◌, refl, sym, subst}
use mathlib.Core.Bool.{Bool, true, false, ◌||◌}
use mathlib.Core.List.{List}
use native.Mathlib.Omega.{arith}
use native.Mathlib.Nat.{not-suc-le-zero}
use lib.Dec.{eqb}
use lib.ListN.{length}
use Rattle.laws.specs.Calls.{done_with}
use Rattle.laws.proofs.Tests.{chosen}
use Rattle.picture.specs.Pictures.{is_ready}
use Rattle.container.specs.Sizes.{Sized}
use Rattle.container.specs.Writing.{write_number, write_done}
use Rattle.container.proofs.Bytes as bytes
use Rattle.container_laws.proofs.Container.{not_12}
use Rattle.session.specs.declared.Session.{Session}
use Rattle.session.specs.Packing.{Packed}
use Rattle.session.specs.Session.{is_set, set_up_with, empty_session}
use Rattle.session.specs.Fingerprints.{all_hold, prints_of, with_blanks}
use Rattle.session.specs.Packing.{has_audio, spoken_of, contents_of, pack_number, pack_of, ready_number}
use Rattle.demands.specs.Calls.{Setup, pack, Event, begun, answer_of, Run}
use Rattle.demands.specs.Paper.{accepted}
use Rattle.demands.proofs.Listed.{listed}
use Rattle.demands.proofs.Packable.{id_long, said_sized}
use Rattle.demands.proofs.Invariant.{packs_said}
use Rattle.demands.proofs.Runs.{always, still_empty}

-- no part at all but an ID
empty_sized : (id : List ℕ) → Sized (contents_of empty_session id)
unfolding contents_of empty_session set_up_with spoken_of has_audio all_hold prints_of with_blanks
empty_sized id =
    bytes.sized (contents_of empty_session id) (record { id = id_long id; prints = refl })
    (record { rate = omega arith; run = record { many = omega arith; each = λ k h. absurd (not-suc-le-zero h) } })

-- After any calls from any setup, accepted or refused: the container that the session would pack, with any ID, is as long as its parts, and no part is
-- longer than its largest.
pub sized : (u : Setup) {es : List Event} {t : Session} → Run (begun u) es t → (id : List ℕ) → Sized (contents_of t id)
sized u {es} {t} r id = go (accepted u) refl
  where
    go : (b : Bool) → accepted u ≡ b → Sized (contents_of t id)
    go true a = subst Sized (sym (packs_said u (listed u a) es t (always u a r) id)) (said_sized u (listed u a) es id)
    go false a = subst (λ (s : Session). Sized (contents_of s id)) (sym (still_empty u a r)) (empty_sized id)

packed_size : (s : Session) (id : List ℕ) (room : ℕ) → Sized (contents_of s id) → (pack_of s id room).written ≤ 254
unfolding pack_of write_done done_with
packed_size s id room z =
    let c = contents_of s id in
    chosen P (eqb (pack_number s (length id)) 0) _ _
    (λ _. chosen P (eqb (write_number c room) 0) _ _ (λ y. rw y (bytes.at_most_254 c z)) (λ _. omega arith))
    (λ _. omega arith)
  where
    P : Packed → Type 0
    P x = x.written ≤ 254

-- So Pack writes 254 bytes at most.
pub at_most_254 : (u : Setup) {es : List Event} {t : Session} → Run (begun u) es t → (id out : List ℕ) → (answer_of t (pack id out)).written ≤ 4 + 21 + 3 + 225 + 1
unfolding answer_of
at_most_254 u {es} {t} r id out = packed_size t id (length out) (sized u r id)

number_12 : (s : Session) (id : List ℕ) (room : ℕ) → Sized (contents_of s id) → 254 ≤ room → (pack_of s id room).number ≡ 12 → ⊥
unfolding pack_of pack_number ready_number
number_12 s id room z h =
    let c = contents_of s id in
    chosen P (eqb (pack_number s (length id)) 0) _ _
    (λ _. chosen P (eqb (write_done c room).number 0) _ _ (λ _ e. omega (arith, e)) (λ _. not_12 c room (omega (arith, bytes.at_most_254 c z))))
    (λ _. chosen Q (is_set s.programme.settings) _ _
    (λ _. chosen Q (is_ready s.programme.picture) _ _
    (λ _. chosen Q (eqb (length id) 0 || eqb (length id) 20) _ _ (λ _ e. omega (arith, e)) (λ _ e. omega (arith, e)))
    (λ _ e. omega (arith, e)))
    (λ _ e. omega (arith, e)))
  where
    P : Packed → Type 0
    P x = x.number ≡ 12 → ⊥

    Q : ℕ → Type 0
    Q n = n ≡ 12 → ⊥

-- And 254 bytes of room are enough: 12 comes only to a shorter buffer.
pub room_enough : (u : Setup) {es : List Event} {t : Session} → Run (begun u) es t → (id out : List ℕ) → 254 ≤ length out → (answer_of t (pack id out)).number ≡ 12 → ⊥
unfolding answer_of
room_enough u {es} {t} r id out = number_12 t id (length out) (sized u r id)
