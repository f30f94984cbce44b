-- The theorems about judging (02, A13): what is printed of any file, when that is `clean`, and what no packet can have.
use Prim.Native.Nat.{ℕ, ◌+◌, ◌≤◌, ◌<◌}
use mathlib.Core.Path.{◌≡◌, refl, sym, ap, ap₂, ◌∙◌}
use mathlib.Core.Logic.{◌↔◌}
use mathlib.Core.Bool.{Bool, true, false, cond, ◌&&◌, not}
use mathlib.Core.List.{List, [], ◌∷◌, ◌++◌}
use native.Mathlib.Omega.{arith}
use lib.ListN.{length, get_or, take, drop, replicate, length-take}
use lib.Seq.{take-append_seam}
use lib.Dec.{eqb}
use borrow.Author.Tests.{ne_eqb, eqb-true}
use Rattle.laws.specs.Bytes.{Bytes}
use Rattle.laws.specs.Calls.{over}
use Rattle.laws.proofs.Tests.{chosen}
use Rattle.container.specs.Reading.{reading}
use Rattle.container_laws.proofs.Container.{accepted_size}
use Rattle.laws.specs.declared.Done.{Done}
use Rattle.packet.specs.Reading.{read_done, read_out}
use Rattle.packet.specs.Writing.{write_done, write_out}
use Rattle.packet_laws.proofs.Packet.{read_back, wraps, room_alike}
use Rattle.text.specs.Lines.{item, refused_text}
use Rattle.judging.specs.Packets.{packet_number, contents_in, carried}
use Rattle.judging.specs.Lines.{clean, fault_text, refusal_text, faults_text}
use Rattle.judging.specs.Lines as said
use Rattle.judging_laws.specs.Faults.{accepted_of, has_audio, rate_fault, fits_some, begun, cadence_fault, faults_of, is_clean, lines, report_of}
use Rattle.judging_laws.specs.Files.{fields_of, file_number, packets_of, judged_text, packet_of, Short, file_of, printed_of}
use Rattle.judging_laws.proofs.Kept.{alone_fits}
use Rattle.judging_laws.proofs.Files as files

-- What the calls of `judging` print of any file is what 02 says of it: each line, `clean`, or the refusal alone.
pub as_judged : (s out : List ℕ) → 35500 ≤ length out → printed_of (fields_of s) out ≡ judged_text s
as_judged s out h = files.as_judged s out h

-- a file of 1 to 500 packets is not refused
pub of_packets : (ps : List (List ℕ)) → Short ps → 1 ≤ length ps → length ps ≤ 500 → judged_text (file_of ps) ≡ report_of ps
of_packets ps w some few = files.of_packets ps w some few

-- ---- "It reports `clean` exactly when none of these holds."

-- the first letter of lines is p, where there is one
abbrev starts : List ℕ → Type 0
starts l = get_or l 0 112 ≡ 112

starts_joined : (xs ys : List ℕ) → starts xs → starts ys → starts (xs ++ ys)
starts_joined [] ys p q = q
starts_joined (x ∷ xs) ys p q = p

starts_fault : (holds : Bool) (k : ℕ) (name : List ℕ) → starts (fault_text holds k name)
unfolding fault_text item
starts_fault true k name = refl
starts_fault false k name = refl

starts_lines : (ps : List (List ℕ)) → starts (lines ps)
unfolding lines faults_text refusal_text item
starts_lines [] = refl
starts_lines (p ∷ before) =
    let f = faults_of before p in
    let k : ℕ = length before + 1 in
    starts_joined (lines before) (faults_text k f) (starts_lines before)
    (chosen starts (eqb f.refused 0) _ _
    (λ _.
    starts_joined (fault_text f.counter k said.counter ++ fault_text f.rate k said.rate ++ fault_text f.count k said.count) (fault_text f.cadence k said.cadence)
    (starts_joined (fault_text f.counter k said.counter ++ fault_text f.rate k said.rate) (fault_text f.count k said.count)
    (starts_joined (fault_text f.counter k said.counter) (fault_text f.rate k said.rate) (starts_fault f.counter k said.counter) (starts_fault f.rate k said.rate))
    (starts_fault f.count k said.count))
    (starts_fault f.cadence k said.cadence))
    (λ _. refl))

pub clean_exactly : (s : List ℕ) → (judged_text s ≡ clean) ↔ ((file_number s ≡ 0) × (is_clean (packets_of [] (fields_of s)) ≡ true))
unfolding judged_text report_of refused_text item
clean_exactly s = (there, λ w. rw (w.0, w.1) refl)
  where
    not_lines : (l : List ℕ) → starts l → l ≡ clean → ⊥
    not_lines l p e = let z : ◌≡◌ {A = ℕ} 99 112 = sym (ap (λ (m : List ℕ). get_or m 0 112) e) ∙ p in omega (arith, z)

    go : (t : Bool) → eqb (file_number s) 0 ≡ t → (u : Bool) → is_clean (packets_of [] (fields_of s)) ≡ u
        → cond t (cond u clean (lines (packets_of [] (fields_of s)))) (refused_text (file_number s)) ≡ clean → (file_number s ≡ 0) × (is_clean (packets_of [] (fields_of s)) ≡ true)
    go true a true b z = (eqb-true (file_number s) 0 a, b)
    go true a false b z = absurd (not_lines (lines (packets_of [] (fields_of s))) (starts_lines (packets_of [] (fields_of s))) z)
    go false a u b z = let w : ◌≡◌ {A = ℕ} 114 99 = ap (λ (l : List ℕ). get_or l 0 0) z in absurd (let x : ⊥ = omega (arith, w) in x)

    there : judged_text s ≡ clean → (file_number s ≡ 0) × (is_clean (packets_of [] (fields_of s)) ≡ true)
    there e = go (eqb (file_number s) 0) refl (is_clean (packets_of [] (fields_of s))) refl e

-- ---- one packet

-- the number is Read packet's, whatever the room, where it has 254 bytes; so 12 is never told for the room's sake
pub any_room : (p : List ℕ) (room : ℕ) → 254 ≤ room → packet_number p ≡ (read_done p room).number
unfolding packet_number
any_room p room h = ap (λ (d : Done). d.number) (room_alike p 255 (omega arith) ∙ sym (room_alike p room h))

-- "a refused packet" leaves all that is said of later ones as it was
pub refused_alike : (before : List (List ℕ)) (p q : List ℕ) → (packet_number p ≡ 0 → ⊥) → faults_of (p ∷ before) q ≡ faults_of before q
unfolding faults_of accepted_of
refused_alike before p q h = rw (ne_eqb (packet_number p) 0 h) refl

-- a packet whose rate differs fits, since its count stands in the cadence of its rate (02, A2): it has no fault of the cadence
pub rate_or_cadence : (before : List (List ℕ)) (p : List ℕ) → packet_number p ≡ 0 → rate_fault (accepted_of before) (contents_in p) ≡ true
    → cadence_fault (accepted_of before) (contents_in p) ≡ false
unfolding cadence_fault begun
rate_or_cadence before p e r = rw r (go (has_audio (contents_in p)) refl)
  where
    go : (t : Bool) → has_audio (contents_in p) ≡ t → (t && not (fits_some (contents_in p).rate (carried (contents_in p) ∷ []))) ≡ false
    go true h = rw (alone_fits p e h) refl
    go false _ = refl

-- ---- the packet of an accepted container is accepted, and says what the container says

module _ (c : List ℕ) (b : Bytes c) (e : (reading c).number ≡ 0) where
  room : List ℕ
  room = replicate 522 0

  wrapped_is : (write_done c (length room)).number ≡ 0
  unfolding room
  wrapped_is = ap (λ (d : Done). d.number) (wraps c room b e (omega arith))

  back : (read_done (packet_of c) 255 ≡ record { number = 0; written = length c }) × (read_out (packet_of c) (replicate 255 0) ≡ over c (replicate 255 0))
  unfolding packet_of room
  back = read_back c room (replicate 255 0) b wrapped_is (omega (arith, (accepted_size c b e).1))

  pub own_accepted : packet_number (packet_of c) ≡ 0
  unfolding packet_number
  own_accepted = ap (λ (d : Done). d.number) back.0

  pub own_contents : contents_in (packet_of c) ≡ (reading c).contents
  unfolding contents_in over
  own_contents =
      ap₂ (λ (d : Done) (l : List ℕ). (reading (take d.written l)).contents) back.0 back.1
      ∙ ap (λ (l : List ℕ). (reading l).contents) (take-append_seam c (drop (length c) (replicate 255 0)))

  -- and is short enough for a field
  pub own_short : length (packet_of c) < 65536
  unfolding packet_of room
  own_short = omega (arith, length-take (write_done c 522).written (write_out c (replicate 522 0)), ap (λ (d : Done). d.written) (wraps c room b e (omega arith)), (accepted_size c b e).1)
