-- Demand 2: "fingerprints equal ST 2064-1 as document 01 reads it". First half: what any calls answer. Second half: what was written reads back.
use mathlib.Core.Path.{◌≡◌, refl, ap, ◌∙◌}
use mathlib.Core.List.{List, ◌∷◌}
use mathlib.Core.Bool.{true, cond}
use mathlib.Core.Logic.{◌↔◌}
use Prim.Native.Nat.{ℕ, ◌≤◌}
use lib.ListN.{length, take}
use Rattle.laws.specs.Bytes.{Bytes}
use Rattle.laws.specs.Calls.{over}
use Rattle.container.specs.declared.Contents.{Contents}
use Rattle.container.specs.Reading.{reading}
use Rattle.container.specs.Writing.{write_done, write_out}
use Rattle.container_laws.specs.Typed.{Typed}
use Rattle.container_laws.specs.Given.{ReadAs}
use Rattle.container_laws.proofs.Container as container
use Rattle.packet.specs.Reading as read
use Rattle.packet.specs.Writing as write
use Rattle.packet_laws.specs.Handed.{wrapped, unwrapped}
use Rattle.packet_laws.proofs.Packet as packet
use Rattle.transport.specs.Reading as unstream
use Rattle.transport.specs.Writing as stream
use Rattle.transport_laws.specs.Handed.{streamed, unstreamed}
use Rattle.transport_laws.proofs.Transport as transport
use Rattle.session.specs.declared.Settings.{Settings}
use Rattle.session.specs.declared.Session.{Session}
use Rattle.session.specs.Session.{setup_of}
use Rattle.demands.specs.Calls.{Setup, Call, Answer, Event, calls, begun, answer_of, Run, none, then}
use Rattle.demands.specs.Paper.{accepted, paper, transcript}
use Rattle.demands.specs.Demands.{card, Every, Demand2, ReadsBack}
use Rattle.demands.proofs.Bits.{reads_back_right}
use Rattle.demands.proofs.Runs as runs

-- After any calls from any setup, accepted or refused, all that the callers were told is document 01's transcript of the calls: every number, every told
-- fingerprint, every written length and every byte of every buffer, of the hundredth container as of the first.
pub as_paper : (u : Setup) {es : List Event} {t : Session} → Run (begun u) es t → es ≡ transcript paper u (calls es)
unfolding transcript calls
as_paper u none = refl
as_paper u (then {es} {t} c r) =
    ap (λ (a : Answer). record { call = c; answer = a } ∷ es) (runs.next_answer u r c)
    ∙ ap (λ (xs : List Event). record { call = c; answer = paper u xs c } ∷ xs) (as_paper u r)

-- and so is what the next call is told
pub next_answer : (u : Setup) {es : List Event} {t : Session} → Run (begun u) es t → (c : Call) → answer_of t c ≡ paper u es c
next_answer u r c = runs.next_answer u r c

-- "Setup takes rule 1 or 2, and a session keeps it" (02, A9)
pub keeps_rule : (u : Setup) → accepted u ≡ true → {es : List Event} {t : Session} → Run (begun u) es t → t.programme.settings.rule ≡ u.rule
keeps_rule u a r = ap (λ (s : Settings). s.rule) (runs.always u a r).settings

-- Setup itself: 0 exactly where format, rate pairing, rule, fingerprint count and mix types are listed, else 1
pub setup_answer : (u : Setup) → (setup_of u.format u.rate u.rule u.mixes).number ≡ cond (accepted u) 0 1
setup_answer u = runs.setup_answer u

-- the same of the card as a program, to hold it against the wrong ones
pub demand_2 : Demand2 card
demand_2 u cs = as_paper u (runs.card_runs u cs) ∙ ap (transcript paper u) (runs.calls_of card u cs)

-- ---- Round trips

-- Each container packed in any run reads back, as the contents that packing made: so each can be written (never 29) and is accepted by Read.
pub every_container : (u : Setup) → accepted u ≡ true → {es : List Event} {t : Session} → Run (begun u) es t → Every (ReadsBack u) es
every_container u a r = runs.every u a (ReadsBack u) (λ es t o. reads_back_right u a o) r

-- "An accepted container, written again from what was read, gives its own bytes"
pub rewritten : (s out : List ℕ) → Bytes s → (reading s).number ≡ 0 → length s ≤ length out
    → (record { number = 0; written = length s } ≡ write_done (reading s).contents (length out)) × (over s out ≡ write_out (reading s).contents out)
rewritten s out b e l = container.rewritten s out b e l

-- "each one written reads back as the same contents", whatever contents they are
pub read_back : (c : Contents) (out : List ℕ) → Typed c → (write_done c (length out)).number ≡ 0
    → reading (take (write_done c (length out)).written (write_out c out)) ≡ record { number = 0; contents = c }
read_back c out t e = container.read_back c out t e

-- 29 is exactly "contents that no reading gives"
pub exactly_29 : (c : Contents) (room : ℕ) → Typed c → ((write_done c room).number ≡ 29) ↔ (ReadAs c → ⊥)
exactly_29 c room t = container.exactly_29 c room t

-- the same of packets: a packet's contents are its container's bytes
pub packet_rewritten : (s out again : List ℕ) → Bytes s → (read.read_done s (length out)).number ≡ 0 → length s ≤ length again
    → (write.write_done (unwrapped s out) (length again) ≡ record { number = 0; written = length s })
    × (write.write_out (unwrapped s out) again ≡ over s again)
packet_rewritten s out again b e l = packet.rewritten s out again b e l

pub packet_read_back : (c out back : List ℕ) → Bytes c → (write.write_done c (length out)).number ≡ 0 → length c ≤ length back
    → (read.read_done (wrapped c out) (length back) ≡ record { number = 0; written = length c })
    × (read.read_out (wrapped c out) back ≡ over c back)
packet_read_back c out back b e l = packet.read_back c out back b e l

-- and of transport packets: "An accepted packet rewrites to itself, and a written one reads back" (02, A5)
pub transport_rewritten : (s out again : List ℕ) → Bytes s → (unstream.read_done s (length out)).number ≡ 0 → length s ≤ length again
    → (stream.write_done (unstreamed s out) (length again) ≡ record { number = 0; written = length s })
    × (stream.write_out (unstreamed s out) again ≡ over s again)
transport_rewritten s out again b e l = transport.rewritten s out again b e l

pub transport_read_back : (c out back : List ℕ) → Bytes c → (stream.write_done c (length out)).number ≡ 0 → length c ≤ length back
    → (unstream.read_done (streamed c out) (length back) ≡ record { number = 0; written = length c })
    × (unstream.read_out (streamed c out) back ≡ over c back)
transport_read_back c out back b e l = transport.read_back c out back b e l
