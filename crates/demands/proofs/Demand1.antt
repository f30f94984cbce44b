-- Demand 1: "every call takes what it is given, checks it itself, and ends; a refusal has the number in document 01, in just the cases named there, and
-- changes nothing". That a call takes what it is given and ends is the language's: no public function has a `requires` (tools/promises), and each is proved total.
use Prim.Native.Nat.{ℕ}
use mathlib.Core.Path.{◌≡◌, ap, ◌∙◌}
use mathlib.Core.Bool.{true, false}
use mathlib.Core.List.{List}
use lib.ListN.{length, drop}
use Rattle.laws.specs.Calls.{room_number, done_with}
use Rattle.sampling.specs.Formats.{row_of}
use Rattle.sampling.specs.Samples.{pixels, sample_number, sample_done, sample_out}
use Rattle.container.specs.declared.Contents.{Contents}
use Rattle.container.specs.Contents.{empty_contents}
use Rattle.container.specs.Bytes.{encode}
use Rattle.container.specs.Reading.{reading}
use Rattle.container.specs.Writing.{write_number, write_done, write_out}
use Rattle.packet.specs.Writing as packet
use Rattle.packet.specs.Reading as packets
use Rattle.transport.specs.Writing as transport
use Rattle.transport.specs.Reading as transports
use Rattle.mending.specs.Mending.{mended, mend_number, mend_done, mend_out}
use Rattle.host.specs.Host as host
use Rattle.session.specs.declared.Session.{Session}
use Rattle.session.specs.Session.{empty_session, setup_of}
use Rattle.demands.specs.Calls.{Setup, Call, Answer, Event, begun, answer_of, Run}
use Rattle.demands.specs.Paper.{said_empty, accepted, paper}
use Rattle.demands.specs.Demands.{Every, lent, Untouched, InRow}
use Rattle.demands.proofs.Listed.{listed}
use Rattle.demands.proofs.Invariant.{right}
use Rattle.demands.proofs.Runs.{every, empty_answers, still_empty, next_answer}
use Rattle.demands.proofs.Refusals as refusals

-- ---- "changes nothing"

-- A refused call on a session, whatever its value: the session is the same, the written length 0, the lent buffer the same.
pub refused_call : (s : Session) (c : Call) → ((answer_of s c).number ≡ 0 → ⊥) → Untouched s c
refused_call s c h = refusals.untouched s c h

-- A refused setup answers 1, and its session is the empty one ("a refused setup gives an empty one").
pub refused_setup : (u : Setup) → ((setup_of u.format u.rate u.rule u.mixes).number ≡ 0 → ⊥)
    → ((setup_of u.format u.rate u.rule u.mixes).number ≡ 1) × (begun u ≡ empty_session)
refused_setup u h = refusals.setup_refused u h

-- That session stays empty, whatever the calls: "Line, Sound and Pack return 1 first and restarts change nothing".
pub stays_empty : (u : Setup) → accepted u ≡ false → {es : List Event} {t : Session} → Run (begun u) es t
    → (t ≡ empty_session) × ((c : Call) → answer_of t c ≡ said_empty c)
stays_empty u a {es} {t} r =
    let e = still_empty u a r in
    (e, λ c. ap (λ (s : Session). answer_of s c) e ∙ empty_answers c)

-- A refused reading is all zero with no video.
pub refused_reading : (s : List ℕ) → ((reading s).number ≡ 0 → ⊥) → (reading s).contents ≡ empty_contents
refused_reading s h = refusals.reading_refused s h

-- A refused Write, and a refused sampling of a line by itself: nothing counted as written, and the lent buffer the same.
pub refused_write : (c : Contents) (out : List ℕ) → ((write_done c (length out)).number ≡ 0 → ⊥) → ((write_done c (length out)).written ≡ 0) × (write_out c out ≡ out)
unfolding write_done write_out done_with
refused_write c out h = refusals.nothing_written (write_number c (length out)) (encode c) out h

pub refused_sampling : (f : ℕ) (line out : List ℕ) → ((sample_done f line out).number ≡ 0 → ⊥) → ((sample_done f line out).written ≡ 0) × (sample_out f line out ≡ out)
unfolding sample_done sample_out done_with
refused_sampling f line out h =
    refusals.nothing_written (room_number (sample_number f line) (pixels (row_of f) line) (length out)) (pixels (row_of f) line) out h

-- The same of both packet calls.
pub refused_packet_write : (c out : List ℕ) → ((packet.write_done c (length out)).number ≡ 0 → ⊥)
    → ((packet.write_done c (length out)).written ≡ 0) × (packet.write_out c out ≡ out)
unfolding packet.write_done packet.write_out done_with
refused_packet_write c out h = refusals.nothing_written (packet.write_number c (length out)) (packet.packet_bytes c) out h

pub refused_packet_read : (s out : List ℕ) → ((packets.read_done s (length out)).number ≡ 0 → ⊥)
    → ((packets.read_done s (length out)).written ≡ 0) × (packets.read_out s out ≡ out)
unfolding packets.read_done packets.read_out done_with
refused_packet_read s out h = refusals.nothing_written (packets.read_number s (length out)) (packets.user_bytes s) out h

-- And of both calls of transport packets (02, A5).
pub refused_transport_write : (c out : List ℕ) → ((transport.write_done c (length out)).number ≡ 0 → ⊥)
    → ((transport.write_done c (length out)).written ≡ 0) × (transport.write_out c out ≡ out)
unfolding transport.write_done transport.write_out done_with
refused_transport_write c out h = refusals.nothing_written (transport.write_number c (length out)) (transport.transport_bytes c) out h

pub refused_transport_read : (s out : List ℕ) → ((transports.read_done s (length out)).number ≡ 0 → ⊥)
    → ((transports.read_done s (length out)).written ≡ 0) × (transports.read_out s out ≡ out)
unfolding transports.read_done transports.read_out done_with
refused_transport_read s out h = refusals.nothing_written (transports.read_number s (length out)) (transports.container_bytes s) out h

-- And of Mend (02, A8).
pub refused_mend : (s out : List ℕ) → ((mend_done s (length out)).number ≡ 0 → ⊥) → ((mend_done s (length out)).written ≡ 0) × (mend_out s out ≡ out)
unfolding mend_done mend_out done_with
refused_mend s out h = refusals.nothing_written (mend_number s (length out)) (mended s) out h

-- And of Read container as the host calls it, its contents flat.
pub refused_flat_reading : (s out : List ℕ) → ((host.read_done s (length out)).number ≡ 0 → ⊥)
    → ((host.read_done s (length out)).written ≡ 0) × (host.read_out s out ≡ out)
unfolding host.read_done host.read_out done_with
refused_flat_reading s out h = refusals.nothing_written (host.read_number s (length out)) (host.flat_of s) out h

-- Accepted or refused, no byte of a lent buffer changes behind those counted as written: of a call on a session,
pub no_others : (s : Session) (c : Call) → drop (answer_of s c).written (answer_of s c).out ≡ drop (answer_of s c).written (lent c)
no_others s c = refusals.no_others_after s c

-- and of Write, line sampling, both packet calls, both of transport packets, Mend and the host's reading
pub write_no_others : (c : Contents) (out : List ℕ) → drop (write_done c (length out)).written (write_out c out) ≡ drop (write_done c (length out)).written out
unfolding write_done write_out
write_no_others c out = refusals.no_others (write_number c (length out)) (encode c) out

pub sampling_no_others : (f : ℕ) (line out : List ℕ) → drop (sample_done f line out).written (sample_out f line out) ≡ drop (sample_done f line out).written out
unfolding sample_done sample_out
sampling_no_others f line out =
    refusals.no_others (room_number (sample_number f line) (pixels (row_of f) line) (length out)) (pixels (row_of f) line) out

pub packet_write_no_others : (c out : List ℕ)
    → drop (packet.write_done c (length out)).written (packet.write_out c out) ≡ drop (packet.write_done c (length out)).written out
unfolding packet.write_done packet.write_out
packet_write_no_others c out = refusals.no_others (packet.write_number c (length out)) (packet.packet_bytes c) out

pub packet_read_no_others : (s out : List ℕ)
    → drop (packets.read_done s (length out)).written (packets.read_out s out) ≡ drop (packets.read_done s (length out)).written out
unfolding packets.read_done packets.read_out
packet_read_no_others s out = refusals.no_others (packets.read_number s (length out)) (packets.user_bytes s) out

pub transport_write_no_others : (c out : List ℕ)
    → drop (transport.write_done c (length out)).written (transport.write_out c out) ≡ drop (transport.write_done c (length out)).written out
unfolding transport.write_done transport.write_out
transport_write_no_others c out = refusals.no_others (transport.write_number c (length out)) (transport.transport_bytes c) out

pub transport_read_no_others : (s out : List ℕ)
    → drop (transports.read_done s (length out)).written (transports.read_out s out) ≡ drop (transports.read_done s (length out)).written out
unfolding transports.read_done transports.read_out
transport_read_no_others s out = refusals.no_others (transports.read_number s (length out)) (transports.container_bytes s) out

pub mend_no_others : (s out : List ℕ) → drop (mend_done s (length out)).written (mend_out s out) ≡ drop (mend_done s (length out)).written out
unfolding mend_done mend_out
mend_no_others s out = refusals.no_others (mend_number s (length out)) (mended s) out

pub flat_reading_no_others : (s out : List ℕ)
    → drop (host.read_done s (length out)).written (host.read_out s out) ≡ drop (host.read_done s (length out)).written out
unfolding host.read_done host.read_out
flat_reading_no_others s out = refusals.no_others (host.read_number s (length out)) (host.flat_of s) out

-- ---- "the number in document 01, in just the cases named there"

-- After any calls from any setup the number of the next call is document 01's: 0 exactly where it accepts, and of two that would fit the one further left
-- in its table, since `paper` tests in that order.
pub refused_as_paper : (u : Setup) {es : List Event} {t : Session} → Run (begun u) es t → (c : Call) → (answer_of t c).number ≡ (paper u es c).number
refused_as_paper u r c = ap (λ (a : Answer). a.number) (next_answer u r c)

module _ (u : Setup) (a : accepted u ≡ true) where
  -- each number stands in the row of its call
  pub numbers : {es : List Event} {t : Session} → Run (begun u) es t → Every InRow es
  numbers r = every u a InRow (λ es t o c. rw (right u (listed u a) es t o c).answer (refusals.in_row u (listed u a) es c)) r

  -- after an accepted setup a session is never taken for an empty one: no call answers 1
  pub never_1 : {es : List Event} {t : Session} → Run (begun u) es t → Every (λ es c x. x.number ≡ 1 → ⊥) es
  never_1 r =
      every u a _ (λ es t o c z.
      let e = (right u (listed u a) es t o c).answer in
      refusals.not_1 c (answer_of t c).number (rw e (refusals.in_row u (listed u a) es c)) z) r
