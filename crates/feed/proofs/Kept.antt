-- What each call with a room does with the buffer lent: it counts no more than the room, and keeps the bytes beyond those counted. So ` spilled` never comes.
use Prim.Native.Nat.{ℕ, ◌-◌, ◌≤◌}
use mathlib.Core.Path.{◌≡◌, refl, subst}
use mathlib.Core.List.{List}
use mathlib.Core.Bool.{Bool, true, false, cond}
use native.Mathlib.Omega.{arith}
use lib.ListN.{length, take, drop}
use lib.Dec.{leb, ltb, eqb}
use Rattle.std.specs.Prelude.{Option, Some, None}
use Rattle.std.specs.declared.result.Result.{Result}
use Rattle.std.specs.declared.result.Result.TheVariants.{Ok, Err}
use Rattle.laws.specs.Calls.{done_with}
use Rattle.laws.proofs.Tests.{chosen}
use Rattle.sampling.specs.Samples.{sample_number, pixels, sample_done, sample_out}
use Rattle.sampling.specs.Formats.{row_of}
use Rattle.container.specs.declared.Contents.{Contents}
use Rattle.container.specs.Bytes.{encode}
use Rattle.container.specs.Reading.{reading}
use Rattle.container.specs.Writing as container
use Rattle.packet.specs.Writing as packet
use Rattle.packet.specs.Reading as unpacket
use Rattle.transport.specs.Writing as stream
use Rattle.transport.specs.Reading as unstream
use Rattle.mending.specs.Mending.{mended, recording_number, mend_number, mend_done, mend_out}
use Rattle.container.specs.Writing.{write_done, write_out}
use Rattle.floats.specs.declared.Instant as floats
use Rattle.session.specs.declared.Session.{Session}
use Rattle.session.specs.Session.{instant_of}
use Rattle.session.specs.Packing.{Packed, pack_number, contents_of, session_after, refused_with, packed_with, pack_of, pack_out}
use Rattle.flat.specs.Unflat.{unflat}
use Rattle.report.specs.Report.{reported}
use Rattle.report.proofs.Sizes.{reported_size}
use Rattle.records.specs.declared.Record.{Record}
use Rattle.records.specs.declared.Record.TheVariants.{Whole, Cut, End}
use Rattle.records.specs.Records.{byte_at, record_at}
use Rattle.answers.specs.declared.Cause.{Cause}
use Rattle.answers.specs.declared.Cause.TheVariants.{UnknownTag, CutShort}
use Rattle.answers.specs.declared.Hand.TheVariants.{Pack, Sample, Rewrite, Wrap, Unwrap, Write, Stream, Unstream, Mend}
use Rattle.answers.specs.declared.Answer.TheVariants.{Instant, Reported, Finished}
use Rattle.answers.specs.Lines.{untouched, fresh, Quiet}
use Rattle.answers.specs.Rooms.{room_at}
use Rattle.feed.specs.Alone.{Reply, in_work, sample_lent, sample_in, sample_fed, read_fed, rewrite_done, rewrite_out, write_with, write_lent, carried_fed, lent_fed, room_in, room_fed, alone_fed}
use Rattle.feed.specs.Values.{instant_in}
use Rattle.feed.specs.Calls.{Answered, Step, begun, lined, sounded, instanted, done_of, packed, setup_fed, ruled_fed, line_fed, sound_fed, pack_in, pack_fed, restart_fed, instant_with, instant_fed, session_fed}
use Rattle.feed.specs.Feed.{leaves, fed, front}
use Rattle.answers.specs.Steps.{record_fed}
use Rattle.answers.proofs.Watch.{untouched_size}
use Rattle.answers.proofs.Rooms.{room_most}
use Rattle.answers.proofs.Held.{Kept, none_kept, call_kept, InRoom, Held, held_work, handed_in, none_held, bad_in, bad_held}

pub sample_kept : (format : ℕ) (line lent : List ℕ) → Kept lent (sample_done format line lent).written (sample_out format line lent)
unfolding sample_done sample_out
sample_kept format line lent = call_kept (sample_number format line) (pixels (row_of format) line) lent

pub write_kept : (c : Contents) (lent : List ℕ) → Kept lent (container.write_done c (length lent)).written (container.write_out c lent)
unfolding container.write_done container.write_out container.write_number
write_kept c lent = call_kept (container.contents_number c) (encode c) lent

pub wrap_kept : (bytes lent : List ℕ) → Kept lent (packet.write_done bytes (length lent)).written (packet.write_out bytes lent)
unfolding packet.write_done packet.write_out packet.write_number
wrap_kept bytes lent = call_kept (reading bytes).number (packet.packet_bytes bytes) lent

pub unwrap_kept : (words lent : List ℕ) → Kept lent (unpacket.read_done words (length lent)).written (unpacket.read_out words lent)
unfolding unpacket.read_done unpacket.read_out unpacket.read_number
unwrap_kept words lent = call_kept (unpacket.inner_number words) (unpacket.user_bytes words) lent

pub stream_kept : (bytes lent : List ℕ) → Kept lent (stream.write_done bytes (length lent)).written (stream.write_out bytes lent)
unfolding stream.write_done stream.write_out stream.write_number
stream_kept bytes lent = call_kept (reading bytes).number (stream.transport_bytes bytes) lent

pub unstream_kept : (bytes lent : List ℕ) → Kept lent (unstream.read_done bytes (length lent)).written (unstream.read_out bytes lent)
unfolding unstream.read_done unstream.read_out unstream.read_number
unstream_kept bytes lent = call_kept (unstream.inner_number bytes) (unstream.container_bytes bytes) lent

pub mend_kept : (recording lent : List ℕ) → Kept lent (mend_done recording (length lent)).written (mend_out recording lent)
unfolding mend_done mend_out mend_number
mend_kept recording lent = call_kept (recording_number recording) (mended recording) lent

pub rewrite_kept : (bytes lent : List ℕ) → Kept lent (rewrite_done bytes (length lent)).written (rewrite_out bytes lent)
unfolding rewrite_done rewrite_out
rewrite_kept bytes lent = go (eqb (reading bytes).number 0)
  where
    go : (t : Bool)
        → Kept lent (cond t (container.write_done (reading bytes).contents (length lent)) (record { number = (reading bytes).number; written = 0 })).written (cond t (container.write_out (reading bytes).contents lent) lent)
    go true = write_kept (reading bytes).contents lent
    go false = none_kept lent

-- what a refused Write counts
unwritten : (k : Contents) (room : ℕ) → eqb (write_done k room).number 0 ≡ false → (write_done k room).written ≡ 0
unfolding write_done done_with
unwritten k room e = rw e

-- Pack counts no more than the room, and keeps the bytes beyond those counted
pub pack_kept : (s : Session) (id lent : List ℕ) → Kept lent (done_of (pack_of s id (length lent))).written (pack_out s id lent)
unfolding done_of pack_of pack_out
pack_kept s id lent = go (eqb (pack_number s (length id)) 0)
  where
    k : Contents
    k = contents_of s id

    inner : (u : Bool) → eqb (write_done k (length lent)).number 0 ≡ u
        → Kept lent (cond {A = Packed} u (record { number = 0; written = (write_done k (length lent)).written; session = session_after s }) (refused_with (write_done k (length lent)).number s)).written (write_out k lent)
    inner true e = write_kept k lent
    inner false e = subst (λ (w : ℕ). Kept lent w (write_out k lent)) (unwritten k (length lent) e) (write_kept k lent)

    go : (t : Bool) → Kept lent (cond t (packed_with s (write_done k (length lent))) (refused_with (pack_number s (length id)) s)).written (cond t (write_out k lent) lent)
    go true = inner (eqb (write_done k (length lent)).number 0) refl
    go false = none_kept lent

-- ---- a call in its room

abbrev pub RoomReply : ℕ → Reply → Type 0
RoomReply room r = InRoom room r.answer r.left

carried_in : (tag : ℕ) (rest : List ℕ) (room : ℕ) → RoomReply room (carried_fed tag rest (untouched room))
unfolding carried_fed
carried_in tag rest room =
    let P : Reply → Type 0 = RoomReply room in
    let lent : List ℕ = untouched room in
    chosen P (eqb tag 0x23) _ _ (λ _. handed_in Wrap _ room _ (wrap_kept rest lent))
    (λ _. chosen P (eqb tag 0x24) _ _ (λ _. handed_in Unwrap _ room _ (unwrap_kept rest lent))
    (λ _. chosen P (eqb tag 0x26) _ _ (λ _. handed_in Stream _ room _ (stream_kept rest lent))
    (λ _. chosen P (eqb tag 0x27) _ _ (λ _. handed_in Unstream _ room _ (unstream_kept rest lent))
    (λ _. chosen P (eqb tag 0x28) _ _ (λ _. handed_in Mend _ room _ (mend_kept rest lent))
    (λ _. bad_in _ room)))))

write_in : (rest : List ℕ) (room : ℕ) (o : Option Contents) → RoomReply room (write_with rest (untouched room) o)
unfolding write_with
write_in rest room (Some contents) = handed_in Write _ room _ (write_kept contents (untouched room))
write_in rest room None = bad_in _ room

pub lent_in : (tag : ℕ) (rest : List ℕ) (room : ℕ) → RoomReply room (lent_fed tag rest (untouched room))
unfolding lent_fed write_lent
lent_in tag rest room =
    let P : Reply → Type 0 = RoomReply room in
    let lent : List ℕ = untouched room in
    chosen P (eqb tag 0x22) _ _ (λ _. handed_in Rewrite _ room _ (rewrite_kept rest lent))
    (λ _. chosen P (eqb tag 0x25) _ _ (λ _. write_in rest room (unflat rest))
    (λ _. carried_in tag rest room))

-- ---- every record

abbrev HeldReply : Reply → Type 0
HeldReply r = Held r.answer r.left

abbrev HeldStep : Step → Type 0
HeldStep t = Held t.answered.answer t.left

in_held : (room : ℕ) (r : Reply) → room ≤ 4096 → RoomReply room r → HeldReply (in_work r)
unfolding in_work
in_held room r h q = held_work r.answer r.left (omega (arith, q.0)) q.1

sample_held : (p : List ℕ) (r : Result ℕ Cause) → room_at p 1 ≡ r → HeldReply (sample_in p r)
unfolding sample_in sample_lent
sample_held p (Ok room) e = in_held room _ (room_most p 1 room e) (handed_in Sample _ room _ (sample_kept (byte_at p 0) (drop 3 p) (untouched room)))
sample_held p (Err cause) e = bad_held cause

room_held : (tag : ℕ) (p : List ℕ) (r : Result ℕ Cause) → room_at p 0 ≡ r → HeldReply (room_in tag p r)
unfolding room_in
room_held tag p (Ok room) e = in_held room _ (room_most p 0 room e) (lent_in tag (drop 2 p) room)
room_held tag p (Err cause) e = bad_held cause

alone_held : (tag : ℕ) (p : List ℕ) → HeldReply (alone_fed tag p)
unfolding alone_fed sample_fed read_fed room_fed Quiet
alone_held tag p =
    chosen HeldReply (eqb tag 0x20) _ _ (λ _. sample_held p (room_at p 1) refl)
    (λ _. chosen HeldReply (eqb tag 0x21) _ _ (λ _. held_work (Reported (length (reported (reading p)))) (reported (reading p)) (omega (arith, reported_size (reading p))) (omega arith))
    (λ _. chosen HeldReply (ltb 0x28 tag) _ _ (λ _. bad_held (UnknownTag tag))
    (λ _. room_held tag p (room_at p 0) refl)))

pack_held : (s : Session) (p : List ℕ) (r : Result ℕ Cause) → room_at p 0 ≡ r → HeldStep (pack_in s p r)
unfolding pack_in packed
pack_held s p (Ok room) e =
    let k = subst (λ (n : ℕ). Kept (untouched room) (done_of (pack_of s (drop 2 p) n)).written (pack_out s (drop 2 p) (untouched room))) (untouched_size room) (pack_kept s (drop 2 p) (untouched room)) in
    let q = handed_in Pack (done_of (pack_of s (drop 2 p) room)) room _ k in
    held_work _ _ (omega (arith, q.0, room_most p 0 room e)) q.1
pack_held s p (Err cause) e = bad_held cause

-- a call on the session that is lent no room, or its refusal
plain_held : (t : Bool) (a b : Answered) → Quiet a.answer fresh → Quiet b.answer fresh → Held (cond t a b).answer fresh
plain_held true a b q r = none_held _ q
plain_held false a b q r = none_held _ r

instant_held : (s : Session) (k : ℕ) (b : Result floats.Instant Cause) → Held (instant_with s k b).answer fresh
unfolding instant_with instanted Quiet
instant_held s k (Ok i) = none_held (Instant (instant_of s k i).number) (omega arith)
instant_held s k (Err cause) = bad_held cause

session_held : (s : Session) (tag : ℕ) (p : List ℕ) → HeldStep (session_fed s tag p)
unfolding session_fed setup_fed ruled_fed begun line_fed lined sound_fed sounded pack_fed restart_fed instant_fed Quiet
session_held s tag p =
    chosen HeldStep (eqb tag 0x10) _ _ (λ _. plain_held (leb 2 (length p)) _ _ (omega arith) (omega arith))
    (λ _. chosen HeldStep (eqb tag 0x11) _ _ (λ _. plain_held (leb 2 (length p)) _ _ (omega arith) (omega arith))
    (λ _. chosen HeldStep (eqb tag 0x12) _ _ (λ _. plain_held (leb 1 (length p)) _ _ (omega arith) (omega arith))
    (λ _. chosen HeldStep (eqb tag 0x13) _ _ (λ _. pack_held s p (room_at p 0) refl)
    (λ _. chosen HeldStep (eqb tag 0x14) _ _ (λ _. plain_held (eqb (length p) 0) _ _ (omega arith) (omega arith))
    (λ _. chosen HeldStep (eqb tag 0x15) _ _ (λ _. plain_held (eqb (length p) 0) _ _ (omega arith) (omega arith))
    (λ _. chosen HeldStep (eqb tag 0x16) _ _ (λ _. instant_held s (byte_at p 0) (instant_in p))
    (λ _. chosen HeldStep (eqb tag 0x17) _ _ (λ _. plain_held (leb 3 (length p)) _ _ (omega arith) (omega arith))
    (λ _. bad_held (UnknownTag tag)))))))))

fed_held : (s : Session) (tag : ℕ) (p : List ℕ) → HeldStep (fed s tag p)
unfolding fed leaves
fed_held s tag p = chosen HeldStep (ltb tag 0x20) _ _ (λ _. session_held s tag p) (λ _. alone_held tag p)

pub front_held : (s : Session) (bytes : List ℕ) → HeldStep (front s bytes)
unfolding front record_fed Quiet
front_held s bytes = go (record_at bytes 0)
  where
    go : (r : Record) → HeldStep (record_fed fed s bytes r)
    go (Whole tag start end) = fed_held s tag (take (end - start) (drop start bytes))
    go Cut = bad_held CutShort
    go End = none_held Finished (omega arith)

-- no call touches a byte of the work buffer beyond those that it counts, so ` spilled` is never printed
pub quiet : (s : Session) (bytes : List ℕ) → Quiet (front s bytes).answered.answer (front s bytes).left
quiet s bytes = (front_held s bytes).1
