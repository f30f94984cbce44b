-- The calls that touch no session: tags 20h to 28h (FEED's table).
use Rattle.std.specs.Prelude.{ℕ, List, Option, Some, None, cond, length, drop, ltb, eqb, Result, Ok, Err}
use Rattle.laws.specs.declared.Done.{Done}
use Rattle.laws.specs.Calls.{over}
use Rattle.records.specs.Records.{byte_at}
use Rattle.sampling.specs.Samples.{sample_done, sample_out}
use Rattle.container.specs.declared.Contents.{Contents}
use Rattle.container.specs.Reading.{reading}
use Rattle.container.specs.Writing as container
use Rattle.packet.specs.Writing as packet
use Rattle.packet.specs.Reading.{read_done, read_out}
use Rattle.transport.specs.Writing as stream
use Rattle.transport.specs.Reading as unstream
use Rattle.mending.specs.Mending.{mend_done, mend_out}
use Rattle.flat.specs.Unflat.{unflat}
use Rattle.report.specs.Report.{reported}
use Rattle.answers.specs.declared.Cause.{Cause}
use Rattle.answers.specs.declared.Cause.TheVariants.{UnknownTag, TooShort, TooLong, IdPresent, VideoValues, UnusedPlace}
use Rattle.answers.specs.declared.Hand.TheVariants.{Sample, Rewrite, Wrap, Unwrap, Write, Stream, Unstream, Mend}
use Rattle.answers.specs.declared.Answer.{Answer}
use Rattle.answers.specs.declared.Answer.TheVariants.{Handed, Reported, Bad}
use Rattle.answers.specs.Lines.{untouched, fresh}
use Rattle.answers.specs.Rooms.{room_at}

-- what a call answers, and the buffer that it was lent as it leaves it
pub record Reply : Type 0 where
  pub answer : Answer
  pub left : List ℕ

abbrev pub reply : Answer → List ℕ → Reply
reply a left = record { answer = a; left = left }

-- the first bytes of the work buffer were lent
unfoldable pub in_work : Reply → Reply
in_work r = reply r.answer (over r.left fresh)

-- 20h: "Line sampling by itself"; "format, u16 room, the line's bytes"
unfoldable pub sample_lent : ℕ → List ℕ → List ℕ → Reply
sample_lent format line lent = reply (Handed Sample (sample_done format line lent)) (sample_out format line lent)

unfoldable pub sample_in : List ℕ → Result ℕ Cause → Reply
sample_in p (Ok room) = in_work (sample_lent (byte_at p 0) (drop 3 p) (untouched room))
sample_in p (Err cause) = reply (Bad cause) fresh

unfoldable pub sample_fed : List ℕ → Reply
sample_fed p = sample_in p (room_at p 1)

-- 21h: "the line of document 01's program"
unfoldable pub read_fed : List ℕ → Reply
read_fed p = reply (Reported (length (reported (reading p)))) (over (reported (reading p)) fresh)

-- 22h: "Read container, then Write of what was read"; "where the reading is refused, N is its number and nothing is written"
unfoldable pub rewrite_done : List ℕ → ℕ → Done
rewrite_done bytes room =
    cond (eqb (reading bytes).number 0) (container.write_done (reading bytes).contents room) (record { number = (reading bytes).number; written = 0 })

unfoldable pub rewrite_out : List ℕ → List ℕ → List ℕ
rewrite_out bytes lent = cond (eqb (reading bytes).number 0) (container.write_out (reading bytes).contents lent) lent

-- 25h: "Write" of flat contents; bytes that are no contents are a bad record, by its first fault from the left
unfoldable pub flat_cause : List ℕ → Cause
flat_cause bytes =
    cond (ltb (length bytes) 283) TooShort
    (cond (ltb 283 (length bytes)) TooLong
    (cond (ltb 1 (byte_at bytes 2)) IdPresent
    (cond (ltb 2 (byte_at bytes 23)) VideoValues
    UnusedPlace)))

unfoldable pub write_with : List ℕ → List ℕ → Option Contents → Reply
write_with bytes lent (Some contents) = reply (Handed Write (container.write_done contents (length lent))) (container.write_out contents lent)
write_with bytes lent None = reply (Bad (flat_cause bytes)) lent

unfoldable pub write_lent : List ℕ → List ℕ → Reply
write_lent bytes lent = write_with bytes lent (unflat bytes)

-- a container carried in a packet or a recording. 23h: "Write packet"; 24h: "Read packet"; 26h: "Write transport packet"; 27h: "Read transport packet"; 28h: "Mend"
unfoldable pub carried_fed : ℕ → List ℕ → List ℕ → Reply
carried_fed tag rest lent =
    cond (eqb tag 0x23) (reply (Handed Wrap (packet.write_done rest (length lent))) (packet.write_out rest lent))
    (cond (eqb tag 0x24) (reply (Handed Unwrap (read_done rest (length lent))) (read_out rest lent))
    (cond (eqb tag 0x26) (reply (Handed Stream (stream.write_done rest (length lent))) (stream.write_out rest lent))
    (cond (eqb tag 0x27) (reply (Handed Unstream (unstream.read_done rest (length lent))) (unstream.read_out rest lent))
    (cond (eqb tag 0x28) (reply (Handed Mend (mend_done rest (length lent))) (mend_out rest lent))
    (reply (Bad (UnknownTag tag)) lent)))))

-- the calls from 22h on, with what follows the room and the buffer lent
unfoldable pub lent_fed : ℕ → List ℕ → List ℕ → Reply
lent_fed tag rest lent =
    cond (eqb tag 0x22) (reply (Handed Rewrite (rewrite_done rest (length lent))) (rewrite_out rest lent))
    (cond (eqb tag 0x25) (write_lent rest lent)
    (carried_fed tag rest lent))

-- "u16 room", then what the call is given
unfoldable pub room_in : ℕ → List ℕ → Result ℕ Cause → Reply
room_in tag p (Ok room) = in_work (lent_fed tag (drop 2 p) (untouched room))
room_in tag p (Err cause) = reply (Bad cause) fresh

unfoldable pub room_fed : ℕ → List ℕ → Reply
room_fed tag p = room_in tag p (room_at p 0)

-- "A record with another tag" is bad whatever its payload
unfoldable pub alone_fed : ℕ → List ℕ → Reply
alone_fed tag p =
    cond (eqb tag 0x20) (sample_fed p)
    (cond (eqb tag 0x21) (read_fed p)
    (cond (ltb 0x28 tag) (reply (Bad (UnknownTag tag)) fresh)
    (room_fed tag p)))
