-- Refusals and their numbers (01, "What a caller is told"; 02), and what a call's answer tells in those numbers.
use Rattle.std.specs.Prelude.{ℕ, Result, Ok, Err}
use Rattle.laws.specs.declared.Done.{Done}
use Rattle.laws.specs.declared.Refusal.{Refusal}
use Rattle.laws.specs.declared.Refusal.TheVariants.{NotListed, LineLength, NoSuchLine, NotTheDueLine, FrameWaits, NoSuchFingerprint, NotWholeInstants, StoreFull, NoReadyFrame, IdLength, NoRoom, OtherInstant, ContainerTooShort, Version, Length, Checksum, RateOrFlags, IdPart, VideoPart, AudioPart, BytesLeftOver, NoSuchContents, NotTenBits, PacketTooShort, PacketStart, PacketNames, PacketCount, PacketParity, PacketChecksum, TransportTooShort, StartCode, TransportLength, Crc, NothingKept, RecordingTooLong, Late, TooFar, AlreadyHeld, NextNotHeld, FileCut, OtherTag, TooManyPackets}

-- the number that the documents give a refusal
abbrev pub number_of : Refusal → ℕ
number_of NotListed = 1
number_of LineLength = 2
number_of NoSuchLine = 3
number_of NotTheDueLine = 4
number_of FrameWaits = 5
number_of NoSuchFingerprint = 7
number_of NotWholeInstants = 8
number_of StoreFull = 9
number_of NoReadyFrame = 10
number_of IdLength = 11
number_of NoRoom = 12
number_of OtherInstant = 14
number_of ContainerTooShort = 20
number_of Version = 21
number_of Length = 22
number_of Checksum = 23
number_of RateOrFlags = 24
number_of IdPart = 25
number_of VideoPart = 26
number_of AudioPart = 27
number_of BytesLeftOver = 28
number_of NoSuchContents = 29
number_of NotTenBits = 30
number_of PacketTooShort = 31
number_of PacketStart = 32
number_of PacketNames = 33
number_of PacketCount = 34
number_of PacketParity = 35
number_of PacketChecksum = 36
number_of TransportTooShort = 40
number_of StartCode = 41
number_of TransportLength = 42
number_of Crc = 43
number_of NothingKept = 50
number_of RecordingTooLong = 51
number_of Late = 70
number_of TooFar = 71
number_of AlreadyHeld = 72
number_of NextNotHeld = 73
number_of FileCut = 80
number_of OtherTag = 81
number_of TooManyPackets = 82

-- "Success is 0. Each refusal returns its number"
abbrev pub number_in : {A : Type 0} → Result A Refusal → ℕ
number_in (Ok _) = 0
number_in (Err why) = number_of why

-- "and a written length of zero"
abbrev pub done_of : Result ℕ Refusal → Done
done_of (Ok written) = record { number = 0; written = written }
done_of (Err why) = record { number = number_of why; written = 0 }
