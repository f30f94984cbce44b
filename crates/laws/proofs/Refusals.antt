-- A refusal is told by its number: none has 0, and no two have the same.
use Rattle.std.proofs.Common.{ℕ, ◌≡◌, ◌≢◌, cond, eqb, refl, ap, sym, ◌∙◌, Ok, Err, Result, arith}
use Rattle.laws.specs.declared.Done.{Done}
use Rattle.laws.specs.declared.Refusal.{Refusal}
use Rattle.laws.specs.declared.Refusal.TheVariants.{NotListed, LineLength, NoSuchLine, NotTheDueLine, FrameWaits, NoSuchFingerprint, NotWholeInstants, StoreFull, NoReadyFrame, IdLength, NoRoom, OtherInstant, ContainerTooShort, Version, Length, Checksum, RateOrFlags, IdPart, VideoPart, AudioPart, BytesLeftOver, NoSuchContents, NotTenBits, PacketTooShort, PacketStart, PacketNames, PacketCount, PacketParity, PacketChecksum, TransportTooShort, StartCode, TransportLength, Crc, NothingKept, RecordingTooLong, Late, TooFar, AlreadyHeld, NextNotHeld, FileCut, OtherTag, TooManyPackets}
use Rattle.laws.specs.Refusals.{number_of, number_in, done_of}
use Rattle.laws.proofs.Once.{one_value}

-- the refusal of a number; any where no refusal has it
abbrev numbered : ℕ → Refusal
numbered n =
    (cond (eqb n 1) NotListed
    (cond (eqb n 2) LineLength
    (cond (eqb n 3) NoSuchLine
    (cond (eqb n 4) NotTheDueLine
    (cond (eqb n 5) FrameWaits
    (cond (eqb n 7) NoSuchFingerprint
    (cond (eqb n 8) NotWholeInstants
    (cond (eqb n 9) StoreFull
    (cond (eqb n 10) NoReadyFrame
    (cond (eqb n 11) IdLength
    (cond (eqb n 12) NoRoom
    (cond (eqb n 14) OtherInstant
    (cond (eqb n 20) ContainerTooShort
    (cond (eqb n 21) Version
    (cond (eqb n 22) Length
    (cond (eqb n 23) Checksum
    (cond (eqb n 24) RateOrFlags
    (cond (eqb n 25) IdPart
    (cond (eqb n 26) VideoPart
    (cond (eqb n 27) AudioPart
    (cond (eqb n 28) BytesLeftOver
    (cond (eqb n 29) NoSuchContents
    (cond (eqb n 30) NotTenBits
    (cond (eqb n 31) PacketTooShort
    (cond (eqb n 32) PacketStart
    (cond (eqb n 33) PacketNames
    (cond (eqb n 34) PacketCount
    (cond (eqb n 35) PacketParity
    (cond (eqb n 36) PacketChecksum
    (cond (eqb n 40) TransportTooShort
    (cond (eqb n 41) StartCode
    (cond (eqb n 42) TransportLength
    (cond (eqb n 43) Crc
    (cond (eqb n 50) NothingKept
    (cond (eqb n 51) RecordingTooLong
    (cond (eqb n 70) Late
    (cond (eqb n 71) TooFar
    (cond (eqb n 72) AlreadyHeld
    (cond (eqb n 73) NextNotHeld
    (cond (eqb n 80) FileCut
    (cond (eqb n 81) OtherTag
    (cond (eqb n 82) TooManyPackets
    NotListed))))))))))))))))))))))))))))))))))))))))))

back : (why : Refusal) → numbered (number_of why) ≡ why
back NotListed = refl
back LineLength = refl
back NoSuchLine = refl
back NotTheDueLine = refl
back FrameWaits = refl
back NoSuchFingerprint = refl
back NotWholeInstants = refl
back StoreFull = refl
back NoReadyFrame = refl
back IdLength = refl
back NoRoom = refl
back OtherInstant = refl
back ContainerTooShort = refl
back Version = refl
back Length = refl
back Checksum = refl
back RateOrFlags = refl
back IdPart = refl
back VideoPart = refl
back AudioPart = refl
back BytesLeftOver = refl
back NoSuchContents = refl
back NotTenBits = refl
back PacketTooShort = refl
back PacketStart = refl
back PacketNames = refl
back PacketCount = refl
back PacketParity = refl
back PacketChecksum = refl
back TransportTooShort = refl
back StartCode = refl
back TransportLength = refl
back Crc = refl
back NothingKept = refl
back RecordingTooLong = refl
back Late = refl
back TooFar = refl
back AlreadyHeld = refl
back NextNotHeld = refl
back FileCut = refl
back OtherTag = refl
back TooManyPackets = refl

pub number_injective : (x y : Refusal) → number_of x ≡ number_of y → x ≡ y
number_injective x y e = sym (back x) ∙ ap numbered e ∙ back y

pub number_positive : (why : Refusal) → number_of why ≢ 0
number_positive NotListed = λ h. omega (arith, h)
number_positive LineLength = λ h. omega (arith, h)
number_positive NoSuchLine = λ h. omega (arith, h)
number_positive NotTheDueLine = λ h. omega (arith, h)
number_positive FrameWaits = λ h. omega (arith, h)
number_positive NoSuchFingerprint = λ h. omega (arith, h)
number_positive NotWholeInstants = λ h. omega (arith, h)
number_positive StoreFull = λ h. omega (arith, h)
number_positive NoReadyFrame = λ h. omega (arith, h)
number_positive IdLength = λ h. omega (arith, h)
number_positive NoRoom = λ h. omega (arith, h)
number_positive OtherInstant = λ h. omega (arith, h)
number_positive ContainerTooShort = λ h. omega (arith, h)
number_positive Version = λ h. omega (arith, h)
number_positive Length = λ h. omega (arith, h)
number_positive Checksum = λ h. omega (arith, h)
number_positive RateOrFlags = λ h. omega (arith, h)
number_positive IdPart = λ h. omega (arith, h)
number_positive VideoPart = λ h. omega (arith, h)
number_positive AudioPart = λ h. omega (arith, h)
number_positive BytesLeftOver = λ h. omega (arith, h)
number_positive NoSuchContents = λ h. omega (arith, h)
number_positive NotTenBits = λ h. omega (arith, h)
number_positive PacketTooShort = λ h. omega (arith, h)
number_positive PacketStart = λ h. omega (arith, h)
number_positive PacketNames = λ h. omega (arith, h)
number_positive PacketCount = λ h. omega (arith, h)
number_positive PacketParity = λ h. omega (arith, h)
number_positive PacketChecksum = λ h. omega (arith, h)
number_positive TransportTooShort = λ h. omega (arith, h)
number_positive StartCode = λ h. omega (arith, h)
number_positive TransportLength = λ h. omega (arith, h)
number_positive Crc = λ h. omega (arith, h)
number_positive NothingKept = λ h. omega (arith, h)
number_positive RecordingTooLong = λ h. omega (arith, h)
number_positive Late = λ h. omega (arith, h)
number_positive TooFar = λ h. omega (arith, h)
number_positive AlreadyHeld = λ h. omega (arith, h)
number_positive NextNotHeld = λ h. omega (arith, h)
number_positive FileCut = λ h. omega (arith, h)
number_positive OtherTag = λ h. omega (arith, h)
number_positive TooManyPackets = λ h. omega (arith, h)

-- what is told determines the answer
pub done_injective : (x y : Result ℕ Refusal) → done_of x ≡ done_of y → x ≡ y
done_injective (Ok m) (Ok n) e = ap Ok (ap (λ (d : Done). d.written) e)
done_injective (Ok m) (Err why) e = absurd (number_positive why (sym (ap (λ (d : Done). d.number) e)))
done_injective (Err why) (Ok n) e = absurd (number_positive why (ap (λ (d : Done). d.number) e))
done_injective (Err why) (Err other) e = ap Err (number_injective why other (ap (λ (d : Done). d.number) e))

pub checked_injective : (x y : Result Unit Refusal) → number_in x ≡ number_in y → x ≡ y
checked_injective (Ok a) (Ok b) e = refl
checked_injective (Ok a) (Err why) e = absurd (number_positive why (sym e))
checked_injective (Err why) (Ok b) e = absurd (number_positive why e)
checked_injective (Err why) (Err other) e = ap Err (number_injective why other e)

-- so that no two answers meet a contract that says what is told
pub one_done : {told : Done} {x y : Result ℕ Refusal} → done_of x ≡ told → done_of y ≡ told → x ≡ y
one_done p q = done_injective _ _ (one_value p q)

pub one_check : {number : ℕ} {x y : Result Unit Refusal} → number_in x ≡ number → number_in y ≡ number → x ≡ y
one_check p q = checked_injective _ _ (one_value p q)

pub one_handed : {B : Type 0} {told : Done} {x y : Result ℕ Refusal} {left v w : B} → (done_of x ≡ told) × (v ≡ left) → (done_of y ≡ told) × (w ≡ left) → (x ≡ y) × (v ≡ w)
one_handed p q = (one_done p.0 q.0, one_value p.1 q.1)

pub same_told : {x y : Done} → x.number ≡ y.number → x.written ≡ y.written → x ≡ y
same_told p q = rw (p, q) refl
