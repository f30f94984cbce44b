-- A file of packets, "each as a field like A8's with tag 02h" (02, A13): its fields, the number that refuses it, and all that is printed of it.
use Rattle.std.specs.Prelude.{ℕ, zero, suc, ◌-◌, ◌/◌, ◌%◌, ◌<◌, cond, List, [], ◌∷◌, ◌++◌, length, take, replicate, eqb}
use Rattle.std.proofs.lemmas.List.Edits.{sets}
use Rattle.text.specs.Lines.{refused_text}
use Rattle.packet_laws.specs.Handed.{wrapped}
use Rattle.judging.specs.declared.report.Report.{Report}
use Rattle.judging.specs.Report.{field_size, field_number, packet_in, fresh_report, field_of, field_out, closed_text, closed_size}
use Rattle.judging_laws.specs.Faults.{report_of}

-- the fields, the last of which may be cut, where so many bytes are still to be passed over
unfoldable pub fields_from : ℕ → List ℕ → List (List ℕ)
fields_from n [] = []
fields_from (suc n) (b ∷ s) = fields_from n s
fields_from zero (b ∷ s) = take (field_size (b ∷ s)) (b ∷ s) ∷ fields_from (field_size (b ∷ s) - 1) s

unfoldable pub fields_of : List ℕ → List (List ℕ)
fields_of s = fields_from 0 s

-- "whichever fault comes first in the file", so many fields standing before these, or 0
unfoldable pub number_from : ℕ → List (List ℕ) → ℕ
number_from k [] = 0
number_from k (f ∷ fs) = cond (eqb (field_number k f) 0) (number_from (suc k) fs) (field_number k f)

-- "80 for an empty file"
unfoldable pub file_number : List ℕ → ℕ
file_number s = cond (eqb (length s) 0) 80 (number_from 0 (fields_of s))

-- the packets of fields, behind others, the newest first
unfoldable pub packets_of : List (List ℕ) → List (List ℕ) → List (List ℕ)
packets_of before [] = before
packets_of before (f ∷ fs) = packets_of (packet_in f ∷ before) fs

-- "nothing else is then printed"
unfoldable pub judged_text : List ℕ → List ℕ
judged_text s = cond (eqb (file_number s) 0) (report_of (packets_of [] (fields_of s))) (refused_text (file_number s))

-- ---- a file made of packets

-- "a field like A8's with tag 02h": the length has two bytes, the high byte first
unfoldable pub field_with : List ℕ → List ℕ
field_with p = 0x02 ∷ length p / 256 ∷ length p % 256 ∷ p

-- packets in order, the newest of which is given first, and bytes behind them
unfoldable pub file_with : List (List ℕ) → List ℕ → List ℕ
file_with [] rest = rest
file_with (p ∷ before) rest = file_with before (field_with p ++ rest)

abbrev pub file_of : List (List ℕ) → List ℕ
file_of ps = file_with ps []

-- no packet is longer than two bytes count
unfoldable pub Short : List (List ℕ) → Type 0
Short [] = Unit {0}
Short (p ∷ before) = (length p < 65536) × Short before

-- a container as its packet: 522 bytes are room for any
unfoldable pub packet_of : List ℕ → List ℕ
packet_of c = wrapped c (replicate 522 0)

-- ---- by the contracts of `judging`: a report that is fed field after field, and closed

unfoldable pub fed : Report → List (List ℕ) → Report
fed r [] = r
fed r (f ∷ fs) = fed (field_of r f) fs

unfoldable pub fed_out : Report → List (List ℕ) → List ℕ → List ℕ
fed_out r [] out = out
fed_out r (f ∷ fs) out = fed_out (field_of r f) fs (field_out r f out)

-- what the caller then has at the front of the buffer that it lent
unfoldable pub printed : Report → List ℕ → List ℕ
printed r out = take (closed_size r) (sets out 0 (closed_text r))

abbrev pub printed_of : List (List ℕ) → List ℕ → List ℕ
printed_of fs out = printed (fed fresh_report fs) (fed_out fresh_report fs out)
