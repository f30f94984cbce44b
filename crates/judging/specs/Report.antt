-- What is reported of a file, a field at a time (02, A13; FEED, `judge`).
use Rattle.std.specs.Prelude.{ℕ, ◌+◌, ◌*◌, ◌≤◌, List, [], Bool, cond, ◌||◌, not, length, take, drop, leb, ltb, eqb}
use Rattle.std.proofs.lemmas.List.Edits.{sets}
use Rattle.laws.specs.Calls.{unless}
use Rattle.records.specs.Records.{byte_at, pair_at}
use Rattle.text.specs.Lines.{place_past, refused_text}
use Rattle.judging.specs.declared.Judged.{Judged}
use Rattle.judging.specs.declared.report.Report.{Report}
use Rattle.judging.specs.Judge.{nothing_known, judged_of}
use Rattle.judging.specs.Lines.{clean, faults_text}

-- the bytes of a field, by its length
unfoldable pub field_size : List ℕ → ℕ
field_size f = 3 + pair_at f 1

-- "82 for more than 500", "81 for another tag", "80 for .. one cut inside a field": "at one place 82 before 81 before 80", or 0; so many fields stand before it
unfoldable pub field_number : ℕ → List ℕ → ℕ
field_number k f =
    unless (ltb k 500) 82
    (unless (eqb (byte_at f 0) 0x02) 81
    (unless (leb (field_size f) (length f)) 80
    0))

-- its packet
unfoldable pub packet_in : List ℕ → List ℕ
packet_in f = take (pair_at f 1) (drop 3 f)

unfoldable pub fresh_report : Report
fresh_report = record { number = 0; known = nothing_known; packets = 0; size = 0 }

-- what changes nothing: a file that is refused, and no byte
unfoldable pub is_past : Report → List ℕ → Bool
is_past r f = not (eqb r.number 0) || eqb (length f) 0

abbrev pub judged : Report → List ℕ → Judged
judged r f = judged_of r.known (packet_in f)

-- the lines of a whole field's packet, which are counted from 1
unfoldable pub lines_of : Report → List ℕ → List ℕ
lines_of r f = faults_text (r.packets + 1) (judged r f).faults

abbrev pub gone_on : Report → List ℕ → Report
gone_on r f = record { number = 0; known = (judged r f).known; packets = r.packets + 1; size = place_past r.size (length (lines_of r f)) }

abbrev pub refused_at : Report → List ℕ → Report
refused_at r f = record { number = field_number r.packets f; known = r.known; packets = r.packets; size = r.size }

unfoldable pub field_of : Report → List ℕ → Report
field_of r f = cond (is_past r f) r (cond (eqb (field_number r.packets f) 0) (gone_on r f) (refused_at r f))

unfoldable pub field_out : Report → List ℕ → List ℕ → List ℕ
field_out r f out = cond (is_past r f) out (cond (eqb (field_number r.packets f) 0) (sets out r.size (lines_of r f)) out)

-- ---- the end

-- "80 for an empty file"
unfoldable pub closed_number : Report → ℕ
closed_number r = cond (eqb r.number 0) (unless (ltb 0 r.packets) 80 0) r.number

-- what is put over the front: "nothing else is then printed"; `clean` where there is no line
unfoldable pub closed_text : Report → List ℕ
closed_text r = cond (eqb (closed_number r) 0) (cond (eqb r.size 0) clean []) (refused_text (closed_number r))

unfoldable pub closed_size : Report → ℕ
closed_size r = cond (eqb (length (closed_text r)) 0) r.size (length (closed_text r))

-- how long the lines are at most
pub record Within (r : Report) : Type 0 where
  pub packets : r.packets ≤ 500
  pub size : r.size ≤ 71 * r.packets
