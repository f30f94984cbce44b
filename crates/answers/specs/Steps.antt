-- What a record does (FEED), to what it finds: a session, or a receiver.
use Rattle.std.specs.Prelude.{ℕ, ◌-◌, List, length, take, drop}
use Rattle.records.specs.declared.Record.{Record}
use Rattle.records.specs.declared.Record.TheVariants.{Whole, Cut, End}
use Rattle.records.specs.Records.{record_at}
use Rattle.answers.specs.declared.Cause.{Cause}
use Rattle.answers.specs.declared.Cause.TheVariants.{CutShort}
use Rattle.answers.specs.declared.Answer.{Answer}
use Rattle.answers.specs.declared.Answer.TheVariants.{Bad, Finished}
use Rattle.answers.specs.declared.Answered.{Answered}
use Rattle.answers.specs.declared.Fed.{Fed}
use Rattle.answers.specs.Lines.{fresh, line_of}

-- its answer with what later calls use, and the work buffer as it leaves it
pub record Step (S : Type 0) : Type 0 where
  pub answered : Answered S
  pub left : List ℕ

abbrev pub answers : {S : Type 0} → Answer → S → Answered S
answers a s = record { answer = a; after = s }

abbrev pub step : {S : Type 0} → Answered S → List ℕ → Step S
step a left = record { answered = a; left = left }

-- a bad record changes nothing
abbrev pub bad_fed : {S : Type 0} → S → Cause → Answered S
bad_fed s cause = answers (Bad cause) s

-- what is left of the input starts with a record, "or cut short by the end of the input"; "At the end of the feed it stops"; `fed` is what a whole record does,
-- by its tag and payload
unfoldable pub record_fed : {S : Type 0} → (S → ℕ → List ℕ → Step S) → S → List ℕ → Record → Step S
record_fed fed s bytes (Whole tag start end) = fed s tag (take (end - start) (drop start bytes))
record_fed fed s bytes Cut = step (bad_fed s CutShort) fresh
record_fed fed s bytes End = step (answers Finished s) fresh

abbrev pub front_fed : {S : Type 0} → (S → ℕ → List ℕ → Step S) → S → List ℕ → Step S
front_fed fed s bytes = record_fed fed s bytes (record_at bytes 0)

-- the line printed, and what a caller is told beside it
unfoldable pub step_line : {S : Type 0} → Step S → List ℕ
step_line t = line_of t.answered.answer t.left

unfoldable pub fed_of : {S : Type 0} → Step S → Fed S
fed_of t = record { size = length (step_line t); answer = t.answered.answer; after = t.answered.after }
