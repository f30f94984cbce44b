-- What can be said of a record read from the input: no contract can say which bytes come.
use Rattle.std.specs.Prelude.{Bool, true, false, ℕ, ◌+◌, ◌≤◌, ◌≡◌, List, length, drop}
use Rattle.answers.specs.declared.Answer.{Answer}
use Rattle.answers.specs.declared.Answer.TheVariants.{Bad, Finished}
use Rattle.records.specs.Records.{pair_at}

-- the size of the record whose tag and length stand in front
abbrev pub record_size : List ℕ → ℕ
record_size bytes = 3 + pair_at bytes 1

-- the buffer before and after, and how many bytes were read: no more than the buffer and the record have, and no byte beyond the record is touched
pub record Took (old new : List ℕ) (n : ℕ) : Type 0 where
  pub held : n ≤ length old
  pub within : n ≤ record_size new
  pub beyond : drop (record_size new) new ≡ drop (record_size new) old

-- "prints `bad record` and stops"; "At the end of the feed it stops"
abbrev pub is_last : Answer → Bool
is_last (Bad cause) = true
is_last Finished = true
is_last answer = false
