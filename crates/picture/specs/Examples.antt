-- The definitions on lines that are known.
use Rattle.std.specs.Prelude.{ℕ, ◌≡◌, refl, true, false, List, ◌++◌, replicate}
use Rattle.sampling.specs.Formats.{table, named, row_of}
use Rattle.picture.specs.declared.Told.TheVariants.{Open, Nothing, Value}
use Rattle.picture.specs.Fields.{difference, is_brighter, is_darker, count_of, brighter_in, darker_in, fingerprint_of, compared}
use Rattle.picture.specs.Lines.{among, interlaced, monitored, due_line, order_number, line_number}
use Rattle.picture.specs.History.{joined, fields, field_tells, line_tells, next_field, next_line}

-- n lines of 60 bytes x
abbrev same : ℕ → ℕ → List (List ℕ)
same n x = replicate n (replicate 60 x)

record Examples : Type 0 where
  not_ended : line_tells (same 15 32 ++ same 32 0) ≡ Open
  second_field : line_tells (same 16 32 ++ same 16 0) ≡ Nothing
  third_field : line_tells (same 16 32 ++ (same 16 0 ++ same 16 0)) ≡ Value 240 960 0
  -- one line's pixels 32 darker, one line's 32 brighter, one line's 31 brighter
  both_ways : line_tells (same 1 63 ++ (same 1 64 ++ (same 1 0 ++ (same 13 32 ++ (same 16 0 ++ same 16 32))))) ≡ Value 30 60 60
  -- the preceding field plays no part
  preceding_field : line_tells (same 16 32 ++ (same 16 0 ++ same 16 32)) ≡ Value 0 0 0
  -- 1080i: field 2 after field 1, and field 1 after field 2; 1080p: the second line of a frame
  field_2_due : next_line 3 (same 16 0) ≡ 652
  field_1_due : next_line 3 (same 32 0) ≡ 89
  second_line_due : next_line 4 (same 17 0) ≡ 226
  -- 1080i while a frame is ready: the next frame's first line, another monitored line, lines of either field that are not monitored
  ready_first : line_number 3 89 true 89 3840 ≡ 5
  ready_other : (line_number 3 89 true 113 3840 ≡ 4) × (line_number 3 89 true 652 3840 ≡ 4)
  ready_unmonitored : (line_number 3 89 true 90 3840 ≡ 0) × (line_number 3 89 true 653 3840 ≡ 0)
  -- 2 before 3 before 4
  order : (line_number 3 89 false 0 3839 ≡ 2) × (line_number 3 89 false 0 3840 ≡ 3) × (line_number 3 89 false 1126 3840 ≡ 3) × (line_number 3 89 false 113 3840 ≡ 4)

examples : Examples
unfolding difference is_brighter is_darker count_of brighter_in darker_in fingerprint_of compared joined fields field_tells line_tells next_field next_line among interlaced monitored due_line order_number line_number table named row_of
examples = record {
  not_ended = refl;
  second_field = refl;
  third_field = refl;
  both_ways = refl;
  preceding_field = refl;
  field_2_due = refl;
  field_1_due = refl;
  second_line_due = refl;
  ready_first = refl;
  ready_other = (refl, refl);
  ready_unmonitored = (refl, refl);
  order = (refl, refl, refl, refl);
}
