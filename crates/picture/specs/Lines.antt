-- Which lines are monitored, which one is due, and the refusals of Line (01, "Video" and "What a caller is told").
use Rattle.std.specs.Prelude.{ℕ, zero, suc, ◌+◌, ◌*◌, Bool, false, cond, ◌&&◌, ◌||◌, not, ltb, leb, eqb}
use Rattle.sampling.specs.declared.Row.{Row}
use Rattle.sampling.specs.Formats.{row_of}
use Rattle.laws.specs.Calls.{unless}

-- whether n is one of the k lines from first on, step apart
unfoldable pub among : ℕ → ℕ → ℕ → ℕ → Bool
among first step zero n = false
among first step (suc k) n = eqb n (first + step * k) || among first step k n

-- a frame has two fields where the table has a VStart f2
unfoldable pub interlaced : Row → Bool
interlaced r = not (eqb r.vstart2 0)

-- "A field (or progressive frame) has 16 monitored lines"
unfoldable pub monitored : Row → ℕ → Bool
monitored r n = among r.vstart1 r.vstep 16 n || (interlaced r && among r.vstart2 r.vstep 16 n)

-- whether line n of a format is monitored; none is of a format that is not listed
unfoldable pub is_monitored : ℕ → ℕ → Bool
is_monitored f n = ltb f 8 && monitored (row_of f) n

-- the line of row `row`, counted from 0, of field 1 or 2: "Monitored lines come top to bottom"
unfoldable pub due_line : Row → ℕ → ℕ → ℕ
due_line r field row = cond (eqb field 1) r.vstart1 r.vstart2 + r.vstep * row

-- "4 monitored but not the line expected; 5 first line of a frame while one is ready": a frame's first line is the first of its field 1
unfoldable pub order_number : Row → ℕ → Bool → ℕ → ℕ
order_number r due ready n = cond (monitored r n && not (eqb n due)) 4 (cond (ready && eqb n r.vstart1) 5 0)

-- "2 length not 2 x width; 3 line not 1 to Lines; 4 ..; 5 .."
unfoldable pub line_number : ℕ → ℕ → Bool → ℕ → ℕ → ℕ
line_number f due ready n len =
    unless (eqb len (2 * (row_of f).width)) 2
    (unless (leb 1 n && leb n (row_of f).lines) 3
    (order_number (row_of f) due ready n))

-- the same on a picture's own numbers, with 1 first for a format that is not listed and for a row that no run makes
unfoldable pub judged_number : ℕ → ℕ → ℕ → Bool → ℕ → ℕ → ℕ
judged_number f field row ready n len =
    unless (ltb f 8) 1
    (unless (ltb row 16) 1
    (line_number f (due_line (row_of f) field row) ready n len))
