-- The 60 bytes of a line (01, "Video"), and the call that hands them out (01, "What a caller is told").
use Rattle.std.specs.Prelude.{ℕ, zero, suc, ◌+◌, ◌-◌, ◌*◌, ◌/◌, ◌%◌, List, [], ◌∷◌, ◌++◌, ltb, eqb, length, get_or}
use Rattle.laws.specs.declared.Done.{Done}
use Rattle.laws.specs.Calls.{unless, room_number, done_with, out_with}
use Rattle.sampling.specs.declared.Row.{Row}
use Rattle.sampling.specs.Formats.{row_of}

-- sample s of a line: "two bytes per sample, low byte first; bits 15 to 10 are ignored. A sample counts as its bits 9 to 2"
unfoldable pub sample_at : List ℕ → ℕ → ℕ
sample_at line s = (get_or line (2 * s) 0 + 256 * get_or line (2 * s + 1) 0) / 4 % 256

-- the sum of the n samples from s on
unfoldable pub tap_sum : List ℕ → ℕ → ℕ → ℕ
tap_sum line s zero = 0
tap_sum line s (suc n) = tap_sum line s n + sample_at line (s + n)

-- "the floor of the mean" of the n samples from s on, "worked on those 8-bit values"
unfoldable pub mean_of : List ℕ → ℕ → ℕ → ℕ
mean_of line s n = tap_sum line s n / n

-- pixel k, the pixels standing step apart from start on: the mean of n taps, the first of which is the given number of samples before the pixel
unfoldable pub pixel_by : List ℕ → ℕ → ℕ → ℕ → ℕ → ℕ → ℕ
pixel_by line start step before n k = mean_of line (start + step * k - before) n

-- the first n values of f
unfoldable pub firsts : {A : Type 0} → (ℕ → A) → ℕ → List A
firsts f zero = []
firsts f (suc n) = firsts f n ++ (f n ∷ [])

-- the 60 pixels of a line of a format
unfoldable pub pixels : Row → List ℕ → List ℕ
pixels r line = firsts (pixel_by line r.hstart r.hstep r.before (r.before + 1 + r.after)) 60

-- all but 12: "1 (format only), 2" length not 2 x width
unfoldable pub sample_number : ℕ → List ℕ → ℕ
sample_number f line = unless (ltb f 8) 1 (unless (eqb (length line) (2 * (row_of f).width)) 2 0)

-- what the caller is told, and the room lent for the 60 bytes afterwards
unfoldable pub sample_done : ℕ → List ℕ → List ℕ → Done
sample_done f line out = done_with (room_number (sample_number f line) (pixels (row_of f) line) (length out)) (pixels (row_of f) line)

unfoldable pub sample_out : ℕ → List ℕ → List ℕ → List ℕ
sample_out f line out = out_with (room_number (sample_number f line) (pixels (row_of f) line) (length out)) (pixels (row_of f) line) out
