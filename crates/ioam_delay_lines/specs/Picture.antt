-- The picture of delays: rows of buckets, as many in each, with the number of delays in them.
use Rattle.std.specs.Prelude.{ℕ, zero, suc, ◌+◌, ◌-◌, ◌*◌, ◌/◌, ◌==◌, max, min, nat_le, not, Bool, false, if◌then◌else◌, List, [], ◌++◌, codes, decimal, length, replicate, slice_range}
use Rattle.std.specs.List.{sum}
use Rattle.ioam_delays.specs.Buckets.{low}
use Rattle.ioam_delays.specs.declared.counter.Counter.{Counter}
use Rattle.ioam_delay_lines.specs.declared.picture.Drawn.{Drawn}
use Rattle.ioam_delay_lines.specs.Units.{padded, time_text}

-- how many delays are in a row
abbrev pub row_count : Counter → ℕ → ℕ → ℕ
row_count counter width row = sum (slice_range counter.buckets.items (row * width) ((row + 1) * width))

-- with one row more: one with delays has a line, and so have those without any before it, unless none with some is before them
abbrev pub drawn_more : Drawn → ℕ → Drawn
drawn_more drawn count =
    if count == 0 then record { lines = drawn.lines; gap = not (drawn.lines == 0) }
    else record { lines = drawn.lines + (if drawn.gap then 2 else 1); gap = false }

-- the first rows
abbrev pub drawn_to : Counter → ℕ → ℕ → Drawn
drawn_to counter width zero = record { lines = 0; gap = false }
drawn_to counter width (suc row) = drawn_more (drawn_to counter width row) (row_count counter width row)

-- how many buckets a row has, at least so many: no more than 16 lines are drawn with them
unfoldable pub width_from : Counter → ℕ → ℕ → ℕ
width_from counter zero width = width
width_from counter (suc left) width =
    if nat_le (drawn_to counter width (4096 / width)).lines 16 then width else width_from counter left (2 * width)

unfoldable pub width_of : Counter → ℕ
width_of counter = width_from counter 8 1

-- the most delays in one of the first rows
abbrev pub most_to : Counter → ℕ → ℕ → ℕ
most_to counter width zero = 0
most_to counter width (suc row) = max (most_to counter width row) (row_count counter width row)

-- the marks of a row, a part of them as a whole one, where the row with most has 40
abbrev pub bar_size : ℕ → ℕ → ℕ
bar_size most count = min 40 ((40 * count + (most - 1)) / max 1 most)

-- a count, filled to the width of the greatest
abbrev pub count_text : ℕ → ℕ → List ℕ
count_text most count = padded (length (decimal most)) (decimal count)

-- the least delay of a bucket
abbrev pub bound_text : ℕ → List ℕ
bound_text bucket = padded 7 (time_text (low bucket))

-- from which delay on a row is, and up to which
unfoldable pub bounds_text : ℕ → ℕ → List ℕ
bounds_text width row = codes "      " ++ bound_text (row * width) ++ codes " to " ++ bound_text ((row + 1) * width)

-- how many delays are in it
unfoldable pub bar_text : ℕ → ℕ → List ℕ
bar_text most count = codes " " ++ count_text most count ++ codes " " ++ replicate (bar_size most count) 35 ++ codes "\n"

-- the line that stands for rows without a delay
abbrev pub gap_line : Bool → List ℕ
gap_line gap = if gap then codes "      ...\n" else []

-- the line of a row with delays, behind that of rows without
abbrev pub row_text : ℕ → ℕ → Bool → ℕ → ℕ → List ℕ
row_text width most gap row count = gap_line gap ++ bounds_text width row ++ bar_text most count

-- the line of a row, if it has delays
abbrev pub lines_text : ℕ → ℕ → Bool → ℕ → ℕ → List ℕ
lines_text width most gap row count = if count == 0 then [] else row_text width most gap row count

-- those of the first rows
abbrev pub drawn_text : Counter → ℕ → ℕ → ℕ → List ℕ
drawn_text counter width most zero = []
drawn_text counter width most (suc row) =
    drawn_text counter width most row ++ lines_text width most (drawn_to counter width row).gap row (row_count counter width row)

-- the picture with rows of so many buckets
abbrev pub picture_by : Counter → ℕ → List ℕ
picture_by counter width = drawn_text counter width (most_to counter width (4096 / width)) (4096 / width)

abbrev pub picture_text : Counter → List ℕ
picture_text counter = picture_by counter (width_of counter)
