-- The lines of hops, each with its share of all delays of its namespace.
use Rattle.std.specs.Prelude.{ℕ, ◌+◌, ◌-◌, ◌^◌, ◌==◌, min, int_lt, pos, unsigned_abs, if◌then◌else◌, List, [], ◌++◌, codes, decimal, Option, Some, None}
use Rattle.std.specs.List.{fold}
use Rattle.ioam_delays.specs.declared.counter.Counter.{Counter}
use Rattle.ioam_delay_counts.specs.declared.table.Row.{Row}
use Rattle.ioam_delay_counts.specs.declared.keys.HopKey.{HopKey}
use Rattle.ioam_delay_counts.specs.declared.passed.Passed.{Passed}
use Rattle.ioam_delay_lines.specs.Picture.{picture_text}
use Rattle.ioam_delay_lines.specs.Rows.{delays_text}
use Rattle.ioam_delay_lines.specs.Shares.{share_text}
use Rattle.ioam_delay_lines.specs.Words.{gap_text, node_text}

-- what the delays of a hop add up to; below 0 it is 2^116, of which no share is written
abbrev pub counter_part : Counter → ℕ
counter_part counter = if int_lt counter.sum (pos 0) then 2 ^ 116 else unsigned_abs counter.sum

abbrev pub hop_part : Option Counter → ℕ
hop_part None = 0
hop_part (Some counter) = counter_part counter

-- the same of all hops of a namespace, up to 2^128 - 1
abbrev pub whole_more : ℕ → ℕ → Row HopKey Passed → ℕ
whole_more namespace whole row =
    if row.key.namespace == namespace then min (2 ^ 128 - 1) (whole + hop_part row.tally.delays) else whole

abbrev pub whole_of : ℕ → List (Row HopKey Passed) → ℕ
whole_of namespace rows = fold (whole_more namespace) 0 rows

-- the share of a hop, if it has delays
abbrev pub hop_share : ℕ → Option Counter → List ℕ
hop_share whole None = codes "-"
hop_share whole (Some counter) = share_text (counter_part counter) whole

-- the picture, if there are delays
abbrev pub drawing_text : Option Counter → List ℕ
drawing_text None = []
drawing_text (Some counter) = picture_text counter

-- the nodes of a hop
abbrev pub hop_text : HopKey → List ℕ
hop_text key = codes "  hop " ++ node_text key.from ++ codes " " ++ node_text key.to ++ codes " past " ++ gap_text key.past

-- the line of a hop
abbrev pub hop_row : ℕ → HopKey → Passed → List ℕ
hop_row whole key passed = hop_text key ++ codes " count " ++ decimal passed.count ++ codes " share " ++ hop_share whole passed.delays ++ delays_text passed.delays
