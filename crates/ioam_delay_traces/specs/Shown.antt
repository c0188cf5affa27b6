-- What is counted of the traces of packets.
use Rattle.std.specs.Prelude.{ℕ, ◌<◌, ◌^◌, List, ◌++◌, length, map, drop, slice_index, Option}
use Rattle.ioam_delay_counts.specs.Counted.{weight}
use Rattle.ioam_delay_counts.specs.Courses.{Course}
use Rattle.ioam_delay_traces.specs.Totals.{AreTotals, courses_of}
use Rattle.ioam_delay_traces.specs.Traces.{course_of}
use Rattle.ioam_delay_traces.specs.declared.totals.Totals.{Totals}
use Rattle.ioam_ip.specs.Options.{Item}
use Rattle.ioam_report_lines.specs.TracesText.{traces_of}

-- the Hop Limit of a packet (RFC 8200 section 3)
abbrev pub limit_of : List ℕ → ℕ
limit_of packet = slice_index packet 7

-- the trace of an option in a packet of this hop limit, if it is one
abbrev pub option_course : ℕ → ℕ → Item → Option Course
option_course units limit item = course_of units limit (drop 2 item.body)

-- the traces of a packet, where fractions are in units of 1/units seconds
abbrev pub shown_of : ℕ → List ℕ → List (Option Course)
shown_of units packet = map (option_course units (limit_of packet)) (traces_of packet)

-- there are few enough traces and elements to be counted
pub record IsLight (seen : List (Option Course)) : Type 0 where
  pub elements : weight (courses_of seen) < 2 ^ 48
  pub traces : length seen < 2 ^ 48

-- these are counted besides those that were counted before
abbrev pub Grows : List (Option Course) → Totals → Totals → Type 0
Grows more old new = (seen : List (Option Course)) → IsLight (seen ++ more) → AreTotals seen old → AreTotals (seen ++ more) new
