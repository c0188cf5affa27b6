-- What `delays` writes.
use Rattle.std.specs.Prelude.{◌≡◌, ℕ, Bool, true, false, List, [], ◌∷◌, ◌++◌, length, Option, Some, None}
use Rattle.std.specs.List.{count_by, flat_map}
use Rattle.ioam_delay_counts.specs.Courses.{Course}
use Rattle.ioam_delay_lines.specs.Closing.{beyond_row, format_row, packets_row, traces_row}
use Rattle.ioam_delay_lines.specs.Spaces.{spaces_text}
use Rattle.ioam_delay_traces.specs.Totals.{AreTotals}
use Rattle.ioam_delay_traces.specs.declared.totals.Totals.{Totals}
use Rattle.ioam_pcap.specs.Entries.{Taken}
use Rattle.ioam_run_delays.specs.Format.{units_of}
use Rattle.ioam_run_delays.specs.Observation.{Observation, ShowAll}
use Rattle.ioam_topo.specs.declared.format.Format.{Format}
use Rattle.ioam_words.specs.Formats.{format_name}

-- the traces that a record shows
abbrev pub traces_of : Observation → List (Option Course)
traces_of None = []
traces_of (Some seen) = seen

-- those of all records, in order
abbrev pub traces_in : List Observation → List (Option Course)
traces_in seen = flat_map traces_of seen

-- whether a record is skipped
abbrev pub is_skipped : Observation → Bool
is_skipped None = true
is_skipped (Some seen) = false

-- the lines of the namespaces, between the first line and the last ones
unfoldable pub totals_text : Totals → List ℕ
totals_text totals =
    spaces_text totals.sums
    ++ beyond_row totals.sums.spaces.others totals.sums.ways.others totals.sums.hops.others totals.sums.nodes.others
    ++ traces_row totals.traces totals.overflow totals.bad

-- the report
abbrev pub report_text : Format → ℕ → ℕ → Totals → List ℕ
report_text format packets skipped totals =
    format_row (format_name format) totals.fractions.count totals.fractions.most ++ totals_text totals ++ packets_row packets skipped

-- this is the report of these records, which show nothing else
pub record Reported (format : Format) (taken : List Taken) (text : List ℕ) : Type 0 where
  pub seen : List Observation
  pub are : ShowAll (units_of format) taken seen
  pub only : (others : List Observation) → ShowAll (units_of format) taken others → others ≡ seen
  -- what is counted of their traces
  pub totals : Totals
  pub totals_are : AreTotals (traces_in seen) totals
  pub text_is : text ≡ report_text format (length seen) (count_by is_skipped seen) totals

-- REPORT
abbrev pub DelaysTexts : Format → List Taken → List (List ℕ) → Type 0
DelaysTexts format taken [] = ⊥
DelaysTexts format taken (text ∷ []) = Reported format taken text
DelaysTexts format taken (text ∷ more ∷ texts) = ⊥
