-- What is counted of traces, and of what is no trace.
use Rattle.std.specs.Prelude.{◌≡◌, ℕ, Bool, true, false, max, List, length, Option, Some, None}
use Rattle.std.specs.List.{count_by, filter_map, flat_map, fold}
use Rattle.ioam_delays.specs.declared.sight.Sight.{Sight}
use Rattle.ioam_delay_counts.specs.Counted.{AreCounted}
use Rattle.ioam_delay_counts.specs.Courses.{Course}
use Rattle.ioam_delay_traces.specs.declared.totals.Fractions.{Fractions}
use Rattle.ioam_delay_traces.specs.declared.totals.Totals.{Totals}

-- the traces
abbrev pub courses_of : List (Option Course) → List Course
courses_of seen = filter_map (λ (one : Option Course). one) seen

-- whether something is no trace
abbrev pub is_bad : Option Course → Bool
is_bad (Some course) = false
is_bad None = true

-- the fractions of the time stamps of elements
abbrev pub fractions_in : List Sight → List ℕ
fractions_in sights = filter_map (λ (sight : Sight). sight.fraction) sights

-- how many there are, and the greatest
pub record AreFractions (seen : List ℕ) (fractions : Fractions) : Type 0 where
  pub count_is : fractions.count ≡ length seen
  pub most_is : fractions.most ≡ fold max 0 seen

-- what is counted of these
pub record AreTotals (seen : List (Option Course)) (totals : Totals) : Type 0 where
  pub sums_are : AreCounted (courses_of seen) totals.sums
  pub traces_is : totals.traces ≡ length (courses_of seen)
  pub overflow_is : totals.overflow ≡ count_by (λ (course : Course). course.overflow) (courses_of seen)
  pub bad_is : totals.bad ≡ count_by is_bad seen
  pub fractions_are : AreFractions (flat_map (λ (course : Course). fractions_in course.sights) (courses_of seen)) totals.fractions
