-- What is counted of the items of a key.
use Rattle.std.specs.Prelude.{◌≡◌, ℤ, pos, Bool, true, false, List, [], length, Option, Some, None}
use Rattle.std.specs.List.{count_by, filter_map}
use Rattle.ioam_delays.specs.Counters.{Counts}
use Rattle.ioam_delays.specs.declared.counter.Counter.{Counter}
use Rattle.ioam_delays.specs.declared.sight.Sight.{Sight}
use Rattle.ioam_delays.specs.declared.sight.Stamp.{Stamp}
use Rattle.ioam_delays.specs.declared.sight.Stamp.TheVariants as stamp
use Rattle.ioam_delays.specs.declared.sight.Transit.{Transit}
use Rattle.ioam_delays.specs.declared.sight.Transit.TheVariants as transit
use Rattle.ioam_delay_counts.specs.declared.filled.Fill.{Fill}
use Rattle.ioam_delay_counts.specs.declared.filled.Filled.{Filled}
use Rattle.ioam_delay_counts.specs.declared.passed.Passed.{Passed}
use Rattle.ioam_delay_counts.specs.declared.seen.Seen.{Seen}

-- delays are counted; where there are none there is no counter
abbrev pub CountsAll : List ℤ → Option Counter → Type 0
CountsAll delays None = delays ≡ []
CountsAll delays (Some counter) = Counts delays counter

-- those that are there
abbrev pub somes : List (Option ℤ) → List ℤ
somes items = filter_map (λ (item : Option ℤ). item) items

-- how many passed, and their delays
pub record CountsPassed (items : List (Option ℤ)) (passed : Passed) : Type 0 where
  pub count_is : passed.count ≡ length items
  pub delays_are : CountsAll (somes items) passed.delays

-- whether a time stamp is a time
abbrev pub is_time : Stamp → Bool
is_time stamp.Absent = false
is_time stamp.Bad = false
is_time (stamp.Second at) = true
is_time (stamp.Time at) = true

-- whether it is of another format
abbrev pub is_bad : Stamp → Bool
is_bad stamp.Absent = false
is_bad stamp.Bad = true
is_bad (stamp.Second at) = false
is_bad (stamp.Time at) = false

-- whether a transit delay doesn't fit
abbrev pub is_long : Transit → Bool
is_long transit.Absent = false
is_long transit.Long = true
is_long (transit.Takes delay) = false

-- the transit delay, if it is known
abbrev pub taken_of : Transit → Option ℤ
taken_of transit.Absent = None
taken_of transit.Long = None
taken_of (transit.Takes delay) = Some (pos delay)

-- how many elements a node wrote, how many with a time stamp, with one of another format, with a transit delay that doesn't fit, and the transit delays
pub record CountsSeen (sights : List Sight) (seen : Seen) : Type 0 where
  pub count_is : seen.count ≡ length sights
  pub stamped_is : seen.stamped ≡ count_by (λ (s : Sight). is_time s.stamp) sights
  pub bad_is : seen.bad ≡ count_by (λ (s : Sight). is_bad s.stamp) sights
  pub long_is : seen.long ≡ count_by (λ (s : Sight). is_long s.transit) sights
  pub delays_are : CountsAll (filter_map (λ (s : Sight). taken_of s.transit) sights) seen.delays

-- how many traces there are, with Overflow, and without elements
pub record CountsFilled (fills : List Fill) (filled : Filled) : Type 0 where
  pub count_is : filled.count ≡ length fills
  pub overflow_is : filled.overflow ≡ count_by (λ (f : Fill). f.overflow) fills
  pub empty_is : filled.empty ≡ count_by (λ (f : Fill). f.empty) fills
