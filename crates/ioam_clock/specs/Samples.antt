-- The samples of a node, the oldest first.
use Rattle.std.specs.Prelude.{◌≡◌, ℕ, ◌+◌, ◌-◌, ◌<◌, ◌^◌, Bool, true, false, nat_lt, nat_le, List, length, filter, Option, All, slice_get, option_map, IfSome, slice_index_or}
use Rattle.std.specs.Option.{option_map_or}
use Rattle.std.specs.List.Sorted.{IsPartitionPoint}
use Rattle.ioam_clock.specs.declared.sample.Sample.{Sample}

-- the last of a list
abbrev pub last : {A : Type 0} → List A → Option A
last xs = slice_get xs (length xs - 1)

-- the sample in force at a time: the last whose time isn't after it
abbrev pub sample_at : List Sample → ℕ → Option Sample
sample_at samples time = last (filter (λ sample. nat_le sample.time time) samples)

-- what a clock reads at a time, by the sample in force there: its clock and the time elapsed since
abbrev pub elapsed : ℕ → Sample → ℕ
elapsed time sample = sample.clock + (time - sample.time)

-- what a clock reads at a time, by the samples of its node; nothing before the first of them
abbrev pub clock_at : List Sample → ℕ → Option ℕ
clock_at samples time = option_map (elapsed time) (sample_at samples time)

-- a sample that may stand behind these: its time is after that of the last
abbrev pub follows : List Sample → Sample → Bool
follows samples sample = option_map_or (λ before. nat_lt before.time sample.time) (last samples) true

-- the numbers are in their ranges
pub record IsSmall (sample : Sample) : Type 0 where
  pub time : sample.time < 2 ^ 63
  pub clock : sample.clock < 2 ^ 63
  pub delay : IfSome sample.delay (λ delay. delay < 2 ^ 63)

-- the time of each is before that of any behind it
abbrev pub Rise : List Sample → Type 0
Rise samples = (i j : ℕ) (d : Sample) → i < j → j < length samples → (slice_index_or samples i d).time < (slice_index_or samples j d).time

-- times that rise, and numbers in their ranges
pub record AreSamples (samples : List Sample) : Type 0 where
  pub rising : Rise samples
  pub small : All IsSmall samples

-- so many samples aren't after a time, and the rest is
abbrev pub IsCut : List Sample → ℕ → ℕ → Type 0
IsCut samples time count = IsPartitionPoint (λ sample. nat_le sample.time time ≡ true) (λ sample. nat_le sample.time time ≡ false) samples count
