-- Whether a sample is in force at a time, by the one at its place and the next.
use Rattle.std.specs.Prelude.{ℕ, ◌+◌, Bool, true, false, nat_lt, nat_le, ◌&&◌, List, slice_get}
use Rattle.std.specs.Option.{option_map_or}
use Rattle.ioam_clock.specs.declared.sample.Sample.{Sample}

-- whether the sample at a place isn't after a time, and the next is, where there is one
abbrev pub is_in_force : List Sample → ℕ → ℕ → Bool
is_in_force samples time at = option_map_or (λ sample. nat_le sample.time time) (slice_get samples at) false
    && option_map_or (λ sample. nat_lt time sample.time) (slice_get samples (at + 1)) true
