-- The numbers that an entry node draws for a packet of a flow.
use Rattle.std.specs.Prelude.{ℕ, ◌/◌, ◌%◌, ◌==◌, Bool, true, false, if◌then◌else◌, List, Option, Some, None, option_map}
use Rattle.ioam_clock.specs.declared.sample.Sample.{Sample}
use Rattle.ioam_clock.specs.Reading.{samples_of}
use Rattle.ioam_clock.specs.Samples.{clock_at}
use Rattle.ioam_clock.specs.Stamp.{stamp}
use Rattle.ioam_topo.specs.declared.domain.Domain.{Domain}
use Rattle.ioam_topo.specs.declared.parts.Flow.{Flow}
use Rattle.ioam_tunnel.specs.Limits.{limit_by}
use Rattle.ioam_tunnel.specs.declared.limit.Limit.{Limit}
use Rattle.ioam_tunnel.specs.declared.limit.Limit.TheVariants as limit
use Rattle.ioam_tunnel.specs.declared.numbers.Numbers.{Numbers}

-- the sequence number of a packet's direct export, by its number in its flow: of a flow with direct exports each packet carries one
-- whose number is a multiple of the flow's rate, and these are counted (RFC 9326 section 3.2)
abbrev pub direct_number : Option ℕ → Option ℕ → ℕ → Option ℕ
direct_number None rate number = None
direct_number (Some kind) None number = None
direct_number (Some kind) (Some every) number = if number % every == 0 then Some (number / every) else None

-- the encapsulation limit that the outer packet has
abbrev pub limit_put : Limit → Option ℕ
limit_put limit.None = None
limit_put (limit.Put number) = Some number
limit_put limit.Refused = None

-- whether the packet may not be enclosed
abbrev pub is_refused : Limit → Bool
is_refused limit.None = false
is_refused (limit.Put number) = false
is_refused limit.Refused = true

-- the numbers of a packet that arrives at a time, before which so many were enclosed in its flow, and in which this limit was found;
-- its stamp is what the clock of the flow's entry node reads then
abbrev pub numbers_of : Domain → List (List Sample) → Flow → ℕ → Option ℕ → ℕ → Numbers
numbers_of domain readings flow number found time = record {
  number = number;
  direct = direct_number flow.direct flow.every number;
  limit = limit_put (limit_by found flow.limit);
  stamp = option_map (stamp domain.format) (clock_at (samples_of readings flow.entry.0) time);
}
