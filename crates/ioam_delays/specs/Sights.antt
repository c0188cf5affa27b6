-- What an element says of times and of the way (RFC 9197 sections 4.4.2 and 5).
use Rattle.std.specs.Prelude.{ℕ, ◌+◌, ◌-◌, ◌*◌, ◌^◌, ◌==◌, nat_le, nat_lt, if◌then◌else◌, ℤ, Option, Some, None}
use Rattle.ioam_data.specs.Fields.{Held}
use Rattle.ioam_delays.specs.Times.{delay_of, part_of}
use Rattle.ioam_delays.specs.declared.sight.Gap.{Gap}
use Rattle.ioam_delays.specs.declared.sight.Gap.TheVariants as gap
use Rattle.ioam_delays.specs.declared.sight.Node.{Node}
use Rattle.ioam_delays.specs.declared.sight.Node.TheVariants as node
use Rattle.ioam_delays.specs.declared.sight.Sight.{Sight}
use Rattle.ioam_delays.specs.declared.sight.Stamp.{Stamp}
use Rattle.ioam_delays.specs.declared.sight.Stamp.TheVariants as stamp
use Rattle.ioam_delays.specs.declared.sight.Transit.{Transit}
use Rattle.ioam_delays.specs.declared.sight.Transit.TheVariants as transit

-- an id of 24 bits that isn't all ones
abbrev pub narrow_node : Option (ℕ × ℕ) → Node
narrow_node None = node.Unknown
narrow_node (Some (hops, id)) = if id == 2 ^ 24 - 1 then node.Unknown else node.Id id

-- the id of 56 bits where it isn't all ones, else that of 24 bits
abbrev pub node_of : Option (ℕ × ℕ) → Option (ℕ × ℕ) → Node
node_of None narrow = narrow_node narrow
node_of (Some (hops, id)) narrow = if id == 2 ^ 56 - 1 then narrow_node narrow else node.Id id

-- the hop limit beside the id of 56 bits, else beside that of 24 bits
abbrev pub hops_of : Option (ℕ × ℕ) → Option (ℕ × ℕ) → Option ℕ
hops_of (Some (hops, id)) narrow = Some hops
hops_of None (Some (hops, id)) = Some hops
hops_of None None = None

-- a fraction that isn't all ones
abbrev pub fraction_of : Option ℕ → Option ℕ
fraction_of None = None
fraction_of (Some fraction) = if fraction == 2 ^ 32 - 1 then None else Some fraction

-- the time of seconds, if there are any, and the nanoseconds of a fraction
abbrev pub time_of : Option ℕ → ℕ → Stamp
time_of None part = stamp.Second part
time_of (Some seconds) part = if seconds == 2 ^ 32 - 1 then stamp.Absent else stamp.Time (seconds * 10 ^ 9 + part)

-- a time stamp; a fraction of as many units as a second has, or more, is of another format
abbrev pub stamp_of : ℕ → Option ℕ → Option ℕ → Stamp
stamp_of units seconds None = stamp.Absent
stamp_of units seconds (Some fraction) = if nat_lt fraction units then time_of seconds (part_of units fraction) else stamp.Bad

-- a transit delay; 2^31 or more is one that doesn't fit
abbrev pub transit_of : Option ℕ → Transit
transit_of None = transit.Absent
transit_of (Some delay) =
    if delay == 2 ^ 32 - 1 then transit.Absent else (if nat_lt delay (2 ^ 31) then transit.Takes delay else transit.Long)

-- what an element says, whose fractions are in units of 1/units seconds
abbrev pub sight_of : ℕ → Held → Sight
sight_of units held = record {
  node = node_of held.wide_hop_node held.hop_node;
  hops = hops_of held.wide_hop_node held.hop_node;
  fraction = fraction_of held.fraction;
  stamp = stamp_of units held.seconds (fraction_of held.fraction);
  transit = transit_of held.delay;
}

-- the delay from one time stamp to another
abbrev pub between : Stamp → Stamp → Option ℤ
between (stamp.Second from) (stamp.Second to) = Some (delay_of (10 ^ 9) from to)
between (stamp.Time from) (stamp.Time to) = Some (delay_of (2 ^ 32 * 10 ^ 9) from to)
between from to = None

-- how many nodes are between two, by their hop limits
abbrev pub gap_of : Option ℕ → Option ℕ → Gap
gap_of (Some from) (Some to) = if nat_lt to from then gap.Nodes (from - to - 1) else gap.Unknown
gap_of from to = gap.Nodes 0

-- how many are after the last, by its hop limit and the packet's
abbrev pub tail_of : Option ℕ → ℕ → Gap
tail_of (Some last) packet = if nat_le packet last then gap.Nodes (last - packet) else gap.Unknown
tail_of None packet = gap.Nodes 0
