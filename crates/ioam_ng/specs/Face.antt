-- An interface, and the time of its packets.
use Rattle.std.specs.Prelude.{ℕ, ◌+◌, ◌-◌, ◌*◌, ◌/◌, ◌^◌, List, Bool, ◌&&◌, ◌||◌, nat_lt, nat_le, if◌then◌else◌, Option, Some, None, option_map, unwrap_or}
use Rattle.std.specs.Option.{option_or}
use Rattle.ioam_pcap.specs.declared.form.Order.{Order}
use Rattle.ioam_ng.specs.declared.face.Face.{Face}
use Rattle.ioam_ng.specs.Options.{Item, items_in, resolution_in, offset_in}

-- an interface by its link type, what options say of it so far, and the options behind these; without
-- a resolution its times are in microseconds
abbrev pub face_with : Order → ℕ → Option ℕ → Option ℕ → List Item → Face
face_with order kind resolution offset items = record {
  kind = kind;
  resolution = unwrap_or (option_or resolution (resolution_in order items)) 6;
  offset = unwrap_or (option_or offset (offset_in order items)) 0;
}

-- an interface by its link type and its options
abbrev pub face_of : Order → ℕ → List Item → Face
face_of order kind items = face_with order kind None None items

-- an interface by its link type and the octets of its options; None where an option passes these
abbrev pub face_in : Order → ℕ → List ℕ → Option Face
face_in order kind octets = option_map (face_of order kind) (items_in order octets)

-- a resolution that is read: 10^-r seconds up to 18, from 128 on 2^-(r - 128) seconds up to 2^-63
abbrev pub is_resolved : ℕ → Bool
is_resolved r = nat_le r 18 || (nat_le 128 r && nat_le r 191)

-- the units in a second
abbrev pub unit_count : ℕ → ℕ
unit_count r = if nat_lt r 128 then 10 ^ r else 2 ^ (r - 128)

-- The offset is a signed number of 64 bits: so many seconds are added, or taken off.
abbrev pub added : ℕ → ℕ
added offset = if nat_lt offset 0x8000000000000000 then offset else 0

-- the seconds that an offset takes off: those of a negative one
abbrev pub taken_off : ℕ → ℕ
taken_off offset = if nat_lt offset 0x8000000000000000 then 0 else 0x10000000000000000 - offset

-- nanoseconds before and behind the offset; None where they are negative or at least 2^62
abbrev pub before_offset : Face → ℕ → ℕ
before_offset face units = units * 1000000000 / unit_count face.resolution

-- the nanoseconds between two numbers of them; none where the second is greater, or where they are 2^62 or more
abbrev pub time_between : ℕ → ℕ → Option ℕ
time_between plus minus = if nat_le minus plus && nat_lt (plus - minus) 0x4000000000000000 then Some (plus - minus) else None

-- the time of a packet of an interface in nanoseconds, by its units and with the interface's offset; none where it is out of
-- range
abbrev pub time_of : Face → ℕ → Option ℕ
time_of face units = time_between (before_offset face units + added face.offset * 1000000000) (taken_off face.offset * 1000000000)
