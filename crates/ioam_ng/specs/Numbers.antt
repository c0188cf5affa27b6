-- The numbers of a block, in the order of octets of its section.
use Rattle.std.specs.Prelude.{ℕ, ◌+◌, ◌*◌, List, Option, Some, None, slice_index, ◌==◌, if◌then◌else◌}
use Rattle.ioam_base.specs.Octets.{u16_at}
use Rattle.ioam_pcap.specs.Form.{number_at}
use Rattle.ioam_pcap.specs.declared.form.Order.{Order}
use Rattle.ioam_pcap.specs.declared.form.Order.TheVariants.{Big, Little}

-- the 16-bit number at a place; past the end an octet reads 0
abbrev pub short_at : Order → List ℕ → ℕ → ℕ
short_at Big octets at = u16_at octets at
short_at Little octets at = slice_index octets at + slice_index octets (at + 1) * 256

-- the 64-bit number at a place
abbrev pub long_at : Order → List ℕ → ℕ → ℕ
long_at Big octets at = number_at Big octets at * 4294967296 + number_at Big octets (at + 4)
long_at Little octets at = number_at Little octets at + number_at Little octets (at + 4) * 4294967296

-- the order that a section block's third number, read big-endian, says
abbrev pub order_said : ℕ → Option Order
order_said number = if number == 0x1a2b3c4d then Some Big else if number == 0x4d3c2b1a then Some Little else None
