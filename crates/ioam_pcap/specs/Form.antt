-- The head of a classic capture file, 24 octets: a magic number, a version (two 16-bit numbers),
-- and four 32-bit numbers, of which the last is the link type. The version and the three other
-- numbers are not tested.
use Rattle.std.specs.Prelude.{◌≡◌, ◌≢◌, ℕ, ◌+◌, ◌*◌, ◌≤◌, List, length, slice_index}
use Rattle.ioam_base.specs.Octets.{u32_at}
use Rattle.ioam_pcap.specs.Link.{IsLinkType}
use Rattle.ioam_pcap.specs.declared.form.Order.{Order}
use Rattle.ioam_pcap.specs.declared.form.Order.TheVariants.{Big, Little}
use Rattle.ioam_pcap.specs.declared.form.Fraction.{Fraction}
use Rattle.ioam_pcap.specs.declared.form.Fraction.TheVariants.{Micro, Nano}
use Rattle.ioam_pcap.specs.declared.form.Form.{Form}

-- the 32-bit number at a place; past the end an octet reads 0
abbrev pub number_at : Order → List ℕ → ℕ → ℕ
number_at Big octets at = u32_at octets at
number_at Little octets at = slice_index octets at + slice_index octets (at + 1) * 256
    + slice_index octets (at + 2) * 65536 + slice_index octets (at + 3) * 16777216

-- the first four octets of a capture, read big-endian
abbrev pub spelling : Order → Fraction → ℕ
spelling Big Micro = 0xa1b2c3d4
spelling Big Nano = 0xa1b23c4d
spelling Little Micro = 0xd4c3b2a1
spelling Little Nano = 0x4d3cb2a1

-- none of these four
abbrev pub IsUnspelled : ℕ → Type 0
IsUnspelled magic = (magic ≢ 0xa1b2c3d4) × (magic ≢ 0xa1b23c4d) × (magic ≢ 0xd4c3b2a1) × (magic ≢ 0x4d3cb2a1)

-- these octets begin with a head of this form
abbrev pub HasHead : List ℕ → Form → Type 0
HasHead octets form = (24 ≤ length octets) × (u32_at octets 0 ≡ spelling form.order form.fraction)
    × IsLinkType (number_at form.order octets 20) form.link
