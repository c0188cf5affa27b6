-- The records of a classic capture file. A record is a head of 16 octets (seconds, fraction,
-- captured length and original length, 32 bits each), and the captured octets.
use Rattle.std.specs.Prelude.{ℕ, ◌+◌, ◌*◌, ◌≤◌, List, length, take, drop}
use Rattle.ioam_base.specs.Leads.{Leads}
use Rattle.ioam_pcap.specs.declared.form.Fraction.{Fraction}
use Rattle.ioam_pcap.specs.declared.form.Fraction.TheVariants.{Micro, Nano}
use Rattle.ioam_pcap.specs.declared.form.Form.{Form}
use Rattle.ioam_ip.specs.declared.layer.Layer.{Layer}
use Rattle.ioam_pcap.specs.Form.{number_at}

-- what a record says: nanoseconds, the octets that the packet had, and those that were captured
pub record Entry : Type 0 where
  pub time : ℕ
  pub original : ℕ
  pub octets : List ℕ

-- a record that was taken of a capture, and the layer that its octets begin at
pub record Taken : Type 0 where
  pub link : Layer
  pub entry : Entry

-- the most octets that a record may have
abbrev pub most : ℕ
most = 262144

-- it has no more
abbrev pub IsShort : Entry → Type 0
IsShort entry = length entry.octets ≤ most

-- the nanoseconds in one of a fraction
abbrev pub nanoseconds : Fraction → ℕ
nanoseconds Micro = 1000
nanoseconds Nano = 1

module _ (form : Form) (octets : List ℕ) where
  -- the captured length of the record at a place
  abbrev pub captured : ℕ → ℕ
  captured at = number_at form.order octets (at + 8)

  -- a whole record stands at a place
  abbrev pub IsWhole : ℕ → Type 0
  IsWhole at = (captured at ≤ most) × (at + 16 + captured at ≤ length octets)

  -- which one; its fraction is not bounded
  abbrev pub entry_at : ℕ → Entry
  entry_at at = record {
    time = number_at form.order octets at * 1000000000 + number_at form.order octets (at + 4) * nanoseconds form.fraction;
    original = number_at form.order octets (at + 12);
    octets = take (captured at) (drop (at + 16) octets);
  }

  -- the place behind it
  abbrev pub behind : ℕ → ℕ
  behind at = at + 16 + captured at

  -- exactly these records stand one behind the other, from a place up to another
  abbrev pub Entries : ℕ → List Entry → ℕ → Type 0
  Entries = Leads IsWhole entry_at behind
