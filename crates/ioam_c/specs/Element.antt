-- An element as C sees it: each field of its own, with a flag that it is there.
use Rattle.std.specs.Prelude.{ℕ, ◌+◌, ◌-◌, ◌*◌, ◌≡◌, List, [], length, take, drop, Option, Some, None}
use Rattle.ioam_data.specs.Fields.{Held, fields_of}
use Rattle.ioam_c.specs.Part.{flag, number, first, second}
use Rattle.ioam_c.specs.declared.element.IoamElement.{IoamElement}

-- the schema of a snapshot, or 0
abbrev pub schema_of : Option (ℕ × List ℕ) → ℕ
schema_of None = 0
schema_of (Some given) = given.0

-- its opaque data, or none
abbrev pub opaque_of : Option (ℕ × List ℕ) → List ℕ
opaque_of None = []
opaque_of (Some given) = given.1

-- an element of `size` octets at `offset`, by what it holds. The words that fill it up to NodeLen precede the snapshot, whose opaque
-- data is last
abbrev pub shown_by : ℕ → ℕ → ℕ → Held → IoamElement
shown_by node_len offset size held = record {
  offset = offset;
  length = size;
  fill = offset + (4 * node_len - length held.filler);
  fill_length = length held.filler;
  opaque = offset + (size - length (opaque_of held.snapshot));
  opaque_length = length (opaque_of held.snapshot);
  wide_node_id = second held.wide_hop_node;
  wide_data = number held.wide;
  node_id = second held.hop_node;
  seconds = number held.seconds;
  fraction = number held.fraction;
  delay = number held.delay;
  short_data = number held.short;
  queue = number held.queue;
  checksum = number held.check;
  wide_ingress = first held.wide_faces;
  wide_egress = second held.wide_faces;
  buffer = number held.buffer;
  schema = schema_of held.snapshot;
  ingress = first held.faces;
  egress = second held.faces;
  hop_limit = first held.hop_node;
  wide_hop_limit = first held.wide_hop_node;
  has_hop_node = flag held.hop_node;
  has_interfaces = flag held.faces;
  has_seconds = flag held.seconds;
  has_fraction = flag held.fraction;
  has_delay = flag held.delay;
  has_short_data = flag held.short;
  has_queue = flag held.queue;
  has_checksum = flag held.check;
  has_wide_hop_node = flag held.wide_hop_node;
  has_wide_interfaces = flag held.wide_faces;
  has_wide_data = flag held.wide;
  has_buffer = flag held.buffer;
  has_snapshot = flag held.snapshot;
}

-- the element of these octets at an offset
abbrev pub shown : ℕ → ℕ → ℕ → List ℕ → IoamElement
shown kind node_len offset octets = shown_by node_len offset (length octets) (fields_of kind node_len octets)

-- at an element's offsets in a trace lie the words that fill it up to NodeLen, and its opaque data
pub record Places (octets : List ℕ) (element : IoamElement) (held : Held) : Type 0 where
  pub fill : take element.fill_length (drop element.fill octets) ≡ held.filler
  pub opaque : take element.opaque_length (drop element.opaque octets) ≡ opaque_of held.snapshot
