-- What a node knows of a packet that it visits (RFC 9197 section 4.4.2).
use Rattle.std.specs.Prelude.{◌≡◌, ℕ, Bool, ◌||◌, Option, Some, None, List, option_map, option_and_then, slice_get}
use Rattle.ioam_clock.specs.declared.sample.Sample.{Sample}
use Rattle.ioam_clock.specs.Reading.{samples_of}
use Rattle.ioam_clock.specs.Samples.{sample_at, clock_at}
use Rattle.ioam_clock.specs.Stamp.{stamp}
use Rattle.ioam_data.specs.Kind.{has}
use Rattle.ioam_data.specs.View.{Seen}
use Rattle.ioam_data.specs.Written.{element_of, element_words}
use Rattle.ioam_node.specs.declared.place.Place.{Place}
use Rattle.ioam_topo.specs.declared.domain.Domain.{Domain}
use Rattle.ioam_topo.specs.declared.parts.Node.{Node}
use Rattle.ioam_topo.specs.declared.parts.NodeData.{NodeData}
use Rattle.ioam_topo.specs.Domain.{nodes, node_data}
use Rattle.ioam_topo.specs.Finding.{data_at}

-- the id of a node
abbrev pub id_of : Option Node → ℕ
id_of None = 0
id_of (Some node) = node.id

-- a schema and its snapshot
abbrev pub both : Option ℕ → Option (List ℕ) → Option (ℕ × List ℕ)
both None snapshot = None
both (Some schema) None = None
both (Some schema) (Some octets) = Some (schema, octets)

-- the opaque state snapshot of a node's data
abbrev pub snapshot_in : Option NodeData → Option (ℕ × List ℕ)
snapshot_in None = None
snapshot_in (Some row) = both row.schema row.snapshot

-- what the node at a place knows at a time, of a packet that is sent on with this hop limit and of a namespace
unfoldable pub view_of : Domain → List (List Sample) → Place → ℕ → ℕ → ℕ → Seen
view_of domain readings place time hops space = record {
  hops = hops;
  id = id_of (slice_get (nodes domain) place.node.0);
  inward = Some place.inward;
  outward = place.outward;
  stamp = option_map (stamp domain.format) (clock_at (samples_of readings place.node.0) time);
  delay = option_and_then (λ sample. sample.delay) (sample_at (samples_of readings place.node.0) time);
  queue = option_and_then (λ sample. sample.queue) (sample_at (samples_of readings place.node.0) time);
  buffer = option_and_then (λ sample. sample.buffer) (sample_at (samples_of readings place.node.0) time);
  short = option_and_then (λ row. row.short) (data_at (node_data domain) place.node.0 space);
  wide = option_and_then (λ row. row.wide) (data_at (node_data domain) place.node.0 space);
  snapshot = snapshot_in (data_at (node_data domain) place.node.0 space);
}

-- a type asks for what a node reads at a time: the seconds or the fraction of its clock, the transit delay, the queue
-- depth or the buffer occupancy
abbrev pub asks_reading : ℕ → Bool
asks_reading kind = has kind 2 || (has kind 3 || (has kind 4 || (has kind 6 || has kind 11)))

-- a type asks for what a node's data say: namespace data of 32 bits or of 64, or the opaque state snapshot
abbrev pub asks_data : ℕ → Bool
asks_data kind = has kind 5 || (has kind 10 || has kind 22)

-- two views of which a node writes the same element under a type, whatever NodeLen is
pub record AreAlike (kind : ℕ) (one other : Seen) : Type 0 where
  pub element : (node_len : ℕ) → element_of kind node_len one ≡ element_of kind node_len other
  pub words : (node_len : ℕ) → element_words kind node_len one ≡ element_words kind node_len other
