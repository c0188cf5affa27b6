-- Edge-to-edge data as C sees it.
use Rattle.std.specs.Prelude.{◌≡◌, ◌⊎◌, ℕ, List, Ok, Err}
use Rattle.ioam_edge.specs.Edge.{IsEdge, Reads}
use Rattle.ioam_edge.specs.declared.edge.Edge.{Edge}
use Rattle.ioam_edge.specs.declared.edge.EdgeFault.{EdgeFault}
use Rattle.ioam_c.specs.Part.{flag, number}
use Rattle.ioam_c.specs.Status.{ok, too_short}
use Rattle.ioam_c.specs.declared.edge.IoamEdge.{IoamEdge}

-- the value, each field with a flag that it is there
abbrev pub edge_of : Edge → IoamEdge
edge_of edge = record {
  seq64 = number edge.seq64;
  seq32 = number edge.seq32;
  seconds = number edge.seconds;
  fraction = number edge.fraction;
  namespace = edge.namespace.0;
  kind = edge.kind;
  has_seq64 = flag edge.seq64;
  has_seq32 = flag edge.seq32;
  has_seconds = flag edge.seconds;
  has_fraction = flag edge.fraction;
}

-- the octets begin with a value, which is given; or they are too few, and nothing is
abbrev pub ReadsEdge : List ℕ → IoamEdge → IoamEdge → ℕ → Type 0
ReadsEdge octets old new status =
    ((edge : Edge) × IsEdge edge × Reads octets (Ok edge) × ((status ≡ ok) × (new ≡ edge_of edge)))
    ⊎ ((fault : EdgeFault) × Reads octets (Err fault) × ((status ≡ too_short) × (new ≡ old)))
