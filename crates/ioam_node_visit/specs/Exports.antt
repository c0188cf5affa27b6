-- What a node exports of the direct export options that it meets (RFC 9326 section 3.2): one record for each of a
-- namespace that it knows.
use Rattle.std.specs.Prelude.{ℕ, if◌then◌else◌, List, [], ◌∷◌, drop, Some, Result, Ok, Err}
use Rattle.ioam_clock.specs.declared.sample.Sample.{Sample}
use Rattle.ioam_data.specs.Kind.{without_checksum, words}
use Rattle.ioam_data.specs.Written.{element_of}
use Rattle.ioam_dex.specs.Direct.{read_of}
use Rattle.ioam_dex.specs.Record.{Record}
use Rattle.ioam_dex.specs.declared.direct.Direct.{Direct}
use Rattle.ioam_dex.specs.declared.direct.DirectFault.{DirectFault}
use Rattle.ioam_node.specs.declared.place.Place.{Place}
use Rattle.ioam_topo.specs.declared.domain.Domain.{Domain}
use Rattle.ioam_node_visit.specs.Met.{met_of}
use Rattle.ioam_node_visit.specs.Seeing.{view_of}
use Rattle.ioam_node_visit.specs.Step.{knows}
use Rattle.ioam_node_visit.specs.declared.met.Met.{Met}
use Rattle.ioam_node_visit.specs.declared.met.Met.TheVariants.{Cut, Trace, Direct as Exporting, Other}

-- the type of what is exported: bit 7, the checksum complement, is left out
abbrev pub export_type : ℕ → ℕ
export_type kind = without_checksum kind

-- the record: of version 2, with the packet's time at the node and the interface by which it came, the option's
-- flags and numbers, and what the node at a place knows of the option's namespace at that time, of a packet that is
-- sent on with this hop limit
unfoldable pub record_for : Domain → List (List Sample) → Place → ℕ → ℕ → Direct → Record
record_for domain readings place time hops direct =
    let kind = export_type direct.kind in
    record {
      namespace = direct.namespace.0;
      flags = direct.flags;
      ext = direct.ext;
      kind = kind;
      visit = Some (time, place.inward);
      flow = direct.flow;
      seq = direct.seq;
      element = element_of kind (words kind) (view_of domain readings place time hops direct.namespace.0);
    }

-- those of direct export data, as they are read
abbrev pub direct_records : Domain → List (List Sample) → Place → ℕ → ℕ → Result Direct DirectFault → List Record
direct_records domain readings place time hops (Ok direct) =
    if knows domain place.node.0 direct.namespace.0 then record_for domain readings place time hops direct ∷ [] else []
direct_records domain readings place time hops (Err fault) = []

-- those of an option, by what it is to the node
abbrev pub records_by : Domain → List (List Sample) → Place → ℕ → ℕ → Met → List ℕ → List Record
records_by domain readings place time hops Cut body = []
records_by domain readings place time hops Trace body = []
records_by domain readings place time hops Exporting body = direct_records domain readings place time hops (read_of (drop 2 body))
records_by domain readings place time hops Other body = []

-- the export records that a node makes of an option of this type and data
unfoldable pub records_of : Domain → List (List Sample) → Place → ℕ → ℕ → ℕ → List ℕ → List Record
records_of domain readings place time hops kind body = records_by domain readings place time hops (met_of kind body) body
