-- What a node notes of the IOAM options that it meets.
use Rattle.std.specs.Prelude.{ℕ, Bool, true, false, nat_le, if◌then◌else◌, List, [], ◌∷◌, length, drop, Result, Ok, Err}
use Rattle.ioam_clock.specs.declared.sample.Sample.{Sample}
use Rattle.ioam_dex.specs.Direct.{read_of}
use Rattle.ioam_dex.specs.declared.direct.Direct.{Direct}
use Rattle.ioam_dex.specs.declared.direct.DirectFault.{DirectFault}
use Rattle.ioam_node.specs.declared.place.Place.{Place}
use Rattle.ioam_topo.specs.declared.domain.Domain.{Domain}
use Rattle.ioam_trace.specs.Filled.{answer_of}
use Rattle.ioam_trace.specs.declared.addition.Filled.{Filled}
use Rattle.ioam_trace.specs.declared.addition.Filled.TheVariants as fill
use Rattle.ioam_node_visit.specs.Met.{met_of}
use Rattle.ioam_node_visit.specs.Seeing.{view_of}
use Rattle.ioam_node_visit.specs.Step.{knows, space_in}
use Rattle.ioam_node_visit.specs.declared.met.Met.{Met}
use Rattle.ioam_node_visit.specs.declared.met.Met.TheVariants as met
use Rattle.ioam_node_visit.specs.declared.note.NodeNote.{NodeNote}
use Rattle.ioam_node_visit.specs.declared.note.What.{What}
use Rattle.ioam_node_visit.specs.declared.note.What.TheVariants as what

-- a note of an option of a namespace, a direct export or a trace
abbrev pub note : ℕ → Bool → What → NodeNote
note space direct done = record { namespace = record { 0 = space }; direct = direct; what = done }

-- that of an option that is too short to be read
abbrev pub short_note : NodeNote
short_note = note 0 false what.Short

-- what filling a trace did
abbrev pub what_done : Filled → What
what_done (fill.Added words) = what.Added words
what_done fill.Overflowed = what.Overflowed
what_done fill.AlreadyOver = what.AlreadyOver
what_done fill.Unsuited = what.Unsuited

-- what is done with a trace of a namespace, by its octets
abbrev pub filled_what : Domain → List (List Sample) → Place → ℕ → ℕ → ℕ → List ℕ → What
filled_what domain readings place time hops space octets =
    if knows domain place.node.0 space then what_done (answer_of octets (view_of domain readings place time hops space)) else what.Unknown

-- the note of a trace: its header has 8 octets
unfoldable pub trace_note : Domain → List (List Sample) → Place → ℕ → ℕ → List ℕ → NodeNote
trace_note domain readings place time hops body =
    if nat_le 10 (length body)
    then note (space_in body) false (filled_what domain readings place time hops (space_in body) (drop 2 body))
    else short_note

-- the note of direct export data, as they are read
abbrev pub direct_note : Domain → ℕ → Result Direct DirectFault → NodeNote
direct_note domain node (Ok direct) =
    note direct.namespace.0 true (if knows domain node direct.namespace.0 then what.Exported else what.Unknown)
direct_note domain node (Err fault) = short_note

-- the notes of an option, by what it is to the node
abbrev pub notes_by : Domain → List (List Sample) → Place → ℕ → ℕ → Met → List ℕ → List NodeNote
notes_by domain readings place time hops met.Cut body = short_note ∷ []
notes_by domain readings place time hops met.Trace body = trace_note domain readings place time hops body ∷ []
notes_by domain readings place time hops met.Direct body = direct_note domain place.node.0 (read_of (drop 2 body)) ∷ []
notes_by domain readings place time hops met.Other body = []

-- the notes that a node makes of an option of this type and data
unfoldable pub notes_of : Domain → List (List Sample) → Place → ℕ → ℕ → ℕ → List ℕ → List NodeNote
notes_of domain readings place time hops kind body = notes_by domain readings place time hops (met_of kind body) body
