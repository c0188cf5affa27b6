-- What a trace says.
use Rattle.std.specs.Prelude.{ℕ, ◌==◌, List, map, Option, Some, None}
use Rattle.ioam_base.specs.Octets.{u16_at}
use Rattle.ioam_data.specs.Fields.{fields_of}
use Rattle.ioam_delays.specs.Sights.{sight_of}
use Rattle.ioam_delays.specs.declared.sight.Sight.{Sight}
use Rattle.ioam_delay_counts.specs.Courses.{Course}
use Rattle.ioam_trace.specs.Head.{kind_of, node_len_of, overflow_of, remaining_of}
use Rattle.ioam_trace.specs.Read.{elements_behind, elements_in, fault_of}
use Rattle.ioam_trace.specs.declared.fault.TraceFault.{TraceFault}
use Rattle.ioam_trace.specs.declared.trace.Trace.{Trace}

-- what elements say
abbrev pub sights_of : ℕ → ℕ → ℕ → List (List ℕ) → List Sight
sights_of units kind node_len elements = map (λ (element : List ℕ). sight_of units (fields_of kind node_len element)) elements

-- what those of a trace that was read say
abbrev pub sights_in : ℕ → Trace → List Sight
sights_in units trace = sights_of units trace.head.kind trace.head.node_len (elements_in trace)

-- the trace of octets whose fault, if any, is this
abbrev pub course_by : ℕ → ℕ → List ℕ → Option TraceFault → Option Course
course_by units limit octets (Some fault) = None
course_by units limit octets None = Some (record {
  namespace = u16_at octets 0;
  overflow = overflow_of octets == 1;
  limit = limit;
  sights = sights_of units (kind_of octets) (node_len_of octets) (elements_behind (remaining_of octets) octets);
})

-- the trace that the octets after the IOAM-Option-Type are, in a packet of this hop limit, if they are one
abbrev pub course_of : ℕ → ℕ → List ℕ → Option Course
course_of units limit octets = course_by units limit octets (fault_of (remaining_of octets) octets)
