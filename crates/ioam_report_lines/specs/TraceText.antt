-- How a trace is printed (RFC 9197 section 4.4.1): a line for the header and one for each element, or
-- one that says why the octets are no trace.
use Rattle.std.specs.Prelude.{ℕ, ◌/◌, ◌≡◌, ◌==◌, if◌then◌else◌, List, [], ◌∷◌, ◌++◌, Option, Some, None, length, drop, decimal, codes}
use Rattle.std.specs.List.{flat_map}
use Rattle.std.specs.Int.{w32, to_be_bytes}
use Rattle.ioam_base.specs.Octets.{u16_at}
use Rattle.ioam_trace.specs.Head.{node_len_of, overflow_of, remaining_of, kind_of}
use Rattle.ioam_trace.specs.Read.{TraceOf, HasFault, fault_of, elements_behind}
use Rattle.ioam_trace.specs.declared.head.TraceHead.{TraceHead}
use Rattle.ioam_trace.specs.declared.fault.TraceFault.{TraceFault}
use Rattle.ioam_trace.specs.declared.fault.TraceFault.TheVariants.{Short, Space, NodeLen, Element}
use Rattle.ioam_line.specs.Digits.{digits_of}
use Rattle.ioam_report_lines.specs.FieldsText.{element_text}

-- the octet that ends a line
abbrev pub line_feed : List ℕ
line_feed = 10 ∷ []

-- four spaces and the fields
abbrev pub element_line : ℕ → ℕ → List ℕ → List ℕ
element_line kind node_len element = codes "    " ++ element_text kind node_len element ++ line_feed

-- a namespace, the six digits of a type, whether Overflow is set, and a count of elements
abbrev pub first_line : ℕ → ℕ → ℕ → ℕ → List ℕ
first_line namespace kind overflow count = codes "  trace " ++ decimal namespace
    ++ codes " " ++ digits_of (drop 1 (to_be_bytes w32 kind))
    ++ (if overflow == 1 then codes " overflow " else codes " whole ") ++ decimal count ++ line_feed

-- the lines of a trace with these elements, given in visit order
abbrev pub whole_lines : ℕ → ℕ → ℕ → ℕ → List (List ℕ) → List ℕ
whole_lines namespace kind overflow node_len elements =
    first_line namespace kind overflow (length elements) ++ flat_map (element_line kind node_len) elements

-- why octets are no trace
abbrev pub fault_text : TraceFault → List ℕ
fault_text (Short have) = codes "short " ++ decimal have
fault_text (Space remaining) = codes "space " ++ decimal remaining
fault_text (NodeLen found wanted) = codes "node-len " ++ decimal found ++ codes " " ++ decimal wanted
fault_text (Element at) = codes "element " ++ decimal at

-- the line for octets that are no trace
abbrev pub bad_line : TraceFault → List ℕ
bad_line fault = codes "  trace bad " ++ fault_text fault ++ line_feed

-- the lines of octets whose fault, if any, is this
abbrev pub lines_by : List ℕ → Option TraceFault → List ℕ
lines_by octets (Some fault) = bad_line fault
lines_by octets None =
    whole_lines (u16_at octets 0) (kind_of octets) (overflow_of octets) (node_len_of octets) (elements_behind (remaining_of octets) octets)

-- The lines for the octets behind the IOAM-Option-Type of a trace option. The elements stand in visit order.
unfoldable pub trace_lines : List ℕ → List ℕ
trace_lines octets = lines_by octets (fault_of (remaining_of octets) octets)

-- The same by what the octets hold: a trace with a header and elements has the lines of these, and octets
-- that are no trace the line of their first fault.
pub record IsTraceText (octets text : List ℕ) : Type 0 where
  pub whole : (head : TraceHead) (elements : List (List ℕ)) → TraceOf octets head elements
      → text ≡ whole_lines head.namespace.0 head.kind (head.flags / 8) head.node_len elements
  pub bad : (fault : TraceFault) → HasFault (remaining_of octets) octets fault → text ≡ bad_line fault
