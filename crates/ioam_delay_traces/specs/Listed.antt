-- The traces that are counted are those that `paths` lists, each with its elements.
use Rattle.std.specs.Prelude.{◌≡◌, ℕ, ◌/◌, ◌==◌, List, drop, Option, Some, None}
use Rattle.std.specs.List.{AllZip}
use Rattle.ioam_delay_counts.specs.Courses.{Course}
use Rattle.ioam_delay_traces.specs.Shown.{limit_of, shown_of}
use Rattle.ioam_delay_traces.specs.Traces.{sights_of}
use Rattle.ioam_ip.specs.Options.{Item}
use Rattle.ioam_report_lines.specs.TraceText.{IsTraceText}
use Rattle.ioam_report_lines.specs.TracesText.{AreTraces, TracesText, option_lines, traces_lines}
use Rattle.ioam_trace.specs.Head.{remaining_of}
use Rattle.ioam_trace.specs.Read.{HasFault, TraceOf}
use Rattle.ioam_trace.specs.declared.fault.TraceFault.{TraceFault}
use Rattle.ioam_trace.specs.declared.head.TraceHead.{TraceHead}

-- what is counted of octets: of a trace with a header and elements what these say, and of others that they are no trace
pub record IsCounted (units limit : ℕ) (octets : List ℕ) (one : Option Course) : Type 0 where
  pub whole : (head : TraceHead) (elements : List (List ℕ)) → TraceOf octets head elements → one ≡ Some (record {
    namespace = head.namespace.0;
    overflow = head.flags / 8 == 1;
    limit = limit;
    sights = sights_of units head.kind head.node_len elements;
  })
  pub bad : (fault : TraceFault) → HasFault (remaining_of octets) octets fault → one ≡ None

-- the lines of an option, and what is counted of it, are of the same octets
abbrev pub ListedAs : ℕ → ℕ → Item → Option Course → Type 0
ListedAs units limit item one = IsTraceText (drop 2 item.body) (option_lines item) × IsCounted units limit (drop 2 item.body) one

-- a text of `paths` has the lines of some traces of the packet, and these are counted, in their order
pub record AreListed (units : ℕ) (p text : List ℕ) : Type 0 where
  pub traces : List Item
  pub are_traces : AreTraces p traces
  pub text_is : text ≡ traces_lines traces
  pub counted : AllZip (ListedAs units (limit_of p)) traces (shown_of units p)

-- every text that `paths` may write of a packet has
abbrev pub ShowsListed : ℕ → List ℕ → Type 0
ShowsListed units p = (text : List ℕ) → TracesText p text → AreListed units p text
