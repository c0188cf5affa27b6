-- What the lines of octets are, in the words of what the octets hold.
use Rattle.std.proofs.Common.{◌≡◌, ℕ, ◌/◌, List, sym, ap, ◌∙◌, subst, None, arith}
use Rattle.ioam_trace.specs.Head.{node_len_of, overflow_of, remaining_of, kind_of}
use Rattle.ioam_trace.specs.Read.{Carries, TraceOf, HasFault, fault_of, elements_behind}
use Rattle.ioam_trace.specs.declared.head.TraceHead.{TraceHead}
use Rattle.ioam_trace.specs.declared.fault.TraceFault.{TraceFault}
use Rattle.ioam_trace.proofs.ReadLaws.{fault_of-Carries, elements_behind-Carries, fault_of-HasFault}
use Rattle.ioam_report_lines.specs.TraceText.{whole_lines, bad_line, lines_by, trace_lines, IsTraceText}

-- a trace is printed as its header and its elements
pub trace_lines-TraceOf : (octets : List ℕ) (head : TraceHead) (elements : List (List ℕ)) → TraceOf octets head elements
    → trace_lines octets ≡ whole_lines head.namespace.0 head.kind (head.flags / 8) head.node_len elements
unfolding trace_lines
trace_lines-TraceOf octets head elements trace =
    let P : ℕ → Type 0 = λ free. Carries free octets head elements in
    let carries : Carries (remaining_of octets) octets head elements = subst P trace.is_head.remaining trace in
    let none : fault_of (remaining_of octets) octets ≡ None = fault_of-Carries (remaining_of octets) octets head elements carries in
    let same : elements_behind (remaining_of octets) octets ≡ elements = elements_behind-Carries (remaining_of octets) octets head elements carries in
    let overflow : overflow_of octets ≡ head.flags / 8 = omega (arith, trace.is_head.flags) in
    ap (lines_by octets) none
    ∙ ap (λ n. whole_lines n (kind_of octets) (overflow_of octets) (node_len_of octets) (elements_behind (remaining_of octets) octets)) (sym trace.is_head.namespace)
    ∙ ap (λ n. whole_lines head.namespace.0 n (overflow_of octets) (node_len_of octets) (elements_behind (remaining_of octets) octets)) (sym trace.is_head.kind)
    ∙ ap (λ n. whole_lines head.namespace.0 head.kind n (node_len_of octets) (elements_behind (remaining_of octets) octets)) overflow
    ∙ ap (λ n. whole_lines head.namespace.0 head.kind (head.flags / 8) n (elements_behind (remaining_of octets) octets)) (sym trace.is_head.node_len)
    ∙ ap (whole_lines head.namespace.0 head.kind (head.flags / 8) head.node_len) same

-- octets that are no trace are printed as their first fault
pub trace_lines-HasFault : (octets : List ℕ) (fault : TraceFault) → HasFault (remaining_of octets) octets fault → trace_lines octets ≡ bad_line fault
unfolding trace_lines
trace_lines-HasFault octets fault has = ap (lines_by octets) (fault_of-HasFault (remaining_of octets) octets fault has)

-- the function gives the text of what the octets hold
pub IsTraceText-trace_lines : (octets : List ℕ) → IsTraceText octets (trace_lines octets)
IsTraceText-trace_lines octets = record { whole = trace_lines-TraceOf octets; bad = trace_lines-HasFault octets }
