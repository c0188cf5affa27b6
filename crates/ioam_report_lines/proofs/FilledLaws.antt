-- The lines of a trace that an entry node began and nodes filled.
use Rattle.std.proofs.Common.{◌≡◌, ℕ, List, ap, ◌∙◌}
use Rattle.std.specs.Bool.{if◌then◌else◌}
use Rattle.ioam_data.specs.Kind.{words}
use Rattle.ioam_trace.specs.Data.{CanHold, is_over, recorded, trace_data}
use Rattle.ioam_trace.specs.Head.{kind_of, node_len_of, overflow_of, remaining_of}
use Rattle.ioam_trace.specs.Read.{elements_behind}
use Rattle.ioam_trace.proofs.DataLaws.{ReadsRecorded-CanHold}
use Rattle.ioam_report_lines.specs.TraceText.{lines_by, trace_lines, whole_lines}

-- they are those of the elements that were recorded, flagged where not all fitted
pub trace_lines-recorded : (namespace kind capacity : ℕ) (elements : List (List ℕ)) → CanHold namespace kind capacity elements
    → trace_lines (trace_data namespace kind capacity elements)
    ≡ whole_lines namespace kind (if is_over capacity elements then 1 else 0) (words kind) (recorded capacity elements)
unfolding trace_lines
trace_lines-recorded namespace kind capacity elements holds =
    let octets = trace_data namespace kind capacity elements in
    let read = ReadsRecorded-CanHold namespace kind capacity elements holds in
    let behind : List (List ℕ) = elements_behind (remaining_of octets) octets in
    ap (λ fault. lines_by octets fault) read.no_fault
    ∙ ap (λ n. whole_lines n (kind_of octets) (overflow_of octets) (node_len_of octets) behind) read.namespace_is
    ∙ ap (λ n. whole_lines namespace n (overflow_of octets) (node_len_of octets) behind) read.kind_is
    ∙ ap (λ n. whole_lines namespace kind n (node_len_of octets) behind) read.overflow_is
    ∙ ap (λ n. whole_lines namespace kind (if is_over capacity elements then 1 else 0) n behind) read.node_len_is
    ∙ ap (λ es. whole_lines namespace kind (if is_over capacity elements then 1 else 0) (words kind) es) read.elements
