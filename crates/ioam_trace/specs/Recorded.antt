-- What is read of a trace that nodes filled.
use Rattle.std.specs.Prelude.{ℕ, ◌/◌, ◌≡◌, if◌then◌else◌, List, Result, IsOkAnd}
use Rattle.ioam_trace.specs.Data.{is_over, recorded, AreRecorded, trace_data, CanHold}
use Rattle.ioam_trace.specs.Read.{elements_in}
use Rattle.ioam_trace.specs.declared.trace.Trace.{Trace}
use Rattle.ioam_trace.specs.declared.fault.TraceFault.{TraceFault}

-- What reading answers of octets that nodes filled: the trace with the elements that were recorded, which
-- are the longest front of the given ones that fits, and the most significant flag set where some did not.
abbrev pub ReadsAgain : List ℕ → Result Trace TraceFault → Type 0
ReadsAgain octets result = (namespace kind capacity : ℕ) (elements : List (List ℕ)) → CanHold namespace kind capacity elements
    → octets ≡ trace_data namespace kind capacity elements
    → IsOkAnd result (λ trace. (trace.head.namespace.0 ≡ namespace) × (trace.head.kind ≡ kind)
    × (trace.head.flags / 8 ≡ (if is_over capacity elements then 1 else 0)) × (elements_in trace ≡ recorded capacity elements)
    × AreRecorded capacity elements (elements_in trace))
