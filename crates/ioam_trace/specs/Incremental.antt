-- Incremental traces as octets (RFC 9197 section 4.4).
use Rattle.std.specs.Prelude.{ℕ, ◌≡◌, ◌<◌, true, List, ◌++◌, Result, IsOkAnd}
use Rattle.ioam_data.specs.Kind.{fits_type}
use Rattle.ioam_trace.specs.Area.{Holds}
use Rattle.ioam_trace.specs.Data.{head_octets}
use Rattle.ioam_trace.specs.declared.head.TraceHead.{TraceHead}
use Rattle.ioam_trace.specs.declared.incremental.Incremental.{Incremental}
use Rattle.ioam_trace.specs.declared.fault.TraceFault.{TraceFault}

-- the header and the elements
abbrev pub incremental_octets : Incremental → List ℕ
incremental_octets trace = head_octets trace.head ++ trace.area.now

-- the same numbers in two headers
pub record IsSameHead (a b : TraceHead) : Type 0 where
  pub namespace : a.namespace.0 ≡ b.namespace.0
  pub node_len : a.node_len ≡ b.node_len
  pub flags : a.flags ≡ b.flags
  pub remaining : a.remaining ≡ b.remaining
  pub kind : a.kind ≡ b.kind
  pub reserved : a.reserved ≡ b.reserved

-- the numbers of a header are within their types
pub record IsHeader (head : TraceHead) : Type 0 where
  pub namespace_below : head.namespace.0 < 65536
  pub kind_below : head.kind < 16777216
  pub reserved_below : head.reserved < 256

-- What was written of a header and of elements behind it is read again as they were.
abbrev pub DecodesAgain : List ℕ → Result Incremental TraceFault → Type 0
DecodesAgain octets result = (head : TraceHead) (area : List ℕ) (elements : List (List ℕ)) → IsHeader head
    → fits_type head.kind head.node_len ≡ true → Holds head.kind head.node_len area elements
    → octets ≡ head_octets head ++ area
    → IsOkAnd result (λ trace. IsSameHead trace.head head × (trace.area.now ≡ area))
